-- `share_summary::summary_of` meets its contract: the refusal, no time, and the shares of the leading threads.
use mathlib.Core.Path.{sym, ap, ◌∙◌}
use native.Mathlib.Omega.{arith}
use Rattle.state.specs.Updates.{whole}
use Rattle.share_summary.specs.declared.Leaders.{Leaders}
use Rattle.share_summary.specs.declared.Summarized.TheVariants as summarized
use Rattle.quotient.specs.Quotient.{quotient}
use Rattle.shares.specs.Shares.{elapsed}
use Rattle.share_summary.specs.Summaries.{most_of, least_of}
use Rattle.shares.proofs.ShareLaws.{times}
use Rattle.share_summary.proofs.SummaryLaws.{summary-unsound, summary-none, summary-is}
use Rattle.share_summary.proofs.summary_of.Goals as goal

pub returns-then-not-sound : goal.returns-then-not-sound
returns-then-not-sound c =
    ap summarized.Refused c.from.ensures
    ∙ sym (summary-unsound (whole c.args.c c.args.dues.now c.args.amounts.now) (sym c.sound.ensures ∙ c.if-not-sound.true))

pub overflow_sub-elapsed : goal.overflow_sub-elapsed
overflow_sub-elapsed c = (times (whole c.args.c c.args.dues.now c.args.amounts.now) 0 (sym c.sound.ensures ∙ c.if-not-sound.false)).order

pub returns-then-elapsed-eq0 : goal.returns-then-elapsed-eq0
returns-then-elapsed-eq0 c =
    sym (summary-none (whole c.args.c c.args.dues.now c.args.amounts.now) (sym c.sound.ensures ∙ c.if-not-sound.false) c.if-elapsed-eq0.true)

pub overflow_cast-c : goal.overflow_cast-c
overflow_cast-c c = omega (arith, (times (whole c.args.c c.args.dues.now c.args.amounts.now) 0 (sym c.sound.ensures ∙ c.if-not-sound.false)).few)

pub leading-l-requires : goal.leading-l-requires
leading-l-requires c = omega (arith, (times (whole c.args.c c.args.dues.now c.args.amounts.now) 0 (sym c.sound.ensures ∙ c.if-not-sound.false)).few)

pub quotient-requires : goal.quotient-requires
quotient-requires c =
    let x = (whole c.args.c c.args.dues.now c.args.amounts.now) in
    let t = times x (most_of x.threads x.header.n) (sym c.sound.ensures ∙ c.if-not-sound.false) in
    (omega (arith, ap (λ (l : Leaders). l.most.total) c.leading-l.ensures, t.total, t.last), omega (arith, t.last))

pub quotient-requires-2 : goal.quotient-requires-2
quotient-requires-2 c =
    let x = (whole c.args.c c.args.dues.now c.args.amounts.now) in
    let t = times x (least_of x.threads x.header.n) (sym c.sound.ensures ∙ c.if-not-sound.false) in
    (omega (arith, ap (λ (l : Leaders). l.least.total) c.leading-l.ensures, t.total, t.last), omega (arith, t.last))

pub returns : goal.returns
returns c =
    let x = (whole c.args.c c.args.dues.now c.args.amounts.now) in
    let h = c.leading-l.ensures in
    ap summarized.Of
    (λ j. record {
      largest = (c.quotient.ensures ∙ ap (λ (y : Leaders). quotient y.most.total (elapsed x)) h) j;
      largest_thread = (h j).most.thread;
      smallest = (c.quotient-2.ensures ∙ ap (λ (y : Leaders). quotient y.least.total (elapsed x)) h) j;
      smallest_thread = (h j).least.thread;
    })
    ∙ sym (summary-is x (sym c.sound.ensures ∙ c.if-not-sound.false) c.if-elapsed-eq0.false)

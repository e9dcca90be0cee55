-- `share_listing::ending::put_listing` meets its contract: the line of the refusal, or the lines of the last state.
use mathlib.Core.Path.{ap, ◌∙◌}
use native.Mathlib.Omega.{arith}
use Rattle.passing.specs.Sequence.{Answer}
use Rattle.state.specs.declared.State.{State}
use Rattle.replay_steps.specs.FileSteps.{begun_with}
use Rattle.replay_steps.proofs.LastLaws.{last-state}
use Rattle.share_listing.proofs.ListingLaws.{refusal-put, shares-put}
use Rattle.share_listing.proofs.ending.put_listing.Goals as goal

pub returns-then-begun-ne0 : goal.returns-then-begun-ne0
returns-then-begun-ne0 c =
    let p = c.put_refusal in
    let b = c.begin-begun in
    record {
      put = refusal-put c.args.file.now (begun_with b.result b.new.dues b.new.amounts) b.ensures.amounts_after c.if-begun-ne0.true p.ensures.put;
      upper_bound = omega (arith, p.ensures.upper_bound);
    }

pub put_refusal-requires : goal.put_refusal-requires
put_refusal-requires c = omega (arith, c.requires)

pub last_answer-last-requires : goal.last_answer-last-requires
last_answer-last-requires c = c.begin-begun.ensures.amounts_after_2 c.if-begun-ne0.false

pub put_shares-requires : goal.put_shares-requires
put_shares-requires c = (c.last_answer-last.ensures.amounts_after_2, omega (arith, c.requires))

pub returns : goal.returns
returns c =
    let p = c.put_shares in
    let l = c.last_answer-last in
    let b = c.begin-begun in
    let begun = begun_with b.result b.new.dues b.new.amounts in
    let e = ap (λ (x : Answer State). x.state) l.ensures.amounts_after ∙ last-state begun.answer c.args.file.now begun.offset 1500 in
    record {
      put = shares-put c.args.file.now begun b.ensures.amounts_after c.if-begun-ne0.false _ e p.ensures.put;
      upper_bound = omega (arith, p.ensures.upper_bound);
    }

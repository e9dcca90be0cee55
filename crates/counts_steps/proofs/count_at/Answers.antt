-- `counts_steps::count_at` meets its contract: a step of the file, its numbers added to the sums, and its lines.
use mathlib.Core.Path.{subst⁻¹}
use borrow.Author.Tests.{not-true, not-false}
use Rattle.state.specs.Updates.{whole}
use Rattle.replay_steps.specs.FileSteps.{stepped_with}
use Rattle.listing.proofs.PrintLaws.{few}
use Rattle.counts_text.specs.Sums.{Addable}
use Rattle.counts_steps.proofs.CountLaws.{addable, end-counts, event-counts}
use Rattle.counts_steps.proofs.count_at.Goals as goal

pub add-requires : goal.add-requires
add-requires c =
    let a = c.args in
    subst⁻¹ (Addable a.sums.now) c.step_at-step.ensures.numbers
    (addable a.i a.sums.now c.requires.2 (whole a.c a.dues.now a.amounts.now) a.file.now a.offset c.requires.1)

pub returns-then-not-step : goal.returns-then-not-step
returns-then-not-step c =
    let a = c.args in
    let t = c.step_at-step in
    let y =
    end-counts a.i (whole a.c a.dues.now a.amounts.now) a.file.now a.offset a.out.now (stepped_with t.result t.new.dues t.new.amounts) c.requires.2
    t.ensures.amounts_after t.ensures.amounts_after_2 t.ensures.numbers c.add.ensures (not-true _ c.if-not-step.true) in
    record { amounts_after = y.0; put = y.1.0; sums_after = y.1.1.0; amounts_after_2 = y.1.1.1 }

pub put_event-length-requires : goal.put_event-length-requires
put_event-length-requires c =
    let a = c.args in
    (c.requires.1, few (whole a.c a.dues.now a.amounts.now) c.requires.0, c.requires.3)

pub returns : goal.returns
returns c =
    let a = c.args in
    let t = c.step_at-step in
    let p = c.put_event-length in
    let y =
    event-counts a.i (whole a.c a.dues.now a.amounts.now) a.file.now a.offset a.out.now (stepped_with t.result t.new.dues t.new.amounts) c.requires.2
    t.ensures.amounts_after t.ensures.amounts_after_2 t.ensures.numbers c.add.ensures (not-false _ c.if-not-step.false) p.ensures.put p.ensures.upper_bound in
    record { amounts_after = y.0; put = y.1.0; sums_after = y.1.1.0; amounts_after_2 = y.1.1.1 }

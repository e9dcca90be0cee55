-- `executive::step` meets its contract: no event comes after it.
use mathlib.Core.Path.{ap, ◌∙◌}
use Rattle.state.specs.Updates.{whole}
use Rattle.executive.specs.Steps.{answer_to, numbers_of}
use Rattle.executive.proofs.LastLaws.{single}
use Rattle.executive.proofs.step.Goals as goal

pub returns : goal.returns
returns c =
    let a = c.args in
    let y = single (whole a.c a.dues.now a.amounts.now) a.e _ 0 in
    record { amounts_after = c.answer_last.ensures.amounts_after ∙ ap answer_to y; numbers = c.answer_last.ensures.numbers ∙ ap numbers_of y }

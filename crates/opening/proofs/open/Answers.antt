-- `opening::open` meets its contract.
use mathlib.Core.Path.{refl, sym, ap, ap₂, ◌∙◌}
use Rattle.state.specs.Updates.{whole}
use Rattle.answers.specs.declared.Answer.{Answer}
use Rattle.answers.specs.Answer.{answer_of}
use Rattle.events.proofs.RefusedLaws.{refused}
use Rattle.opening.proofs.OpenLaws.{closed_is, opened-state, opened-is}
use Rattle.opening.proofs.open.Goals as goal

pub returns-in-Err : goal.returns-in-Err
returns-in-Err c =
    let a = c.args in
    let e = c.empty_core-none in
    ap (λ (r : Answer). answer_of r c.clear.new.xs c.clear-2.new.xs) c.nothing_runs.ensures
    ∙ closed_is a.header a.table _ (c.from.ensures ∙ c.in-Err.ensures) (λ z. refused c.in-Err.refusal (sym c.from.ensures ∙ z)) _ (ap₂ (whole e.result) c.clear.ensures c.clear-2.ensures ∙ e.ensures)

pub opened_answer-requires : goal.opened_answer-requires
opened_answer-requires c =
    let a = c.args in
    opened-state a.header a.table 0 c.in_default.ensures refl _ c.opened-c.ensures

pub returns : goal.returns
returns c =
    let a = c.args in
    c.opened_answer.ensures ∙ opened-is a.header a.table 0 c.in_default.ensures refl _ c.opened-c.ensures

-- `executive::statuses::early_status` meets its contract.
use Rattle.std.proofs.Common.{rules}
use mathlib.Core.Path.{◌≡◌, sym, ◌∙◌}
use Rattle.base.specs.Status.{as_status, number_of}
use Rattle.events.specs.Answers.{field_status_of}
use Rattle.events.proofs.RefusedLaws.{refused}
use Rattle.executive.proofs.StatusLaws.{early-fields, early-time}
use Rattle.executive.proofs.statuses.early_status.Goals as goal

pub returns-in_err-field_status : goal.returns-in_err-field_status
returns-in_err-field_status c =
    let a = c.args in
    let r = c.in_err-field_status.field-0.0 in
    let f : number_of r ≡ field_status_of a.n a.e = c.in_err-field_status.ensures in
    let w : as_status c.from_residual.result ≡ number_of r = search rules in
    w ∙ f ∙ early-fields a.n a.now a.e (λ z. refused r (f ∙ z))

pub returns : goal.returns
returns c = let a = c.args in c.time_status.ensures ∙ early-time a.n a.now a.e (sym c.in_ok-field_status.ensures)

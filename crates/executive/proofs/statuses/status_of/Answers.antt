-- `executive::statuses::status_of` meets its contract.
use Prim.Native.Nat.{ℕ}
use mathlib.Core.Bool.{false}
use Rattle.std.proofs.Common.{rules}
use mathlib.Core.Path.{◌≡◌, sym, ap, ◌∙◌}
use lib.Dec.{eqb}
use Rattle.base.specs.Status.{as_status, number_of}
use Rattle.base.proofs.RefusalLaws.{given-first, given-second}
use Rattle.events.specs.Answers.{state_status_of}
use Rattle.events.proofs.RefusedLaws.{refused}
use Rattle.executive.specs.Private.{early_status}
use Rattle.executive.proofs.statuses.status_of.Goals as goal

pub returns-in_err-early_status : goal.returns-in_err-early_status
returns-in_err-early_status c =
    let a = c.args in
    let r = c.in_err-early_status.field-0.0 in
    let f : number_of r ≡ early_status a.n a.now a.e = c.in_err-early_status.ensures in
    let w : as_status c.from_residual.result ≡ number_of r = search rules in
    w ∙ f ∙ sym (given-first _ _ (λ z. refused r (f ∙ z)))

pub returns : goal.returns
returns c =
    let a = c.args in
    c.state_status.ensures
    ∙ ap (λ (p : ℕ). state_status_of a.e.kind (eqb p 0) a.blocked false) c.highest-level.ensures
    ∙ sym (given-second _ _ (sym c.in_ok-early_status.ensures))

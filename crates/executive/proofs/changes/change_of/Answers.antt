-- `executive::changes::change_of` meets its contract.
use mathlib.Core.Path.{ap, ap₂, ◌∙◌}
use Rattle.account.specs.declared.Pending.{Pending}
use Rattle.account.specs.declared.Account.{Account}
use Rattle.thread.specs.declared.Thread.{Thread}
use Rattle.thread.specs.Thread.{with_blocked}
use Rattle.events.specs.Events.{becomes, change_of}
use Rattle.executive.proofs.ChangeLaws.{change-at, change-last}
use Rattle.executive.proofs.changes.change_of.Goals as goal

abbrev with_entries : Thread → Pending → Account
with_entries t q = record { server = t.server; pending = q }

pub returns-then-e-eq-BLOCK : goal.returns-then-e-eq-BLOCK
unfolding change_of
returns-then-e-eq-BLOCK c =
    let a = c.args in
    c.change_to.ensures ∙ ap₂ (becomes a.t (with_entries a.t a.q)) c.with_blocked-u.ensures c.after_block-b.ensures ∙ change-at a.e.kind a.e.time a.e.parameters a.t (with_entries a.t a.q) 1 c.if-e-eq-BLOCK.true

pub returns-then-e-eq-YIELD : goal.returns-then-e-eq-YIELD
unfolding change_of
returns-then-e-eq-YIELD c =
    let a = c.args in
    c.change_to-then-e-eq-YIELD.ensures ∙ ap (λ (u : Thread). becomes a.t (with_entries a.t a.q) u (with_entries a.t a.q)) c.full_quantum-u.ensures ∙ change-at a.e.kind a.e.time a.e.parameters a.t (with_entries a.t a.q) 2 c.if-e-eq-YIELD.true

pub returns-then-e-eq-WAKE : goal.returns-then-e-eq-WAKE
unfolding change_of
returns-then-e-eq-WAKE c =
    let a = c.args in
    let u = c.with_blocked-u-then-e-eq-WAKE.ensures ∙ ap (with_blocked 0) c.full_quantum.ensures in
    c.change_to-then-e-eq-WAKE.ensures ∙ ap₂ (becomes a.t (with_entries a.t a.q)) u c.after_wake-b.ensures ∙ change-at a.e.kind a.e.time a.e.parameters a.t (with_entries a.t a.q) 3 c.if-e-eq-WAKE.true

pub returns : goal.returns
unfolding change_of
returns c =
    let a = c.args in
    c.change_to-2.ensures ∙ ap₂ (becomes a.t (with_entries a.t a.q)) c.renew-u.ensures c.set_account-b.ensures
    ∙ change-last a.e.kind a.e.time a.e.parameters a.t (with_entries a.t a.q) c.requires.0 c.if-e-eq-BLOCK.false c.if-e-eq-YIELD.false c.if-e-eq-WAKE.false

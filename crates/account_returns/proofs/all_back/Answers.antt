-- `account_returns::all_back` meets its contract: what came back is one of those that were pending.
use Rattle.account.proofs.ReturnLaws.{returned-more}
use Rattle.account.specs.declared.Outcome.{Outcome}
use Rattle.account.specs.Rules.{applied}
use Rattle.sporadic.specs.declared.Effect.{Effect}
use mathlib.Core.Path.{sym, ap, ◌∙◌}
use Rattle.account_returns.proofs.all_back.Goals as goal

pub loop-p-preserved : goal.loop-p-preserved
loop-p-preserved c =
    let a = c.args in
    rw (ap (λ (o : Outcome). o.account) c.outcome_of.ensures ∙ ap (λ (e : Effect). applied e c.loop-p.r) c.return_first.ensures)
    (returned-more a.now a.blocked a.p c.loop-p.r (sym c.first_is_due.ensures ∙ c.loop-p-test.true) ∙ c.loop-p.invariant)

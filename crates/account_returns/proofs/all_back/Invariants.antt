-- `account_returns::all_back` meets its contract. The invariant: what is left to come back gives the same account.
use Rattle.account.specs.Rules.{returned}
use mathlib.Core.Path.{◌≡◌}
use Rattle.account_returns.proofs.all_back.Given as goal

abbrev pub invariant-loop-p : goal.invariant-loop-p
invariant-loop-p l = returned l.r.pending.count l.now l.blocked l.p l.r ≡ returned l.initial.r.pending.count l.now l.blocked l.p l.initial.r

abbrev pub decreases-loop-p : goal.decreases-loop-p
decreases-loop-p l = l.r.pending.count

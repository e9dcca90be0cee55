-- `moments::advance` meets its contract: each turn does one thing that happens, or charges the ticks up to it, and time goes on from there as it did before.
use Rattle.state.specs.Updates.{whole}
use Rattle.moments.proofs.TurnLaws.{weight}
use Rattle.moments.proofs.AdvanceLaws.{Between}
use Rattle.moments.proofs.advance.Given as goal

abbrev pub invariant-loop-j : goal.invariant-loop-j
invariant-loop-j l = Between (whole l.initial.s l.initial.dues l.initial.amounts) l.t (whole l.s l.dues l.amounts) l.told l.waiting l.x

abbrev pub decreases-loop-j : goal.decreases-loop-j
decreases-loop-j l = weight l.t (whole l.s l.dues l.amounts)

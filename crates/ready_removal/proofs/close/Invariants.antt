-- `ready_removal::close` meets its contract. The invariant: the gap has moved up to place j.
use mathlib.Core.Path.{◌≡◌}
use Rattle.ready_removal.proofs.GapLaws.{upto}
use Rattle.ready_removal.proofs.close.Given as goal

abbrev pub invariant-loop-j : goal.invariant-loop-j
invariant-loop-j l = l.lists ≡ upto l.initial.lists l.at l.j

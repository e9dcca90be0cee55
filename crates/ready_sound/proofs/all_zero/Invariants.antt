-- `ready_sound::all_zero` meets its contract: the bits that were seen and what is left to test give the whole answer.
use mathlib.Core.Path.{◌≡◌}
use mathlib.Core.Bool.{false, cond}
use lib.ListN.{drop}
use lib.Dec.{eqb}
use Rattle.base.specs.Tests.{all, zeros}
use Rattle.ready_sound.proofs.all_zero.Given as goal

abbrev pub invariant-loop-x : goal.invariant-loop-x
invariant-loop-x l = cond (eqb l.bits 0) (all (zeros (drop l.x-index l.s))) false ≡ all (zeros l.s)

-- `slots_clear::bits_of` meets its contract: the bits that were seen and what is left give the whole answer.
use mathlib.Core.Path.{◌≡◌}
use mathlib.Core.Bool.{false, cond}
use lib.ListN.{drop}
use lib.Dec.{eqb}
use Rattle.base.specs.Tests.{all, zeros}
use Rattle.slots_clear.proofs.bits_of.Given as goal

abbrev pub invariant-loop-x : goal.invariant-loop-x
invariant-loop-x l = cond (eqb l.bits 0) (all (zeros (drop l.x-index l.xs))) false ≡ all (zeros l.xs)

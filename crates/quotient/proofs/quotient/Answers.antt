-- `quotient::quotient` meets its contract: both conversions are exact.
use Prim.Native.Nat.{◌^◌, ◌≤◌}
use mathlib.Core.Path.{refl}
use native.Mathlib.Omega.{arith}
use lib.Dec.{le→leb}
use lib.Ieee.{in_float}
use Rattle.quotient.specs.Quotient.{quotient}
use Rattle.quotient.proofs.quotient.Goals as goal

pub int_to_float-result : goal.int_to_float-result
unfolding in_float
int_to_float-result c = let h : c.args.total ≤ 2 ^ 53 = omega (arith, c.requires.0) in le→leb _ _ h

pub int_to_float-result-2 : goal.int_to_float-result-2
unfolding in_float
int_to_float-result-2 c = let h : c.args.elapsed ≤ 2 ^ 53 = omega (arith, c.requires.1) in le→leb _ _ h

pub returns : goal.returns
unfolding quotient
returns c = refl

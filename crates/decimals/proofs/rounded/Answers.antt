-- `decimals::rounded` meets its contract: twice the rest is compared with the unit by its limbs.
use native.Mathlib.Omega.{arith}
use Rattle.decimals.proofs.RoundLaws.{less-than-half, more-than-half, just-half}
use Rattle.decimals.proofs.rounded.Goals as goal

pub returns-then-high-lt-HALF : goal.returns-then-high-lt-HALF
returns-then-high-lt-HALF c =
    let a = c.args in
    less-than-half a.digits a.high a.low c.if-high-lt-HALF.true c.requires.2

pub returns-then-high-gt-HALF : goal.returns-then-high-gt-HALF
returns-then-high-gt-HALF c =
    let a = c.args in
    more-than-half a.digits a.high a.low (omega (arith, c.if-high-gt-HALF.true))

pub returns-then-low-gt0 : goal.returns-then-low-gt0
returns-then-low-gt0 c =
    let a = c.args in
    more-than-half a.digits a.high a.low (omega (arith, c.if-low-gt0.true, c.if-high-gt-HALF.false, c.if-high-lt-HALF.false))

pub returns : goal.returns
returns c =
    let a = c.args in
    just-half a.digits a.high a.low (omega (arith, c.if-low-gt0.false, c.if-high-gt-HALF.false, c.if-high-lt-HALF.false))

-- `decimals::decimals_of` meets its contract: the limbs are an equal fraction.
use mathlib.Core.Path.{◌∙◌}
use native.Mathlib.Omega.{arith}
use lib.Ieee.Positive.{den, den_pos, num}
use Rattle.decimals.specs.Private.{unit, joined}
use Rattle.decimals.proofs.RoundLaws.{decimals-same}
use Rattle.decimals.proofs.decimals_of.Goals as goal

pub spelt-requires : goal.spelt-requires
spelt-requires c = (c.split.ensures.high, c.split.ensures.low)

pub returns : goal.returns
returns c =
    let s = c.split in
    let x = c.args.x in
    record { value = c.spelt.ensures.value ∙ decimals-same unit (den x) (omega arith) (den_pos x) (joined s.result) (num x) s.ensures.value; within = c.spelt.ensures.within }

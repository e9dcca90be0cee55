-- `decimals::spelt` meets its contract: the digits so far and what is left are the fraction.
use Prim.Native.Nat.{◌+◌, ◌-◌, ◌*◌}
use Rattle.decimals.specs.Decimals.{most_places}
use Rattle.decimals.specs.Private.{limb, unit}
use Rattle.decimals.proofs.SpellLaws.{Spelling}
use Rattle.decimals.proofs.spelt.Given as goal

abbrev pub invariant-loop-down : goal.invariant-loop-down
invariant-loop-down l = Spelling (l.initial.digits * unit + (l.initial.high * limb + l.initial.low)) l.digits l.high l.low l.places

abbrev pub decreases-loop-down : goal.decreases-loop-down
decreases-loop-down l = most_places - l.places

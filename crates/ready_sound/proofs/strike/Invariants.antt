-- `ready_sound::strike` meets its contract: what is left to strike off gives the whole answer.
use mathlib.Core.Path.{◌≡◌}
use lib.ListN.{length, drop}
use Rattle.ready_sound.specs.Private.{strikes, struck}
use Rattle.ready_sound.proofs.strike.Given as goal

abbrev pub invariant-loop-x : goal.invariant-loop-x
invariant-loop-x l =
    (length l.left ≡ 32) × (strikes l.p (drop l.x-index l.s) l.left ≡ strikes l.p l.s l.initial.left) × (struck (drop l.x-index l.s) l.left ≡ struck l.s l.initial.left)

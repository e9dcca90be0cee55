-- `ready_sound::sound` meets its contract: what is left, for the lists that are left, decides the whole.
use Rattle.ready_sound.proofs.PassLaws.{Passing}
use Rattle.ready_sound.proofs.sound.Given as goal

abbrev pub invariant-loop-rest : goal.invariant-loop-rest
invariant-loop-rest l = Passing l.word l.lists l.initial.left l.left l.rest l.end

abbrev pub decreases-loop-rest : goal.decreases-loop-rest
decreases-loop-rest l = l.rest

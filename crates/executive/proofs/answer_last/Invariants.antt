-- The loop of `executive::answer_last`: what is known between its turns, and the events that are left.
use Prim.Native.Nat.{◌+◌, ◌*◌, ◌-◌}
use Rattle.state.specs.Updates.{whole}
use Rattle.trace_reader.specs.Reader.{events_from}
use Rattle.executive.specs.Steps.{last_given}
use Rattle.executive.proofs.StepLaws.{weight}
use Rattle.executive.proofs.LastLaws.{Running}
use Rattle.executive.proofs.answer_last.Given as goal

abbrev pub invariant-loop-stand : goal.invariant-loop-stand
invariant-loop-stand l =
    Running l.file (last_given (whole l.initial.s l.initial.dues l.initial.amounts) l.initial.e (events_from l.file l.initial.offset l.initial.left)) l.e l.offset l.left l.stand (whole l.s l.dues l.amounts) l.told

-- the events that are left, and then what is left of this one
abbrev pub decreases-loop-stand : goal.decreases-loop-stand
decreases-loop-stand l =
    l.left * 2000000000000000 + weight l.stand.done l.stand.judging (l.e.time - l.s.now)

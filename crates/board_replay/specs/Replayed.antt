-- A replay of some of a file's events, over the steps of `replay_steps`.
use Rattle.std.specs.Prelude.{ℕ, eqb}
use mathlib.Core.{Bool.cond, List.List}
use Rattle.trace_reader.specs.Reader.{first_offset}
use Rattle.events.specs.Opening.{no_state}
use Rattle.passing.specs.Sequence.{Answer}
use Rattle.state.specs.declared.State.{State}
use Rattle.replay_steps.specs.FileSteps.{opening_of, begun_of, answers_from}
pub use Rattle.replay_steps.specs.FileSteps.{last_of}

-- 01 Events 8, 01 Readings 4: the answer to the last of a file's first `count` events, each being given the state that the one before it
-- returned, or else to the opening. Ours: a count above the number of events stands for all of them. 01 Status 20, 01 Replay 8: a file
-- that is refused, by the read or the opening, has that number, no running thread, no next moment, and a state of no threads and zeros.
unfoldable pub replay_of : List ℕ → ℕ → Answer State
replay_of file count =
    cond (eqb (begun_of file).status 0)
    (last_of (opening_of file) (answers_from (opening_of file).state file (first_offset file) count))
    (record { status = (begun_of file).status; running = 255; next = 0; state = no_state })

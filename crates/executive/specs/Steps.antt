-- Events that are given one after another.
use Rattle.std.specs.Prelude.{ℕ}
use mathlib.Core.{List.List, List.[], List.◌∷◌}
use Rattle.records.specs.declared.Event.{Event}
use Rattle.passing.specs.Sequence.{Answer, answer}
use Rattle.state.specs.declared.State.{State}
use Rattle.events.specs.{Answers.executive, Reports.event_numbers}

-- an event, and the state that it is given
pub record Given : Type 0 where
  pub state : State
  pub event : Event

-- 01 Events 8, 01 Readings 4: of an event and those after it, each being given the state that the one before it returned, the last
unfoldable pub last_given : State → Event → List Event → Given
last_given s e [] = record { state = s; event = e }
last_given s e (f ∷ fs) = last_given (answer executive s e).state f fs

-- its answer, and 02 E3 2: what it tells
abbrev pub answer_to : Given → Answer State
answer_to g = answer executive g.state g.event

abbrev pub numbers_of : Given → List ℕ
numbers_of g = event_numbers g.state g.event

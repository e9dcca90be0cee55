-- An event whose time is a reading of a counter of 32 bits (02 E10): the time that the reading stands for, and the event with that time.
-- All else is said of that event by `events`.
use Rattle.std.specs.Prelude.{ℕ, ◌+◌, ◌-◌, ◌%◌, ◌<◌, ◌≤◌, ◌≢◌, nat_lt}
use mathlib.Core.{Path.◌≡◌, Bool.Bool, Bool.not, List.List, List.[], List.◌∷◌}
use Rattle.base.specs.{Status.not_sound, Status.past_last_time, Status.step_too_long, Status.before_now, Refusals.first_refusal, Refusals.given}
use Rattle.records.specs.{declared.Event.Event, Ranges.last_time, Ranges.longest_step}
use Rattle.passing.specs.Sequence.{Answer, answer}
use Rattle.state.specs.{declared.State.State, Sound.sound_state}
use Rattle.moments.specs.Moments.{passed}
use Rattle.events.specs.{Answers.executive, Answers.field_status, Answers.state_status, Reports.event_numbers}
use Rattle.counter.specs.declared.CounterEvent.{CounterEvent}

-- 02 E10 1: a counter of 32 bits has so many readings, and then starts again at 0
abbrev pub wraps_at : ℕ
wraps_at = 4294967296

-- 02 E10 1: the reading minus the low 32 bits of now, wrapping: their difference modulo 4,294,967,296
abbrev pub elapsed_ticks : ℕ → ℕ → ℕ
elapsed_ticks now reading = (reading + wraps_at - now % wraps_at) % wraps_at

-- 02 E10 1: the event's time is now plus that; its other fields are as they stand
abbrev pub event_of : ℕ → CounterEvent → Event
event_of now e = record { time = now + elapsed_ticks now e.reading; kind = e.kind; thread = e.thread; parameters = e.parameters }

-- 02 E10 1 and 4: the answer is that to the event, and so are the numbers that tell what happened (02 E3)
abbrev pub counter_answer : State → CounterEvent → Answer State
counter_answer s e = answer executive s (event_of s.now e)

abbrev pub counter_numbers : State → CounterEvent → List ℕ
counter_numbers s e = event_numbers s (event_of s.now e)

-- 02 E10 1: the elapsed ticks are the only number below 4,294,967,296 after which the counter shows the reading
abbrev pub ElapsedIsDifference : Type 0
ElapsedIsDifference =
    (now reading ticks : ℕ) → reading < wraps_at
    → (elapsed_ticks now reading < wraps_at) × (((now + elapsed_ticks now reading) % wraps_at ≡ reading)
    × (ticks < wraps_at → (now + ticks) % wraps_at ≡ reading → ticks ≡ elapsed_ticks now reading))

-- 02 E10 2: what the counter shows of an event: the low 32 bits of its time
abbrev pub shown : Event → CounterEvent
shown e = record { reading = e.time % wraps_at; kind = e.kind; thread = e.thread; parameters = e.parameters }

-- 02 E10 2: equal to the event with the full time, in the answer and in the numbers, where the true step is 0 to 4,294,967,295 ticks
abbrev pub SameAsFullTime : Type 0
SameAsFullTime =
    (s : State) (e : Event) → s.now ≤ e.time → e.time - s.now ≤ 4294967295
    → (counter_answer s (shown e) ≡ answer executive s e) × (counter_numbers s (shown e) ≡ event_numbers s e)

-- 02 E10 3: a reading that went back by 1 to 4,293,967,295 ticks, which is one that shows the low 32 bits of now so many ticks later, shows
-- as a step above 1,000,000, is refused and changes nothing
abbrev pub BackIsRefused : Type 0
BackIsRefused =
    (s : State) (e : CounterEvent) (back : ℕ) → (e.reading + back) % wraps_at ≡ s.now % wraps_at → 1 ≤ back → back ≤ 4293967295
    → (longest_step < elapsed_ticks s.now e.reading) × ((0 < (counter_answer s e).status) × ((counter_answer s e).state ≡ s))

-- 02 E10 4, 01 Status 15: the refusals of events in their order, less 1; the step is judged by the elapsed ticks
abbrev pub refusals : State → CounterEvent → List (Bool × ℕ)
refusals s e =
    let f = event_of s.now e in
    let ticks = elapsed_ticks s.now e.reading in
    (not (sound_state s), not_sound) ∷ given (field_status s f) ∷ (nat_lt last_time f.time, past_last_time) ∷ (nat_lt longest_step ticks, step_too_long)
    ∷ given (state_status (passed s f.time) f)
    ∷ []

abbrev pub RefusedInOrder : Type 0
RefusedInOrder = (s : State) (e : CounterEvent) → (counter_answer s e).status ≡ first_refusal (refusals s e)

-- 02 E10 4: 1 isn't given
abbrev pub NeverBeforeNow : Type 0
NeverBeforeNow = (s : State) (e : CounterEvent) → (counter_answer s e).status ≢ before_now

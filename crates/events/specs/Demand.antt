-- Demand 3 at the executive, and what every accepted answer leaves.
use Rattle.std.specs.Prelude.{ℕ, ◌+◌, ◌≤◌, ◌<◌, length}
use mathlib.Core.{Bool.true, Bool.false, Path.◌≡◌, List.List, List.[]}
use Rattle.records.specs.{declared.Parameters.Parameters, declared.Header.Header, declared.Event.Event, Ranges.highest_priority, Ranges.last_time}
use Rattle.ready.specs.Lists.{threads, head_of}
use Rattle.passing.specs.{Time.due_by, Time.charge_to, Time.moment, Sequence.status, Sequence.answer, Readings.ExtraReadings}
use Rattle.state.specs.{declared.State.State, Sound.totals, Sound.sound_state}
use Rattle.ticks.specs.Running.{level, running, next}
use Rattle.moments.specs.Moments.{clock, passed}
use Rattle.events.specs.{Answers.executive, Opening.opening}

-- 01 Readings 1 to 13: extra clock readings before accepted events change no answer and no field of the end state
abbrev pub ReadingsChangeNothing : Type 0
ReadingsChangeNothing = ExtraReadings executive

-- an accepted event leaves a sound state
abbrev pub AcceptedIsSound : Type 0
AcceptedIsSound = (s : State) (e : Event) → status executive s e ≡ 0 → sound_state (answer executive s e).state ≡ true

-- an accepted opening gives one
abbrev pub OpeningIsSound : Type 0
OpeningIsSound = (header : Header) (table : List Parameters) → (opening header table).status ≡ 0 → sound_state (opening header table).state ≡ true

-- 01 State 18: the running thread heads the highest list that has one, and nothing runs where no list has one
pub record HeadOfHighest (s : State) : Type 0 where
  pub idle : level s ≡ 0 → (running s ≡ 255) × ((list : ℕ) → 1 ≤ list → list ≤ highest_priority → threads list s.lists ≡ [])
  pub busy : (level s ≡ 0 → ⊥) → (running s ≡ head_of (level s) s.lists) × (0 < length (threads (level s) s.lists)) × ((list : ℕ) → level s < list → list ≤ highest_priority → threads list s.lists ≡ [])

abbrev pub HeadRuns : Type 0
HeadRuns = (s : State) → sound_state s ≡ true → HeadOfHighest s

-- 01 State 16: run times and idle time make up the time since the start
abbrev pub TimesAddUp : Type 0
TimesAddUp = (s : State) → sound_state s ≡ true → s.header.start + totals s.threads + s.idle ≡ s.now

-- 01 Passing 2: the next moment of a sound state is after now
abbrev pub NextIsLater : Type 0
NextIsLater = (s : State) → sound_state s ≡ true → 0 < next s → s.now < next s

-- 01 Passing 1: to b and then to c is to c
abbrev pub PassingComposes : Type 0
PassingComposes = (s : State) (b c : ℕ) → sound_state s ≡ true → s.now ≤ b → b ≤ c → c ≤ last_time → passed (passed s b) c ≡ passed s c

-- 01 Passing 1, 3, 5: how a sound state comes to the time t. Where no moment is due by then, the ticks up to it are charged; where one is,
-- that moment comes first and time passes on from there. So the number of moments that `passed` counts down is no limit.
pub record ByMoments (s : State) (t : ℕ) : Type 0 where
  pub none : due_by (next s) t ≡ false → passed s t ≡ charge_to clock s t
  pub one : due_by (next s) t ≡ true → passed s t ≡ passed (moment clock s) t

abbrev pub PassesByMoments : Type 0
PassesByMoments = (s : State) (t : ℕ) → sound_state s ≡ true → s.now ≤ t → t ≤ last_time → ByMoments s t

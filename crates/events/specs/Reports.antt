-- What an event tells (02 E3), beside its answer: the 128 numbers, thread i's four at i * 4.
use Rattle.std.specs.Prelude.{ℕ, ◌+◌, ◌*◌, ◌≤◌, ◌<◌, ◌^◌, false, ◌≡◌, List, [], ◌∷◌, map, length, take, get_or, replicate}
use Rattle.records.specs.declared.Parameters.{Parameters}
use Rattle.records.specs.declared.Event.{Event}
use Rattle.records.specs.Ranges.{by_policy, most_threads, most_ticks, longest_step}
use Rattle.records.specs.Kinds.{by_kind}
use Rattle.sporadic.specs.Rules.{block_effect}
use Rattle.passing.specs.Sequence.{status}
use Rattle.passing.specs.Reports.{report, reports, ReportsAddUp}
use Rattle.reports.specs.Steps.{Log}
use Rattle.reports.specs.Tallies.{Tally, back_tally, of_thread, tallied, per_thread, numbers}
use Rattle.rows.specs.Rows.{all_slots}
use Rattle.thread.specs.declared.Thread.{Thread}
use Rattle.state.specs.declared.State.{State}
use Rattle.state.specs.State.{thread_at}
use Rattle.moments.specs.Reports.{ruled, tallies}
use Rattle.events.specs.Events.{concerned}
use Rattle.events.specs.Answers.{executive}
use Rattle.events.specs.Opening.{opening}
use Rattle.events.specs.Table.{two, sporadic, fifo, event, clock_at, block_at, wake_at}

-- 02 E3 3: the steps of an event's own effect on thread i. A block schedules U of a sporadic thread (01 Events 3); the other kinds do
-- nothing that is told: the full quantum that a yield gives is no end of a quantum (ours).
abbrev pub own_log_of : ℕ → ℕ → Thread → State → Log
own_log_of kind i t s =
    by_kind kind []
    (by_policy t.parameters.policy [] [] (ruled i (block_effect s.now false t.parameters t.server) s ∷ []))
    [] [] []

-- the amount that it brings back, 0 for none
abbrev pub own_back : ℕ → ℕ → Thread → ℕ
own_back kind time t = by_kind kind 0 (by_policy t.parameters.policy 0 0 (block_effect time false t.parameters t.server).back) 0 0 0

-- 02 E3 3, ours: of the effects only a block's tells anything, which is what it brings back
abbrev pub OnlyBlocksTell : Type 0
OnlyBlocksTell = (kind i : ℕ) (t : Thread) (s : State) → tallied (own_log_of kind i t s) ≡ of_thread i (back_tally (own_back kind s.now t))

abbrev pub own_log : State → Event → Log
own_log s e = own_log_of e.kind (concerned s e) (thread_at s (concerned s e)) s

abbrev pub own_tallies : State → Event → ℕ → Tally
own_tallies s e = tallied (own_log s e)

-- 02 E3 2, 3 and 5: what an event tells of each thread: the moments before it, then its own effect; a refused one tells nothing
abbrev pub event_tallies : State → Event → ℕ → Tally
event_tallies s e = report executive tallies own_tallies s e

abbrev pub event_numbers : State → Event → List ℕ
event_numbers s e = numbers (event_tallies s e)

-- 02 E3 4: what the extra clock readings before an accepted event tell and what it tells itself add up, for each thread, to what that
-- event had alone
abbrev pub TalliesAddUp : Type 0
TalliesAddUp = ReportsAddUp executive tallies own_tallies

-- 02 E3 5: a refused event tells zeros
abbrev pub RefusedTellsZeros : Type 0
RefusedTellsZeros = (s : State) (e : Event) → 0 < status executive s e → event_numbers s e ≡ replicate (most_threads * per_thread) 0

-- no number is large: each turn takes a tick or an entry, and brings back at most a budget; then the event's own effect
abbrev pub most_told : ℕ
most_told = (longest_step * 2 + all_slots + 1) * most_ticks

abbrev pub NumbersFit : Type 0
NumbersFit = (most_told < 2 ^ 64) × ((s : State) (e : Event) (k : ℕ) → get_or (event_numbers s e) k 0 ≤ most_told)

-- ---- worked rows

-- threads, opened at time 0, the events given to them, and what each event tells of the first two threads
pub record Row : Type 0 where
  pub table : List Parameters
  pub events : List Event
  pub told : List (List ℕ)

abbrev pub told_by : Row → List (List ℕ)
told_by x =
    map (λ (f : ℕ → Tally). take (2 * per_thread) (numbers f))
    (reports executive tallies own_tallies (opening (record { n = length x.table; start = 0 }) x.table).state x.events)

abbrev pub quiet : List ℕ
quiet = replicate (2 * per_thread) 0

-- of thread 0, and of thread 1
abbrev pub first : ℕ → ℕ → ℕ → ℕ → List ℕ
first l q r x = l ∷ q ∷ r ∷ x ∷ 0 ∷ 0 ∷ 0 ∷ 0 ∷ []

abbrev pub second : ℕ → ℕ → ℕ → ℕ → List ℕ
second l q r x = 0 ∷ 0 ∷ 0 ∷ 0 ∷ l ∷ q ∷ r ∷ x ∷ []

abbrev pub rows : List Row
rows =
    -- 01 Replay 4: limits at 19 and at 46, 6 back at 40; the last event is refused
    record {
      table = two;
      events = clock_at 4 ∷ block_at 6 ∷ wake_at 15 0 ∷ clock_at 25 ∷ clock_at 40 ∷ clock_at 46 ∷ clock_at 45 ∷ [];
      told = quiet ∷ quiet ∷ quiet ∷ first 1 0 0 0 ∷ first 0 0 1 6 ∷ first 1 0 0 0 ∷ quiet ∷ [];
    }
    -- 01 Instances 6 and 7: a limit whose U comes back at once is both; the thread is number 1
    ∷ record { table = fifo 0 30 ∷ sporadic 1 10 10 2 ∷ []; events = clock_at 10 ∷ clock_at 30 ∷ []; told = second 1 0 1 10 ∷ second 2 0 2 20 ∷ [] }
    -- kept from running from 4 to 20, it blocks at 22: its 6 are due at 12 and come back at once, in the block's own effect
    ∷ record {
      table = sporadic 1 10 12 2 ∷ fifo 0 30 ∷ [];
      events = wake_at 4 1 ∷ block_at 20 ∷ block_at 22 ∷ [];
      told = quiet ∷ quiet ∷ first 0 0 1 6 ∷ [];
    }
    -- RR with quantum 5: quanta end at 5 to 25; a yield ends none, nor does a refused event
    ∷ record {
      table = record { policy = 1; priority = 10; low = 0; max_repl = 0; flag = 1; budget = 5; period = 0 } ∷ [];
      events = clock_at 27 ∷ event 2 28 0 ∷ clock_at 27 ∷ clock_at 33 ∷ [];
      told = first 0 5 0 0 ∷ quiet ∷ quiet ∷ first 0 1 0 0 ∷ [];
    }
    ∷ []

-- 02 E3 2, 3 and 5: every row is told as it says
abbrev pub RowsHold : Type 0
RowsHold = map told_by rows ≡ map (λ (x : Row). x.told) rows

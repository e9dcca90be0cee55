-- The budget seen from the history (02 E6): over the moments and the events, the steps from which the numbers of 02 E3 come, with the
-- ticks that are run between them.
use Rattle.std.specs.Prelude.{ℕ, ◌+◌, ◌-◌, ◌<◌, Bool, true, false, cond, ◌≡◌, List, [], ◌∷◌, ◌++◌, take, get_or, eqb}
use Rattle.records.specs.declared.Parameters.{Parameters}
use Rattle.records.specs.declared.Header.{Header}
use Rattle.records.specs.declared.Event.{Event}
use Rattle.records.specs.Ranges.{by_policy, no_parameters}
use Rattle.passing.specs.Sequence.{status, answer, end}
use Rattle.passing.specs.Reports.{Reports, reports, total}
use Rattle.reports.specs.Steps.{Step, Log, happens, steps_of}
use Rattle.reports.specs.Steps.Step.{ran}
use Rattle.ledger.specs.Ledger.{ran_in, back_in, sum_of, empty, entered, Late}
use Rattle.account.specs.Account.{pending_dues, pending_amounts}
use Rattle.thread.specs.declared.Thread.{Thread}
use Rattle.state.specs.declared.State.{State}
use Rattle.state.specs.State.{thread_at, pending_at}
use Rattle.ticks.specs.Running.{level, head, idles}
use Rattle.moments.specs.Reports.{fire_log, tallies}
use Rattle.events.specs.Answers.{carries_over, executive}
use Rattle.events.specs.Opening.{opening}
use Rattle.events.specs.Reports.{own_log, own_tallies}
use Rattle.events.specs.Table.{sporadic, two, clock_at, block_at, wake_at}

-- 01 Passing 3 and 4: k ticks of thread i, which runs in list p: at the upper priority of a sporadic one, under its activation time; at low
-- nothing is charged
abbrev pub ran_log : ℕ → ℕ → ℕ → Thread → Log
ran_log k p i t =
    by_policy t.parameters.policy [] []
    (cond (eqb p t.parameters.priority) (happens i (ran k t.server.activation) ∷ []) [])

abbrev pub charge_log : ℕ → State → Log
charge_log k s = cond (idles s) [] (ran_log k (level s) (head s) (thread_at s (head s)))

-- 02 E6 3: the ticks, and the steps of the moments
abbrev pub logs : Reports State Log
logs = record { none = []; plus = λ a b. a ++ b; charged = charge_log; fired = fire_log }

-- 02 E6 3: all that happens from s on, over these events and the moments between; and what of it happens to thread i
abbrev pub history : State → List Event → Log
history s es = total logs (reports executive logs own_log s es)

abbrev pub history_of : ℕ → State → List Event → List Step
history_of i s es = steps_of i (history s es)

-- 02 E7 2: a set carries the account of the thread that it names over, in the state that it finds
abbrev pub carries : State → Event → Bool
carries s e = carries_over e (thread_at s e.thread)

-- 02 E6 1 and E7 8: thread i is sporadic, and s is the state that its accepted opening left, or an accepted set of it that doesn't carry over
pub data Begins (i : ℕ) (s : State) : Type 0 where
  opened : (header : Header) (table : List Parameters) → (opening header table).status ≡ 0 → (opening header table).state ≡ s → i < header.n
      → (get_or table i no_parameters).policy ≡ 2 → Begins i s
  set : (u : State) (e : Event) → status executive u e ≡ 0 → (answer executive u e).state ≡ s → e.kind ≡ 4 → e.thread ≡ i → e.parameters.policy ≡ 2
      → carries u e ≡ false → Begins i s

-- every accepted set of thread i is such a one; refused events, sets of it too, may stand anywhere
abbrev pub EachSet : (State → Event → Type 0) → ℕ → State → List Event → Type 0
EachSet P i s [] = Unit {0}
EachSet P i s (e ∷ es) = (status executive s e ≡ 0 → e.kind ≡ 4 → e.thread ≡ i → P s e) × EachSet P i (answer executive s e).state es

-- no set of thread i is accepted
abbrev pub NeverSet : ℕ → State → List Event → Type 0
NeverSet i s es = EachSet (λ u e. ⊥) i s es

-- 02 E7 8: no set of thread i is accepted that doesn't carry over
abbrev pub OnlyCarried : ℕ → State → List Event → Type 0
OnlyCarried i s es = EachSet (λ u e. carries u e ≡ true) i s es

-- of thread i in the state s, after these steps
pub record BudgetSeen (i : ℕ) (s : State) (steps : List Step) : Type 0 where
  -- 02 E6 1 and E7 8: ticks run at the upper priority = budget - capacity + amounts returned, with the budget now in force
  pub ran : sum_of ran_in steps ≡ (thread_at s i).parameters.budget - (thread_at s i).server.capacity + sum_of back_in steps
  -- 02 E6 2 and E7 8: each amount that came back is made of ticks that were run, and came back no earlier than a period after the activation
  -- time under which they were run, with the period in force when it was scheduled
  pub late : Late (entered empty steps).returns

-- 02 E6, E7 8: from its opening or its last set that doesn't carry over on, over any events
abbrev pub BudgetFromHistory : Type 0
BudgetFromHistory = (i : ℕ) (s : State) (es : List Event) → Begins i s → OnlyCarried i s es → BudgetSeen i (end executive s es) (history_of i s es)

-- 02 E6 3: the amounts that the events tell (02 E3) are the amounts returned, of any thread, from any state and over any events
abbrev pub AmountsAreReturns : Type 0
AmountsAreReturns =
    (i : ℕ) (s : State) (es : List Event) → (total tallies (reports executive tallies own_tallies s es) i).amounts ≡ sum_of back_in (history_of i s es)

-- ---- worked rows

-- 01 Replay 1 to 6: thread 0 of the replay, over its seven events
abbrev pub begun : State
begun = (opening (record { n = 2; start = 0 }) two).state

abbrev pub seven : List Event
seven = clock_at 4 ∷ block_at 6 ∷ wake_at 15 0 ∷ clock_at 25 ∷ clock_at 40 ∷ clock_at 46 ∷ clock_at 45 ∷ []

-- 16 = 10 - 0 + 6
pub record Replayed : Type 0 where
  pub ran : sum_of ran_in (history_of 0 begun seven) ≡ 16
  pub budget : (thread_at (end executive begun seven) 0).parameters.budget ≡ 10
  pub capacity : (thread_at (end executive begun seven) 0).server.capacity ≡ 0
  pub returned : sum_of back_in (history_of 0 begun seven) ≡ 6
  -- the 6 that came back at 40 were run under the activation time 0
  pub returns : (entered empty (history_of 0 begun seven)).returns
      ≡ record { amount = 6; time = 40; period = 40; runs = record { ticks = 4; activation = 0 } ∷ record { ticks = 2; activation = 0 } ∷ [] } ∷ []

-- 01 Instances 3 to 5, ten ticks on: alone, at low from 5 to 40. Of its 48 ticks 13 were run at the upper priority: 13 = 10 - 0 + 3
abbrev pub alone : State
alone = (opening (record { n = 1; start = 0 }) (sporadic 1 10 40 1 ∷ [])).state

abbrev pub low : List Event
low = block_at 3 ∷ wake_at 5 0 ∷ clock_at 50 ∷ []

pub record RanLow : Type 0 where
  pub total : (thread_at (end executive alone low) 0).total ≡ 48
  pub ran : sum_of ran_in (history_of 0 alone low) ≡ 13
  pub capacity : (thread_at (end executive alone low) 0).server.capacity ≡ 0
  pub returned : sum_of back_in (history_of 0 alone low) ≡ 3

-- 02 E7 3 and 8: budget 10 and period 100, set to period 20 at 4, where 3 ticks pend, and to budget 14 and period 50 at 30
abbrev pub slow : State
slow = (opening (record { n = 1; start = 0 }) (sporadic 1 10 100 2 ∷ [])).state

abbrev pub set_at : ℕ → Parameters → Event
set_at t p = record { time = t; kind = 4; thread = 0; parameters = p }

abbrev pub twice : List Event
twice = block_at 3 ∷ wake_at 4 0 ∷ set_at 4 (sporadic 0 10 20 2) ∷ clock_at 11 ∷ set_at 30 (sporadic 0 14 50 2) ∷ clock_at 100 ∷ []

-- 32 = 14 - 3 + 21
pub record SetTwice : Type 0 where
  -- at 11 the 7 that were run from 4 on are due before the 3
  pub dues : pending_dues (pending_at (end executive slow (take 4 twice)) 0) ≡ 24 ∷ 100 ∷ []
  pub amounts : pending_amounts (pending_at (end executive slow (take 4 twice)) 0) ≡ 7 ∷ 3 ∷ []
  pub ran : sum_of ran_in (history_of 0 slow twice) ≡ 32
  pub budget : (thread_at (end executive slow twice) 0).parameters.budget ≡ 14
  pub capacity : (thread_at (end executive slow twice) 0).server.capacity ≡ 3
  pub returned : sum_of back_in (history_of 0 slow twice) ≡ 21
  -- each with the period in force when it was scheduled: 7 under 4 (none between the wake and the set), then 6 and, once the budget has
  -- grown, 5 under 24, and the 3 under 0
  pub returns : (entered empty (history_of 0 slow twice)).returns
      ≡ record { amount = 7; time = 24; period = 20; runs = record { ticks = 0; activation = 4 } ∷ record { ticks = 7; activation = 4 } ∷ [] }
      ∷ record { amount = 11; time = 74; period = 50; runs = record { ticks = 6; activation = 24 } ∷ record { ticks = 5; activation = 24 } ∷ [] }
      ∷ record { amount = 3; time = 100; period = 100; runs = record { ticks = 3; activation = 0 } ∷ [] }
      ∷ []

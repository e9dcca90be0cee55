-- How much a sporadic thread can take at its upper priority, for a person who plans what is left beside it. This is no sentence of the
-- papers: 01's rules allow more than a budget a period, since a thread that is kept from running gets back at once what it ran under an
-- old activation time. How much more is proved here.
use Rattle.std.specs.Prelude.{ℕ, ◌+◌, ◌*◌, ◌≤◌, ◌<◌, true, ◌≡◌, List, [], ◌∷◌, map}
use Rattle.records.specs.declared.Parameters.{Parameters}
use Rattle.records.specs.declared.Event.{Event}
use Rattle.passing.specs.Sequence.{end}
use Rattle.ledger.specs.Ledger.{ran_in, sum_of}
use Rattle.ledger.specs.Bound.{stretch, most_upper}
use Rattle.bound.specs.Most.{most_of}
use Rattle.state.specs.declared.State.{State}
use Rattle.state.specs.State.{thread_at}
use Rattle.state.specs.Sound.{sound_state}
use Rattle.events.specs.Answers.{executive}
use Rattle.events.specs.Opening.{opening}
use Rattle.events.specs.Table.{sporadic, fifo, clock_at, block_at}
use Rattle.history.specs.History.{history_of, NeverSet}

-- the ticks that thread i runs at its upper priority, over these events from s on
abbrev pub upper_ticks : ℕ → State → List Event → ℕ
upper_ticks i s es = sum_of ran_in (history_of i s es)

-- from any sound state in which thread i is sporadic, over any events in which no set of it is accepted; others may be refused
pub record Watched (i : ℕ) (s : State) (es : List Event) : Type 0 where
  pub sound : sound_state s ≡ true
  pub present : i < s.header.n
  pub policy : (thread_at s i).parameters.policy ≡ 2
  pub never : NeverSet i s es

abbrev pub own : ℕ → State → Parameters
own i s = (thread_at s i).parameters

-- in n stretches at most 2 * n budgets
abbrev pub TwiceEachStretch : Type 0
TwiceEachStretch =
    (n i : ℕ) (s : State) (es : List Event) → Watched i s es → (end executive s es).now ≤ s.now + n * stretch (own i s)
    → upper_ticks i s es ≤ n * (2 * (own i s).budget)

-- so in n periods at most 2 * n budgets, and in one period at most two
abbrev pub TwiceEachPeriod : Type 0
TwiceEachPeriod =
    (n i : ℕ) (s : State) (es : List Event) → Watched i s es → (end executive s es).now ≤ s.now + n * (own i s).period
    → upper_ticks i s es ≤ 2 * n * (own i s).budget

abbrev pub TwiceInAPeriod : Type 0
TwiceInAPeriod = (i : ℕ) (s : State) (es : List Event) → Watched i s es → (end executive s es).now ≤ s.now + (own i s).period → upper_ticks i s es ≤ 2 * (own i s).budget

-- `bound::most_of` accepts its parameters, and in any number of ticks it takes no more than that answers
abbrev pub NeverMore : Type 0
NeverMore =
    (length i : ℕ) (s : State) (es : List Event) → Watched i s es → (end executive s es).now ≤ s.now + length
    → ((most_of (own i s) length).status ≡ 0) × (upper_ticks i s es ≤ (most_of (own i s) length).ticks)

-- ---- it is reached

-- budget 10, period 40, kept from running for 30 ticks
abbrev pub held : State
held = end executive (opening (record { n = 2; start = 0 }) (sporadic 1 10 40 2 ∷ fifo 1 25 ∷ [])).state (block_at 30 ∷ [])

-- two budgets in the next 50 ticks, of which 20 are enough; in 51 one tick more: so of one stretch neither number can be better
abbrev pub Reached : Type 0
Reached = map (λ (t : ℕ). upper_ticks 0 held (clock_at t ∷ [])) (50 ∷ 80 ∷ 81 ∷ []) ≡ 20 ∷ 20 ∷ 21 ∷ []

abbrev pub MostIn : Type 0
MostIn = map (λ (t : ℕ). most_upper (own 0 held) t) (0 ∷ 19 ∷ 20 ∷ 50 ∷ 51 ∷ 70 ∷ 100 ∷ []) ≡ 0 ∷ 19 ∷ 20 ∷ 20 ∷ 40 ∷ 40 ∷ 40 ∷ []

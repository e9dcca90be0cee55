-- A next due that was kept: where an entry came, and where none can be earlier.
use Rattle.std.specs.Prelude.{ℕ, ◌≤◌, ◌<◌, ◌≡◌, List, get_or}
use Rattle.records.specs.Ranges.{most_threads}
use Rattle.due_search.specs.declared.Due.{Due}
use Rattle.due_search.specs.Search.{first_due, next_due}

-- thread k may have got an entry: it has `count` of them, the first due at d and no later than before; x was the next due, and the
-- other threads are as they were
pub record EntryCame (x : Due) (k count d : ℕ) (counts dues : List ℕ) (n : ℕ) : Type 0 where
  pub small : n ≤ most_threads
  pub counted : get_or counts k 0 ≡ count
  pub due : first_due dues k ≡ d
  pub present : 0 < count → k < n
  pub counts_before : List ℕ
  pub dues_before : List ℕ
  pub first : x ≡ next_due counts_before dues_before n
  pub kept : 0 < get_or counts_before k 0 → (0 < count) × (d ≤ first_due dues_before k)
  pub others : (i : ℕ) → (i ≡ k → ⊥) → (get_or counts i 0 ≡ get_or counts_before i 0) × (first_due dues i ≡ first_due dues_before i)

-- then r is the next due
abbrev pub NextAfter : Due → ℕ → ℕ → ℕ → Due → Type 0
NextAfter x k count d r = (counts dues : List ℕ) (n : ℕ) → EntryCame x k count d counts dues n → r ≡ next_due counts dues n

-- of the threads below n that have a replenishment pending, none has its first due before `earliest`
abbrev pub NoneBefore : List ℕ → List ℕ → ℕ → ℕ → Type 0
NoneBefore counts dues n earliest = (i : ℕ) → i < n → 0 < get_or counts i 0 → earliest ≤ first_due dues i

-- 02 E2: the search for the next due. It passes over threads that have nothing pending and reads only the first due of the rest; counts and
-- entries may be sound or not.
use Rattle.std.specs.Prelude.{ℕ, zero, suc, ◌*◌, ◌≤◌, ◌<◌, cond, ◌≡◌, List, get_or, ltb, eqb}
use Rattle.records.specs.Ranges.{most_threads}
use Rattle.account.specs.Account.{entries}
use Rattle.due_search.specs.declared.Due.{Due}

-- 01 State 2: the first due of thread i
abbrev pub first_due : List ℕ → ℕ → ℕ
first_due dues i = get_or dues (i * entries) 0

-- 01 Passing 2, 02 E2 2 and 3: of the threads below n that have a replenishment pending, the least first due and the lowest thread that
-- has it; 0 and the number after the last thread's where none has one
abbrev pub sooner : ℕ → ℕ → Due → Due
sooner i d best = cond (eqb best.thread most_threads) (record { due = d; thread = i }) (cond (ltb d best.due) (record { due = d; thread = i }) best)

unfoldable pub next_due : List ℕ → List ℕ → ℕ → Due
next_due counts dues zero = record { due = 0; thread = most_threads }
next_due counts dues (suc n) =
    cond (eqb (get_or counts n 0) 0) (next_due counts dues n) (sooner n (first_due dues n) (next_due counts dues n))

-- 02 E2 3: x is the least first due of the threads below n whose pending count isn't 0, or none. None is told by the thread alone, since a
-- first due may be 0
pub record LeastFirstDue (counts dues : List ℕ) (n : ℕ) (x : Due) : Type 0 where
  -- none: there is no such thread
  pub none : x.thread ≡ most_threads → (x.due ≡ 0) × ((i : ℕ) → i < n → get_or counts i 0 ≡ 0)
  -- else one of them has it
  pub some : (x.thread ≡ most_threads → ⊥) → (x.thread < n) × (0 < get_or counts x.thread 0) × (x.due ≡ first_due dues x.thread)
  -- none of them is earlier, and none of a lower number is as early
  pub least : (x.thread ≡ most_threads → ⊥) → (i : ℕ) → i < n → 0 < get_or counts i 0 → x.due ≤ first_due dues i
  pub lowest : (x.thread ≡ most_threads → ⊥) → (i : ℕ) → i < x.thread → 0 < get_or counts i 0 → x.due < first_due dues i

-- 02 E2 3: that is what the search gives, for any counts and entries, and nothing else is that
abbrev pub SearchFindsLeast : Type 0
SearchFindsLeast =
    (counts dues : List ℕ) (n : ℕ) → n ≤ most_threads
    → LeastFirstDue counts dues n (next_due counts dues n) × ((x : Due) → LeastFirstDue counts dues n x → x ≡ next_due counts dues n)

-- thread i has something pending in both or in neither, and in both the same first due
pub record SameFirst (counts dues counts' dues' : List ℕ) (i : ℕ) : Type 0 where
  pub pending : eqb (get_or counts i 0) 0 ≡ eqb (get_or counts' i 0) 0
  pub first : 0 < get_or counts i 0 → first_due dues i ≡ first_due dues' i

-- 02 E2 3: whatever the other entries hold
abbrev pub OthersDontMatter : Type 0
OthersDontMatter =
    (counts dues counts' dues' : List ℕ) (n : ℕ) → ((i : ℕ) → i < n → SameFirst counts dues counts' dues' i)
    → next_due counts dues n ≡ next_due counts' dues' n

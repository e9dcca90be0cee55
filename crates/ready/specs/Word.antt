-- 01 State 4: the occupancy word, and the highest list that holds a thread.
use mathlib.Core.{List.List, Bool.cond, Path.◌≡◌}
use Rattle.std.specs.Prelude.{ℕ, zero, suc, ◌+◌, ◌-◌, ◌^◌, ◌/◌, ◌%◌, ◌≤◌}
use lib.{Count.count_leading_zeros, Dec.eqb}
use Rattle.records.specs.Ranges.{highest_priority}
use Rattle.ready.specs.Lists.{row_at, size}

-- 01 State 4: of the lists 1 to n, whose lengths are given: bit p - 1 for each list p that holds a thread
unfoldable pub word_of : ℕ → (ℕ → ℕ) → ℕ
word_of zero sizes = 0
word_of (suc k) sizes = word_of k sizes + cond (eqb (sizes (suc k)) 0) 0 (2 ^ k)

-- the length of list p
abbrev pub size_at : List ℕ → ℕ → ℕ
size_at l p = size (row_at p l)

-- the occupancy word of the array
unfoldable pub occupancy : List ℕ → ℕ
occupancy l = word_of highest_priority (size_at l)

-- 01 State 4: bit p - 1 of the word is set exactly when list p holds a thread
abbrev pub BitsAreLists : Type 0
BitsAreLists = (l : List ℕ) (p : ℕ) → 1 ≤ p → p ≤ highest_priority → occupancy l / 2 ^ (p - 1) % 2 ≡ cond (eqb (size_at l p) 0) 0 1

-- 01 State 4: the highest list as the word's leading zeros give it
abbrev pub highest_of : ℕ → ℕ
highest_of word = 32 - count_leading_zeros 32 word

-- the highest of the lists 1 to n that holds a thread, 0 where none does
unfoldable pub highest_list : ℕ → (ℕ → ℕ) → ℕ
highest_list zero sizes = 0
highest_list (suc k) sizes = cond (eqb (sizes (suc k)) 0) (highest_list k sizes) (suc k)

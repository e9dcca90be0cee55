-- When lists and word are sound for a placement of the threads: place i is the priority in whose list thread i must
-- stand, 0 for none. The crate above gives a runnable thread the place of its assigned priority, and a blocked one 0.
use mathlib.Core.{Bool.Bool, Bool.cond, List.List, List.[], List.◌∷◌}
use Rattle.std.specs.Prelude.{ℕ, suc}
use lib.{ListN.length, Dec.ltb, Dec.leb, Dec.eqb}
use Rattle.base.specs.Tests.{all, below, zeros}
use Rattle.records.specs.Ranges.{most_threads, highest_priority}
use Rattle.ready.specs.{Lists.list_bytes, Lists.row_at, Lists.size, Lists.members, Lists.unused, Lists.occurs, Word.occupancy}

-- 01 Numbers 1: thread numbers are below the most threads
abbrev pub small : List ℕ → List Bool
small [] = []
small (x ∷ xs) = ltb x most_threads ∷ small xs

-- 01 State 7, for the row of list p: the threads whose place is p stand there once, and no other does.
-- 01 State 17: places past the length hold 0.
unfoldable pub sound_row : (ℕ → ℕ) → ℕ → List ℕ → Bool
sound_row place p row =
    all
    (leb (size row) most_threads
    ∷ all (zeros (unused row))
    ∷ all (small (members row))
    ∷ below most_threads (λ i. eqb (occurs i (members row)) (cond (eqb (place i) p) 1 0))
    ∷ [])

-- 01 State 7: every thread has a list or none, and every list is sound
unfoldable pub sound_rows : (ℕ → ℕ) → List ℕ → Bool
sound_rows place l = all (below most_threads (λ i. leb (place i) highest_priority) ∷ below highest_priority (λ k. sound_row place (suc k) (row_at (suc k) l)) ∷ [])

-- 01 State 7 and 8: the lists are sound and the word agrees
unfoldable pub sound_lists : (ℕ → ℕ) → ℕ → List ℕ → Bool
sound_lists place word l = all (eqb (length l) list_bytes ∷ sound_rows place l ∷ eqb word (occupancy l) ∷ [])

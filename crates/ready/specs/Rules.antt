-- What each rule requires of the lists; all of it follows from soundness.
use mathlib.Core.{Path.◌≡◌, Bool.true, List.List}
use Rattle.std.specs.Prelude.{ℕ, ◌≤◌, ◌<◌, length}
use Rattle.base.specs.Tests.{all, zeros}
use Rattle.records.specs.Ranges.{most_threads, highest_priority}
use Rattle.ready.specs.{Lists.list_bytes, Lists.row_at, Lists.unused, Lists.threads, Lists.occurs, Lists.removed, Word.size_at, Word.occupancy}

-- list p holds a thread
pub record Held (p : ℕ) (l : List ℕ) : Type 0 where
  pub low : 1 ≤ p
  pub high : p ≤ highest_priority
  pub some : 0 < size_at l p

-- list p is in order, and the word agrees with the lists
pub record Formed (word p : ℕ) (l : List ℕ) : Type 0 where
  pub array : length l ≡ list_bytes
  pub low : 1 ≤ p
  pub high : p ≤ highest_priority
  pub short : size_at l p ≤ highest_priority
  pub rest : all (zeros (unused (row_at p l))) ≡ true
  pub agrees : word ≡ occupancy l

-- a thread can join list p
pub record Joinable (word p : ℕ) (l : List ℕ) : Type 0 where
  pub formed : Formed word p l
  pub room : size_at l p < most_threads

-- thread i can leave list p
pub record Leavable (word p i : ℕ) (l : List ℕ) : Type 0 where
  pub formed : Formed word p l
  pub member : 0 < occurs i (threads p l)

-- thread i can leave list `from` and then join list `to`
pub record Movable (word i from to : ℕ) (l : List ℕ) : Type 0 where
  pub leaves : Leavable word from i l
  pub joins : Joinable (occupancy (removed from i l)) to (removed from i l)

-- the head of list p can become its tail: the list is in order and holds a thread
pub record Rotatable (p : ℕ) (l : List ℕ) : Type 0 where
  pub formed : Formed (occupancy l) p l
  pub some : 0 < size_at l p

-- Numbers added up, place by place.
use Rattle.std.specs.Prelude.{ℕ, ◌+◌, ◌*◌, ◌<◌, ◌^◌, List, [], ◌∷◌, ◌≡◌, length, get_or}
use Rattle.records.specs.Ranges.{most_threads}
use Rattle.reports.specs.Tallies.{per_thread}

-- the numbers of xs, each with that of ys at its place
unfoldable pub added : List ℕ → List ℕ → List ℕ
added [] ys = []
added (x ∷ xs) [] = x ∷ xs
added (x ∷ xs) (y ∷ ys) = (x + y) ∷ added xs ys

-- what adding ys to xs needs: xs has the numbers of all threads, and no sum wraps
pub record Addable (xs ys : List ℕ) : Type 0 where
  pub all : length xs ≡ most_threads * per_thread
  pub fit : (k : ℕ) → get_or xs k 0 + get_or ys k 0 < 2 ^ 64

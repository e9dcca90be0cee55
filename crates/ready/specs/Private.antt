-- What the private functions compute, and they alone cite: no public contract does.
use mathlib.Core.{Bool.cond, List.List, List.[], List.◌∷◌, List.◌++◌}
use Rattle.std.specs.Prelude.{ℕ, suc, ◌+◌, ◌-◌}
use lib.{ListN.take, ListN.drop, Dec.eqb}

-- how many numbers stand before the first i
unfoldable pub index_of : ℕ → List ℕ → ℕ
index_of i [] = 0
index_of i (x ∷ xs) = cond (eqb x i) 0 (suc (index_of i xs))

-- the n numbers from `at` on without the first, a 0 at their end; the rest stays
unfoldable pub closed : List ℕ → ℕ → ℕ → List ℕ
closed l at n = take at l ++ (take (n - 1) (drop (at + 1) l) ++ (0 ∷ drop (at + n) l))

-- What the private functions compute, and they alone cite: no public contract does.
use mathlib.Core.{Path.◌≡◌, Bool.Bool, Bool.true, Bool.false, Bool.cond, List.List, List.[], List.◌∷◌}
use Rattle.std.specs.Prelude.{ℕ}
use lib.{ListN.set, ListN.get_or, Dec.leb, Dec.eqb}
use Rattle.base.specs.Tests.{all, zeros}
use Rattle.records.specs.Ranges.{most_threads}
use Rattle.ready.specs.Lists.{size, members, unused}

-- each thread of xs in turn still has the place p in `left`, and is struck off
unfoldable pub strikes : ℕ → List ℕ → List ℕ → Bool
strikes p [] left = true
strikes p (x ∷ xs) left = cond (eqb (get_or left x 0) p) (strikes p xs (set left x 0)) false

-- the threads of xs struck off
unfoldable pub struck : List ℕ → List ℕ → List ℕ
struck [] left = left
struck (x ∷ xs) left = struck xs (set left x 0)

-- the threads of xs struck off, where each has the place p
pub record Struck (p : ℕ) (xs left left' : List ℕ) (ok : Bool) : Type 0 where
  pub test : ok ≡ strikes p xs left
  pub rest : ok ≡ true → left' ≡ struck xs left

-- the same for the threads of the list at the head of a part, with the tests of the part itself
pub record RowStruck (p : ℕ) (part left left' : List ℕ) (ok : Bool) : Type 0 where
  pub test : ok ≡ all (leb 1 (size part) ∷ leb (size part) most_threads ∷ all (zeros (unused part)) ∷ strikes p (members part) left ∷ [])
  pub rest : ok ≡ true → left' ≡ struck (members part) left

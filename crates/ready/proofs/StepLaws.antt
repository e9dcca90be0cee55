-- Steps of the private functions, from place j of a list on.
use mathlib.Core.Path.{◌≡◌}
use mathlib.Core.List.{List, ◌∷◌}
use Prim.Native.Nat.{ℕ, ◌+◌, ◌<◌}
use native.Mathlib.Numerals.{add-one}
use lib.ListN.{length, drop, get_or}
use lib.Seq.{drop-cons}

module _ (xs : List ℕ) (j : ℕ) (h : j < length xs) where
  abbrev pub here : ℕ
  here = get_or xs j 0

  pub rest : drop j xs ≡ here ∷ drop (j + 1) xs
  rest = rw add-one (drop-cons xs j 0 h)

-- A condition is a list of tests: the same text is what the code computes and what the proofs use.
use mathlib.Core.{Bool.Bool, Bool.true, Bool.false, Bool.cond, List.List, List.[], List.◌∷◌}
use Rattle.std.specs.Prelude.{ℕ, zero, suc, eqb}

-- every test of the list is true
unfoldable pub all : List Bool → Bool
all [] = true
all (b ∷ bs) = cond b (all bs) false

-- the test is true of every number below n
unfoldable pub below : ℕ → (ℕ → Bool) → Bool
below zero f = true
below (suc n) f = cond (below n f) (f n) false

-- 01 State 17: places that are not in use hold 0
abbrev pub zeros : List ℕ → List Bool
zeros [] = []
zeros (x ∷ xs) = eqb x 0 ∷ zeros xs

-- Refusals are one ordered list of tests, each with the status number that it gives.
use mathlib.Core.{Bool.Bool, Bool.cond, Bool.not, List.List, List.[], List.◌∷◌}
use Rattle.std.specs.Prelude.{ℕ, eqb}

-- 01 Status 1: the number of the first test that is true, or 0, accepted, where none is
unfoldable pub first_refusal : List (Bool × ℕ) → ℕ
first_refusal [] = 0
first_refusal (r ∷ rs) = cond r.0 r.1 (first_refusal rs)

-- a status that a list of its own gives: a refusal unless it is 0
abbrev pub given : ℕ → Bool × ℕ
given n = (not (eqb n 0), n)

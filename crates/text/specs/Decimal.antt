-- Numbers in decimal.
use Rattle.std.specs.Prelude.{ℕ, zero, suc, ◌+◌, ◌*◌, ◌-◌, ◌/◌, ◌%◌, ◌<◌, ◌^◌, ◌≤◌}
use mathlib.Core.{Bool.cond, List.List, List.[], List.◌∷◌, List.◌++◌, Path.◌≡◌}
use lib.{Dec.ltb, ListN.length, ListN.get_or}

-- the byte of the digit 0, after which the other digits stand in their order
abbrev pub digit_zero : ℕ
digit_zero = 48

-- the decimal digits of n as bytes, the highest first and no more than n has; k is above n, so that all are there
unfoldable pub digits : ℕ → ℕ → List ℕ
digits zero n = []
digits (suc k) n = cond (ltb n 10) ((digit_zero + n) ∷ []) (digits k (n / 10) ++ ((digit_zero + n % 10) ∷ []))

-- n in decimal; 0 is the single digit 0
unfoldable pub decimal : ℕ → List ℕ
decimal n = digits (suc n) n

-- the number whose digits these are, the highest first, after digits whose number is a
unfoldable pub read_from : ℕ → List ℕ → ℕ
read_from a [] = a
read_from a (d ∷ ds) = read_from (a * 10 + (d - digit_zero)) ds

-- every number is read back from its digits
abbrev pub ReadsBack : Type 0
ReadsBack = (n : ℕ) → read_from 0 (decimal n) ≡ n

-- no zero leads: the first digit of a number above 0 is not 0
abbrev pub NoLeadingZero : Type 0
NoLeadingZero = (n : ℕ) → 0 < n → digit_zero < get_or (decimal n) 0 0

-- a number below 10 ^ k has at most k digits
abbrev pub DigitsFit : Type 0
DigitsFit = (k n : ℕ) → 0 < k → n < 10 ^ k → length (decimal n) ≤ k

-- A float in decimal: 17 significant digits of its own value, correctly rounded, which read back as that float.
use Rattle.std.specs.Prelude.{ℕ, zero, suc, ◌*◌, ◌/◌, ◌%◌, ◌+◌, ◌^◌, ◌≤◌}
use mathlib.Core.{Bool.cond, Bool.false, List.List, List.[], List.◌∷◌, List.◌++◌, Path.◌≡◌}
use lib.{Dec.T, Dec.leb, IntN.pos}
use Rattle.std.specs.Float.Ieee as Ieee
use Rattle.std.specs.Float.Ieee.{Nearest.closest, Positive.num, Positive.den, Positive.positive}
use Rattle.text.specs.Decimal.{decimal, digit_zero}
use Rattle.decimals.specs.declared.Decimals.{Decimals}

-- the least number of 17 digits
abbrev pub enough : ℕ
enough = 10000000000000000

-- 17 digits of 10^-15 end at this place after the point
abbrev pub most_places : ℕ
most_places = 31

-- the fewest places after the point, up to k, that give the fraction a / c 17 digits: with each place it counts ten times as many units
unfoldable pub places_of : ℕ → ℕ → ℕ → ℕ
places_of zero a c = 0
places_of (suc k) a c = cond (leb (enough * c) a) 0 (suc (places_of k (a * 10) c))

-- the fraction a / c in units of its last place: the nearest whole number of them, at a tie the even one
unfoldable pub decimals_at : ℕ → ℕ → ℕ → Decimals
decimals_at a c k = record { digits = closest (a * 10 ^ k) c; places = k }

unfoldable pub decimals_of : ℕ → ℕ → Decimals
decimals_of a c = decimals_at a c (places_of most_places a c)

-- what decimals are within: 17 digits, or 10^17 where these are rounded up to it
pub record Within (d : Decimals) : Type 0 where
  pub digits : d.digits ≤ enough * 10
  pub places : d.places ≤ most_places

-- a float as its own fraction, num / den, from 2^-50 to 1
pub record InUnit (x : Ieee.Float) : Type 0 where
  pub above : T (positive x)
  pub small : den x ≤ num x * 2 ^ 50
  pub most : num x ≤ den x

-- the float 0
abbrev pub none : Ieee.Float
none = Ieee.fin false 0 (pos 0)

-- a float that has a text here
pub data Shown (x : Ieee.Float) : Type 0 where
  nothing : x ≡ none → Shown x
  something : InUnit x → Shown x

-- the point
abbrev pub point : ℕ
point = 46

-- digits in decimal, the last so many of them after a point
unfoldable pub pointed : ℕ → ℕ → List ℕ
pointed zero digits = decimal digits ++ (point ∷ [])
pointed (suc places) digits = pointed places (digits / 10) ++ ((digit_zero + digits % 10) ∷ [])

-- a float's text: 0 is the single digit 0 (ours)
abbrev pub text_by : ℕ → Decimals → List ℕ
text_by zero d = decimal 0
text_by (suc n) d = pointed d.places d.digits

unfoldable pub float_text : Ieee.Float → List ℕ
float_text x = text_by (num x) (decimals_of (num x) (den x))

-- the most bytes of a float's text: the places, and before them at most the digits of a 64-bit number and the point
abbrev pub longest_text : ℕ
longest_text = most_places + 21

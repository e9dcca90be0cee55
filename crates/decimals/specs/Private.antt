-- Cited by private functions alone: a fraction in two limbs of 52 bits.
use Rattle.std.specs.Prelude.{ℕ, ◌+◌, ◌*◌, ◌≤◌, ◌<◌, ltb}
use mathlib.Core.{Bool.Bool, Bool.cond, Bool.false, Path.◌≡◌}
use Rattle.std.specs.Float.Ieee as Ieee
use Rattle.std.specs.Float.Ieee.Positive.{num, den}
use Rattle.decimals.specs.declared.Limbs.{Limbs}
use Rattle.decimals.specs.Decimals.{enough, most_places}

-- 2^52: a limb's units; a fraction counts them twice over, in units of 2^-104
abbrev pub limb : ℕ
limb = 4503599627370496

abbrev pub unit : ℕ
unit = limb * limb

abbrev pub joined : Limbs → ℕ
joined l = l.high * limb + l.low

-- the limbs of a float that is at most 1 and a whole number of units
pub record Split (x : Ieee.Float) (l : Limbs) : Type 0 where
  pub low : l.low < limb
  pub high : l.high ≤ limb
  pub value : joined l * den x ≡ num x * unit

-- whether another digit is needed and there is a place for it
abbrev pub goes_on : ℕ → ℕ → Bool
goes_on digits places = cond (ltb digits enough) (ltb places most_places) false

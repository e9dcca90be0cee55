-- 02 E13 1: a time over another as an f64.
use Rattle.std.specs.Prelude.{ℕ, ◌≤◌, ◌<◌, pos}
use mathlib.Core.{Bool.false, Path.◌≡◌}
use Rattle.std.specs.Float.Ieee as Ieee
use Rattle.records.specs.Ranges.{last_time}

-- 02 E13 1: a whole number as f64
abbrev pub converted : ℕ → Ieee.Float
converted n = Ieee.of_int Ieee.binary64 (pos n)

-- 02 E13 1: total and elapsed, each converted, and one division
unfoldable pub quotient : ℕ → ℕ → Ieee.Float
quotient total elapsed = Ieee.div Ieee.binary64 (converted total) (converted elapsed)

-- 02 E13 1: each conversion is exact: the f64 of a number up to the last time is that number
abbrev pub ConvertsExactly : Type 0
ConvertsExactly = (n : ℕ) → n ≤ last_time → Ieee.to_unsigned 64 (converted n) ≡ n

-- 02 E13 1: so the share is the f64 nearest to the true quotient
abbrev pub NearestQuotient : Type 0
NearestQuotient =
    (total elapsed : ℕ) → total ≤ last_time → elapsed ≤ last_time → 0 < elapsed → quotient total elapsed ≡ Ieee.round Ieee.binary64 false total elapsed

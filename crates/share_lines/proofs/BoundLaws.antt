-- A share whose total is not 0 lies between 2^-50 and 1.
use Prim.Native.Nat.{ℕ, ◌^◌, ◌≤◌, ◌<◌}
use mathlib.Core.Bool.{false}
use mathlib.Core.Path.{◌≡◌, refl, sym, subst}
use native.Mathlib.Omega.{arith}
use native.Mathlib.Nat.{le_trans, le_of_eq, mul-one, one-mul}
use lib.Dec.{T}
use lib.Pow.{pow_pos, pow-lt}
use lib.Ieee.{Float, binary64, round, le}
use lib.Ieee.Exact.{HasValue, round_exact}
use lib.Ieee.Order.{round_mono}
use lib.Ieee.Positive.{num, den, own_value, positive_of_value, values_of_le, between}
use Rattle.decimals.specs.Decimals.{InUnit}
use Rattle.quotient.specs.Quotient.{quotient}
use Rattle.quotient.proofs.QuotientLaws.{nearest-quotient}

-- 2^-50 and 1 as floats
least : HasValue (round binary64 false 1 (2 ^ 50)) false 1 (2 ^ 50)
least = round_exact binary64 false 1 (2 ^ 50) 1 1024 (pow_pos 50) (omega arith) (pow-lt {i = 1024} {j = 2098} (omega arith)) refl

most : HasValue (round binary64 false 1 1) false 1 1
most = round_exact binary64 false 1 1 1 1074 (omega arith) (omega arith) (pow-lt {i = 1074} {j = 2098} (omega arith)) refl

pub quotient-bounds : (t e : ℕ) → 0 < t → t ≤ e → e ≤ 1000000000000000 → InUnit (quotient t e)
quotient-bounds t e P H L =
    let x = quotient t e in
    let n : quotient t e ≡ round binary64 false t e = nearest-quotient t e (omega arith) L (omega arith) in
    let lo = round binary64 false 1 (2 ^ 50) in
    let hi = round binary64 false 1 1 in
    let lo-le : T (le lo x) = subst (λ (y : Float). T (le lo y)) (sym n) (round_mono binary64 1 (2 ^ 50) t e (pow_pos 50) (omega arith) (omega arith)) in
    let hi-le : T (le x hi) = subst (λ (y : Float). T (le y hi)) (sym n) (round_mono binary64 t e 1 1 (omega arith) (omega arith) (omega arith)) in
    let lo-pos = positive_of_value lo 1 (2 ^ 50) least (omega arith) in
    let hi-pos = positive_of_value hi 1 1 most (omega arith) in
    let p = between lo x hi lo-pos hi-pos lo-le hi-le in
    let v = own_value x p in
    record {
      above = p;
      small = le_trans (le_of_eq (sym (one-mul (den x)))) (values_of_le lo x 1 (2 ^ 50) (num x) (den x) lo-pos p least v lo-le);
      most = le_trans (le_of_eq (sym (mul-one (num x)))) (le_trans (values_of_le x hi (num x) (den x) 1 1 p hi-pos v most hi-le) (le_of_eq (one-mul (den x))));
    }

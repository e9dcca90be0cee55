-- The bits of a float from 2^-50 to 1 give its value: its significand, and how far that is shifted down from 1.
use Prim.Native.Nat.{ℕ, zero, suc, ◌+◌, ◌-◌, ◌*◌, ◌/◌, ◌%◌, ◌^◌, ◌≤◌, ◌<◌}
use mathlib.Core.Bool.{Bool, true, false, cond, not}
use mathlib.Core.Path.{◌≡◌, refl, sym, ap, ◌∙◌, subst}
use native.Mathlib.Omega.{arith}
use native.Mathlib.Nat.{le_trans, le_of_eq, lt_of_lt_of_le, lt_of_le_of_lt, not-le_of_lt, add_comm, mul_comm, mul_assoc, mul_right_comm, mul-one, mul-le-mul_right, mul-le-mul_left, mul-lt-mul_of_pos_right, le_of_mul-le-mul_right, eq_of_mul-eq-mul_right, mod-eq_of_lt, mod-lt, div-add-mod', div-div-eq-div-mul, mul-div_cancel}
use lib.Pow.{pow-add, pow_pos, pow_mono, pow-lt, mod-mod-pow}
use lib.Dec.{T, leb, ltb, eqb, nleb→lt}
use lib.Ieee.{Float, nan, inf, fin, binary64, prec, low, hid, top, ones, odd, of_fields, of_bits, to_bits, fits, is_nan}
use lib.Ieee.Bits.{of_bits-to_bits}
use lib.Ieee.Exact.{HasValue, odd_sign}
use lib.Ieee.Positive.{num, den, positive, den_pos, value→cross}
use borrow.Author.Tests.{ltb-true, ltb-false}
use Rattle.decimals.specs.Decimals.{InUnit}
use Rattle.decimals.specs.Private.{limb, unit, Split}

-- a float above 0 is no NaN
pub number : (x : Float) → T (positive x) → T (not (is_nan x))
unfolding is_nan
number nan p = absurd p
number (inf s) p = absurd p
number (fin s m e) p = tt

-- n / d is at most 1, or at least 1 / b, where it is p / c d: so p is at most c d, and at least a d where c is a * b
over : (c n d p : ℕ) → n * c ≡ p → n ≤ d → p ≤ c * d
over c n d p e l = le_trans (le_of_eq (sym e)) (le_trans (mul-le-mul_right c l) (le_of_eq (mul_comm d c)))

under : (a b n d p : ℕ) → n * (a * b) ≡ p → d ≤ n * b → a * d ≤ p
under a b n d p e l =
    le_trans (le_of_eq (mul_comm a d)) (le_trans (mul-le-mul_right a l) (le_of_eq (mul_assoc n b a ∙ ap (λ (k : ℕ). n * k) (mul_comm b a) ∙ e)))

-- a float's value v, in units of 2^-1074, lies between those of 2^-50 and 1
module _ (x : Float) (u : InUnit x) (v : ℕ) (h : HasValue x false v (2 ^ 1074)) where
  cross : num x * 2 ^ 1074 ≡ v * den x
  cross = value→cross x v (2 ^ 1074) h

  value-most : v ≤ 2 ^ 1074
  value-most = le_of_mul-le-mul_right (over (2 ^ 1074) (num x) (den x) (v * den x) cross u.most) (den_pos x)

  value-least : 2 ^ 1024 ≤ v
  value-least = le_of_mul-le-mul_right (under (2 ^ 1024) (2 ^ 50) (num x) (den x) (v * den x) cross u.small) (den_pos x)

-- what the fields of a float's bits say: the significand's fraction t, and the exponent's field e
pub record Fields (x : Float) (t e : ℕ) : Type 0 where
  pub fraction : t < limb
  pub least : 972 ≤ e
  pub most : e ≤ 1022
  pub value : num x * 2 ^ 1074 ≡ (limb + t) * 2 ^ e * den x

odd-negative : (d q k l : ℕ) → T (positive (odd d true q k l)) → ⊥
unfolding odd
odd-negative d zero k l p = p
odd-negative d (suc q) k l p = p

negative : (e t : ℕ) → T (positive (of_fields binary64 true e t)) → ⊥
unfolding of_fields
negative zero t p = odd-negative (prec binary64) t 0 (low binary64) p
negative (suc e) t p = go (eqb (suc e) (ones binary64)) (eqb t 0) p
  where
    go : (a b : Bool) → T (positive (cond a (cond b (inf true) nan) (odd (prec binary64) true (hid binary64 + t) e (low binary64)))) → ⊥
    go true true p = p
    go true false p = p
    go false b p = odd-negative (prec binary64) (hid binary64 + t) e (low binary64) p

bounded : (e t : ℕ) → t < limb → 2 ^ 1024 ≤ (limb + t) * 2 ^ e → (limb + t) * 2 ^ e ≤ 2 ^ 1074 → (972 ≤ e) × (e ≤ 1022)
bounded e t h l m = (low_end (ltb e 972) refl, high_end (ltb 1022 e) refl)
  where
    low_end : (b : Bool) → ltb e 972 ≡ b → 972 ≤ e
    low_end false z = ltb-false e 972 z
    low_end true z =
        let i : e ≤ 971 = omega (arith, ltb-true e 972 z) in
        let a : (limb + t) * 2 ^ e < 2 ^ 53 * 2 ^ e = mul-lt-mul_of_pos_right (omega arith) (pow_pos e) in
        let b : 2 ^ 53 * 2 ^ e ≤ 2 ^ 53 * 2 ^ 971 = mul-le-mul_left (2 ^ 53) (pow_mono i) in
        absurd (not-le_of_lt (lt_of_lt_of_le a b) l)

    high_end : (b : Bool) → ltb 1022 e ≡ b → e ≤ 1022
    high_end false z = ltb-false 1022 e z
    high_end true z =
        let i : 1023 ≤ e = omega (arith, ltb-true 1022 e z) in
        let a : limb * 2 ^ e ≤ (limb + t) * 2 ^ e = mul-le-mul_right (2 ^ e) (omega arith) in
        let b : limb * 2 ^ 1023 ≤ limb * 2 ^ e = mul-le-mul_left limb (pow_mono i) in
        absurd (not-le_of_lt (lt_of_lt_of_le (pow-lt {i = 1074} {j = 1075} (omega arith)) (le_trans b a)) m)

one-off : (e : ℕ) → e ≡ suc e - 1
one-off e = omega arith

-- by the sign's bit and the exponent's field
by-fields : (x : Float) → InUnit x → (s : Bool) (e t : ℕ) → t < limb → of_fields binary64 s e t ≡ x → (s ≡ false) × ((e ≡ 0 → ⊥) × Fields x t (e - 1))
unfolding of_fields
by-fields x u true e t h z = absurd (negative e t (subst (λ (y : Float). T (positive y)) (sym z) u.above))
by-fields x u false zero t h z =
    let v : HasValue x false (t * 2 ^ 0) (2 ^ 1074) = subst (λ (y : Float). HasValue y false (t * 2 ^ 0) (2 ^ 1074)) z (odd_sign (prec binary64) false t 0 (low binary64)) in
    absurd (not-le_of_lt (lt_of_le_of_lt (le_of_eq (mul-one t)) (lt_of_lt_of_le h (pow_mono {i = 52} {j = 1024} (omega arith)))) (value-least x u (t * 2 ^ 0) v))
by-fields x u false (suc e) t h z = (refl, ((λ q. absurd (omega arith)), subst (λ (n : ℕ). Fields x t n) (one-off e) (go (eqb (suc e) (ones binary64)) (eqb t 0) z)))
  where
    go : (a b : Bool) → cond a (cond b (inf false) nan) (odd (prec binary64) false (hid binary64 + t) e (low binary64)) ≡ x → Fields x t e
    go true true z = absurd (subst (λ (y : Float). T (positive y)) (sym z) u.above)
    go true false z = absurd (subst (λ (y : Float). T (positive y)) (sym z) u.above)
    go false b z =
        let v : HasValue x false ((limb + t) * 2 ^ e) (2 ^ 1074) = subst (λ (y : Float). HasValue y false ((limb + t) * 2 ^ e) (2 ^ 1074)) z (odd_sign (prec binary64) false (limb + t) e (low binary64)) in
        let w = bounded e t h (value-least x u _ v) (value-most x u _ v) in
        record { fraction = h; least = w.0; most = w.1; value = cross x u _ v }

pub fields : (x : Float) → fits binary64 x ≡ true → InUnit x → Fields x (to_bits binary64 x % limb) (to_bits binary64 x / limb - 1) × (to_bits binary64 x / limb ≡ 0 → ⊥)
unfolding of_bits
fields x f u = go (leb (top binary64) (to_bits binary64 x)) (nleb→lt (top binary64) (to_bits binary64 x)) (by-fields x u (leb (top binary64) (to_bits binary64 x)) (to_bits binary64 x % top binary64 / limb) (to_bits binary64 x % limb) (mod-lt (to_bits binary64 x) (omega arith)) (of_bits-to_bits binary64 x (subst (λ (t : Bool). T t) (sym f) tt)))
  where
    b : ℕ
    b = to_bits binary64 x

    go : (s : Bool) → (T (not s) → b < top binary64) → (s ≡ false) × ((b % top binary64 / limb ≡ 0 → ⊥) × Fields x (b % limb) (b % top binary64 / limb - 1))
        → Fields x (b % limb) (b / limb - 1) × (b / limb ≡ 0 → ⊥)
    go true l w = absurd (let z : ◌≡◌ {A = ℕ} 0 1 = cc in omega arith)
    go false l w =
        let m : b % top binary64 ≡ b = mod-eq_of_lt (l tt) in
        (subst (λ (n : ℕ). Fields x (b % limb) (n / limb - 1)) m w.1.1, subst (λ (n : ℕ). n / limb ≡ 0 → ⊥) m w.1.0)

-- a significand g shifted down by k of 52 places, in limbs
module _ (g k : ℕ) (h : k ≤ 52) where
  abbrev whole : ℕ
  whole = g * 2 ^ (52 - k)

  limbs-high : g / 2 ^ k ≡ whole / limb
  limbs-high =
      let a : 2 ^ (52 - k) * 2 ^ k ≡ limb = sym (pow-add 2 (52 - k) k) ∙ ap (λ (n : ℕ). 2 ^ n) (fill k h) in
      ap (λ (n : ℕ). n / 2 ^ k) (sym (mul-div_cancel g (pow_pos (52 - k)))) ∙ div-div-eq-div-mul (g * 2 ^ (52 - k)) (2 ^ (52 - k)) (2 ^ k) ∙ ap (λ (n : ℕ). g * 2 ^ (52 - k) / n) a
    where
      fill : (k : ℕ) → k ≤ 52 → 52 - k + k ≡ 52
      fill k h = omega arith

  limbs-low : whole % 2 ^ 64 % limb ≡ whole % limb
  limbs-low = mod-mod-pow whole 12 52

  limbs-joined : g / 2 ^ k * limb + whole % 2 ^ 64 % limb ≡ whole
  limbs-joined = ap (λ (n : ℕ). n * limb + whole % 2 ^ 64 % limb) limbs-high ∙ ap (λ (n : ℕ). whole / limb * limb + n) limbs-low ∙ div-add-mod' whole limb

-- in units of 2^-104
scaled : (n d g e : ℕ) → 970 ≤ e → n * 2 ^ 1074 ≡ g * 2 ^ e * d → g * 2 ^ (e - 970) * d ≡ n * unit
scaled n d g e h z =
    eq_of_mul-eq-mul_right (2 ^ 970) (pow_pos 970) (g * 2 ^ (e - 970) * d) (n * unit)
    (mul_right_comm (g * 2 ^ (e - 970)) d (2 ^ 970)
    ∙ ap (λ (k : ℕ). k * d) (mul_assoc g (2 ^ (e - 970)) (2 ^ 970) ∙ ap (λ (k : ℕ). g * k) (sym (pow-add 2 (e - 970) 970) ∙ ap (λ (k : ℕ). 2 ^ k) (fill e h)))
    ∙ sym z
    ∙ sym (mul_assoc n unit (2 ^ 970)))
  where
    fill : (e : ℕ) → 970 ≤ e → e - 970 + 970 ≡ e
    fill e h = omega arith

-- the limbs of a float, as its bits b give them
module _ (x : Float) (b : ℕ) (u : InUnit x) (f : Fields x (b % limb) (b / limb - 1)) (z : b / limb ≡ 0 → ⊥) where
  pub shift-most : 1023 - b / limb ≤ 50
  shift-most = omega (arith, f.least)

  pub field-most : b / limb ≤ 1023
  field-most = omega (arith, f.most)

  split-value : (b % limb + limb) * 2 ^ (52 - (1023 - b / limb)) * den x ≡ num x * unit
  split-value =
      let e : b / limb - 1 - 970 ≡ 52 - (1023 - b / limb) = again (b / limb) z f.least f.most in
      ap (λ (n : ℕ). n * 2 ^ (52 - (1023 - b / limb)) * den x) (add_comm (b % limb) limb)
      ∙ ap (λ (n : ℕ). (limb + b % limb) * 2 ^ n * den x) (sym e)
      ∙ scaled (num x) (den x) (limb + b % limb) (b / limb - 1) (above f.least) f.value
    where
      again : (n : ℕ) → (n ≡ 0 → ⊥) → 972 ≤ n - 1 → n - 1 ≤ 1022 → n - 1 - 970 ≡ 52 - (1023 - n)
      again n z l m = omega arith

      above : {n : ℕ} → 972 ≤ n → 970 ≤ n
      above l = omega arith

  pub split-is : Split x (record { high = (b % limb + limb) / 2 ^ (1023 - b / limb); low = (b % limb + limb) * 2 ^ (52 - (1023 - b / limb)) % 2 ^ 64 % limb })
  split-is =
      let g = b % limb + limb in
      let k = 1023 - b / limb in
      let j = limbs-joined g k (room k shift-most) in
      let v : (g / 2 ^ k * limb + g * 2 ^ (52 - k) % 2 ^ 64 % limb) * den x ≡ num x * unit = ap (λ (n : ℕ). n * den x) j ∙ split-value in
      let m : g / 2 ^ k * limb + g * 2 ^ (52 - k) % 2 ^ 64 % limb ≤ unit = le_of_mul-le-mul_right (over unit (num x) (den x) _ (sym v) u.most) (den_pos x) in
      record { low = mod-lt (g * 2 ^ (52 - k) % 2 ^ 64) (omega arith); high = upper (g / 2 ^ k) (g * 2 ^ (52 - k) % 2 ^ 64 % limb) m; value = v }
    where
      room : (k : ℕ) → k ≤ 50 → k ≤ 52
      room k h = omega arith

      upper : (h l : ℕ) → h * limb + l ≤ unit → h ≤ limb
      upper h l m = omega arith

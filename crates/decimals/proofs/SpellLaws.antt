-- The digits of a fraction that counts units of 2^-104, one after another.
use Prim.Native.Nat.{ℕ, zero, suc, ◌+◌, ◌-◌, ◌*◌, ◌/◌, ◌%◌, ◌^◌, ◌≤◌, ◌<◌, compare, Ordering}
use mathlib.Core.Bool.{Bool, true, false, cond}
use mathlib.Core.Path.{◌≡◌, refl, sym, ap, ◌∙◌, subst}
use native.Mathlib.Numerals.{add-one}
use native.Mathlib.Omega.{arith}
use native.Mathlib.Nat.{le_trans, le_of_eq, lt_of_lt_of_le, le-add_right, mul_assoc, mul-one, mul-le-mul_right, pow-suc, zero-add}
use lib.Arith.{digits_lt, digits_div, digits_mod}
use lib.Dec.{ltb}
use lib.Ieee.{nearest}
use lib.Ieee.Fits.{nearest-le}
use borrow.Author.Tests.{ltb-true, ltb-false, le-leb, lt-leb}
use Rattle.decimals.specs.declared.Decimals.{Decimals}
use Rattle.decimals.specs.Decimals.{enough, most_places, places_of, decimals_at, decimals_of}
use Rattle.decimals.specs.Private.{limb, unit, goes_on}

-- the digits of f / unit up to a place, and what is left of it
pub record Spelling (f d h l p : ℕ) : Type 0 where
  pub few : p ≤ most_places
  pub high : h < limb
  pub low : l < limb
  pub digits : d < enough * 10
  pub value : d * unit + (h * limb + l) ≡ f * 10 ^ p
  pub left : places_of most_places f unit ≡ p + places_of (most_places - p) (f * 10 ^ p) unit

pub spelling-none : (d h l : ℕ) → d ≤ 1 → h < limb → l < limb → Spelling (d * unit + (h * limb + l)) d h l 0
spelling-none d h l x y z =
    let f = d * unit + (h * limb + l) in
    record { few = omega arith; high = y; low = z; digits = omega arith; value = sym (mul-one f); left = ap (λ (n : ℕ). places_of most_places n unit) (sym (mul-one f)) ∙ sym (zero-add (places_of most_places (f * 1) unit)) }

rest-small : (h l : ℕ) → h < limb → l < limb → h * limb + l < unit
rest-small h l x y = digits_lt x y

-- ten times the whole, in limbs
carry : (d h l : ℕ)
    → (d * 10 + (h * 10 + l * 10 / limb) / limb) * unit + ((h * 10 + l * 10 / limb) % limb * limb + l * 10 % limb) ≡ (d * unit + (h * limb + l)) * 10
carry d h l = omega arith

pub limb-rest : (n : ℕ) → n % limb < limb
limb-rest n = omega arith

digits-next : (d h l : ℕ) → d < enough → h < limb → l < limb → d * 10 + (h * 10 + l * 10 / limb) / limb < enough * 10
digits-next d h l x y z = omega arith

-- another digit is needed, and has a place
pub both : (d p : ℕ) → goes_on d p ≡ true → (d < enough) × (p < most_places)
both d p e = go (ltb d enough) refl e
  where
    go : (b : Bool) → ltb d enough ≡ b → cond b (ltb p most_places) false ≡ true → (d < enough) × (p < most_places)
    go true z e = (ltb-true d enough z, ltb-true p most_places e)
    go false z e = absurd (let w : ◌≡◌ {A = ℕ} 0 1 = cc in omega arith)

one_more : (k a : ℕ) → a < enough * unit → places_of (suc k) a unit ≡ suc (places_of k (a * 10) unit)
unfolding places_of
one_more k a h = ap (λ (b : Bool). cond b 0 (suc (places_of k (a * 10) unit))) (lt-leb (enough * unit) a h)

no_more : (k a : ℕ) → enough * unit ≤ a → places_of k a unit ≡ 0
unfolding places_of
no_more zero a h = refl
no_more (suc k) a h = ap (λ (b : Bool). cond b 0 (suc (places_of k (a * 10) unit))) (le-leb (enough * unit) a h)

all_fit : enough * 10 ≤ 2 ^ 64
all_fit = omega arith

module _ (f d h l p : ℕ) (s : Spelling f d h l p) where
  pub spelling-next : goes_on d p ≡ true
      → Spelling f (d * 10 + (h * 10 + l * 10 / limb) / limb) ((h * 10 + l * 10 / limb) % limb) (l * 10 % limb) (p + 1)
  spelling-next g =
      let t = both d p g in
      let v = s.value in
      let a = f * 10 ^ p in
      let ten : a * 10 ≡ f * 10 ^ (p + 1) = mul_assoc f (10 ^ p) 10 ∙ ap (λ (n : ℕ). f * n) (sym (pow-suc 10 p)) ∙ ap (λ (n : ℕ). f * 10 ^ n) (sym (add-one p)) in
      let k : most_places - p ≡ suc (most_places - (p + 1)) = omega (arith, t.1) in
      let small : a < enough * unit = subst (λ (n : ℕ). n < enough * unit) v (digits_lt t.0 (rest-small h l s.high s.low)) in
      record {
        few = omega (arith, t.1);
        high = limb-rest (h * 10 + l * 10 / limb);
        low = limb-rest (l * 10);
        digits = digits-next d h l t.0 s.high s.low;
        value = carry d h l ∙ ap (λ (n : ℕ). n * 10) v ∙ ten;
        left =
            s.left
            ∙ ap (λ (n : ℕ). p + places_of n a unit) k
            ∙ ap (λ (n : ℕ). p + n) (one_more (most_places - (p + 1)) a small ∙ ap (λ (n : ℕ). suc (places_of (most_places - (p + 1)) n unit)) ten)
            ∙ shift (places_of (most_places - (p + 1)) (f * 10 ^ (p + 1)) unit);
      }
    where
      shift : (n : ℕ) → p + suc n ≡ p + 1 + n
      shift n = omega arith

  pub digits-fit : goes_on d p ≡ true → d * 10 + (h * 10 + l * 10 / limb) / limb < 2 ^ 64
  digits-fit g = lt_of_lt_of_le (digits-next d h l (both d p g).0 s.high s.low) all_fit

  pub spelling-ends : goes_on d p ≡ false → places_of most_places f unit ≡ p
  unfolding places_of
  spelling-ends g = s.left ∙ ap (λ (n : ℕ). p + n) (go (ltb d enough) refl g) ∙ zeroless
    where
      zeroless : p + 0 ≡ p
      zeroless = omega arith

      go : (b : Bool) → ltb d enough ≡ b → cond b (ltb p most_places) false ≡ false → places_of (most_places - p) (f * 10 ^ p) unit ≡ 0
      go true z e =
          let h : most_places ≤ p = ltb-false p most_places e in
          let k : most_places - p ≡ 0 = omega (arith, h, s.few) in
          ap (λ (n : ℕ). places_of n (f * 10 ^ p) unit) k
      go false z e =
          let h = ltb-false d enough z in
          no_more (most_places - p) (f * 10 ^ p) (subst (λ (n : ℕ). enough * unit ≤ n) s.value (le_trans (mul-le-mul_right unit h) (le-add_right (d * unit) _)))

  pub spelling-is : goes_on d p ≡ false → (r : ℕ) → r ≡ nearest d (compare ((h * limb + l) * 2) unit)
      → ◌≡◌ {A = Decimals} (record { digits = r; places = p }) (decimals_of f unit)
  unfolding decimals_of decimals_at
  spelling-is g r e =
      let k = spelling-ends g in
      let w = rest-small h l s.high s.low in
      let a = d * unit + (h * limb + l) in
      let x : a / unit ≡ d = digits_div d w in
      let y : a % unit ≡ h * limb + l = digits_mod d w in
      ap (λ (n : ℕ). record { digits = n; places = p })
      (e
      ∙ ap (λ (n : ℕ). nearest n (compare ((h * limb + l) * 2) unit)) (sym x)
      ∙ ap (λ (n : ℕ). nearest (a / unit) (compare (n * 2) unit)) (sym y)
      ∙ ap (λ (n : ℕ). nearest (n / unit) (compare (n % unit * 2) unit)) s.value)
      ∙ ap (λ (n : ℕ). decimals_at f unit n) (sym k)

-- rounding adds one at most
pub rounded-most : (d : ℕ) (o : Ordering) (r : ℕ) → d < enough * 10 → r ≡ nearest d o → r ≤ enough * 10
rounded-most d o r h e = le_trans (le_of_eq e) (le_trans (nearest-le d o) h)

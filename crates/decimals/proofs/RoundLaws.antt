-- The nearest whole number, by how twice the rest compares with the unit; and decimals of equal fractions.
use Prim.Native.Nat.{ℕ, zero, suc, ◌+◌, ◌*◌, ◌%◌, ◌^◌, ◌≤◌, ◌<◌, compare, Ordering}
use mathlib.Core.Bool.{Bool, true, false, cond}
use mathlib.Core.Path.{◌≡◌, refl, sym, ap, ◌∙◌, subst}
use native.Mathlib.Numerals.{add-one}
use native.Mathlib.Omega.{arith}
use native.Mathlib.Nat.{le_trans, le_of_eq, mul_right_comm, mul-le-mul_right, le_of_mul-le-mul_right}
use lib.Dec.{T, leb, is_le, compare_is_eq, leb→le, le→leb, eqb, eqb→eq, eqb_refl}
use lib.Ieee.{nearest}
use lib.Ieee.Nearest.{closest, closest_same}
use Rattle.decimals.specs.Private.{limb, unit}
use Rattle.decimals.specs.Decimals.{enough, most_places, places_of, decimals_at, decimals_of}

abbrev half : ℕ
half = 2251799813685248

-- less than half a unit is left, more than half, and just half
module _ (q a b : ℕ) where
  nearest-below : a < b → nearest q (compare a b) ≡ q
  nearest-below h = go (compare a b) (le→leb a b (omega arith)) (eqb→eq a b)
    where
      go : (o : Ordering) → T (is_le o) → (T (compare_is_eq o) → a ≡ b) → nearest q o ≡ q
      go Ordering.lt t f = refl
      go Ordering.eq t f = absurd (let e = f tt in omega arith)
      go Ordering.gt t f = absurd t

  nearest-above : b < a → nearest q (compare a b) ≡ suc q
  nearest-above h = go (compare a b) (leb→le a b)
    where
      go : (o : Ordering) → (T (is_le o) → a ≤ b) → nearest q o ≡ suc q
      go Ordering.lt f = absurd (let e = f tt in omega arith)
      go Ordering.eq f = absurd (let e = f tt in omega arith)
      go Ordering.gt f = refl

  nearest-half : a ≡ b → nearest q (compare a b) ≡ q + q % 2
  nearest-half e = go (compare a b) (subst (λ (x : ℕ). T (eqb a x)) e (eqb_refl a))
    where
      go : (o : Ordering) → T (compare_is_eq o) → nearest q o ≡ q + q % 2
      go Ordering.lt t = absurd t
      go Ordering.eq t = refl
      go Ordering.gt t = absurd t

-- the same of a rest in two limbs
module _ (q h l : ℕ) where
  pub less-than-half : h < half → l < limb → q ≡ nearest q (compare ((h * limb + l) * 2) unit)
  less-than-half x y = sym (nearest-below q ((h * limb + l) * 2) unit (omega arith))

  pub more-than-half : unit < (h * limb + l) * 2 → q + 1 ≡ nearest q (compare ((h * limb + l) * 2) unit)
  more-than-half x = add-one q ∙ sym (nearest-above q ((h * limb + l) * 2) unit x)

  pub just-half : (h * limb + l) * 2 ≡ unit → q + q % 2 ≡ nearest q (compare ((h * limb + l) * 2) unit)
  just-half e = sym (nearest-half q ((h * limb + l) * 2) unit e)

-- two tests that hold together are one
leb-same : (a b c d : ℕ) → (a ≤ b → c ≤ d) → (c ≤ d → a ≤ b) → leb a b ≡ leb c d
leb-same a b c d f g = go (leb a b) (leb c d) (leb→le a b) (λ h. le→leb a b h) (leb→le c d) (λ h. le→leb c d h)
  where
    go : (x y : Bool) → (T x → a ≤ b) → (a ≤ b → T x) → (T y → c ≤ d) → (c ≤ d → T y) → x ≡ y
    go true true p p' q q' = refl
    go true false p p' q q' = absurd (q' (f (p tt)))
    go false true p p' q q' = absurd (p' (g (q tt)))
    go false false p p' q q' = refl

-- k units are at most a / b where they are at most c / d, an equal fraction
units_in : (k a b c d : ℕ) → 0 < b → a * d ≡ c * b → k * b ≤ a → k * d ≤ c
units_in k a b c d B e h =
    le_of_mul-le-mul_right (le_trans (le_of_eq (mul_right_comm k d b)) (le_trans (mul-le-mul_right d h) (le_of_eq e))) B

tenfold : (a d c b : ℕ) → a * d ≡ c * b → a * 10 * d ≡ c * 10 * b
tenfold a d c b e = mul_right_comm a 10 d ∙ ap (λ (x : ℕ). x * 10) e ∙ mul_right_comm c b 10

module _ (b d : ℕ) (B : 0 < b) (D : 0 < d) where
  places_same : (k a c : ℕ) → a * d ≡ c * b → places_of k a b ≡ places_of k c d
  unfolding places_of
  places_same zero a c e = refl
  places_same (suc k) a c e =
      ap (λ (t : Bool). cond t 0 (suc (places_of k (a * 10) b))) (leb-same (enough * b) a (enough * d) c (units_in enough a b c d B e) (units_in enough c d a b D (sym e)))
      ∙ ap (λ (n : ℕ). cond (leb (enough * d) c) 0 (suc n)) (places_same k (a * 10) (c * 10) (tenfold a d c b e))

  pub decimals-same : (a c : ℕ) → a * d ≡ c * b → decimals_of a b ≡ decimals_of c d
  unfolding decimals_of decimals_at
  decimals-same a c e =
      let k = places_of most_places a b in
      let k' = places_of most_places c d in
      let z : k ≡ k' = places_same most_places a c e in
      let s : a * 10 ^ k * d ≡ c * 10 ^ k * b = mul_right_comm a (10 ^ k) d ∙ ap (λ (x : ℕ). x * 10 ^ k) e ∙ mul_right_comm c b (10 ^ k) in
      ap (λ (n : ℕ). record { digits = n; places = k }) (closest_same (a * 10 ^ k) b (c * 10 ^ k) d B D s)
      ∙ ap (λ (n : ℕ). record { digits = closest (c * 10 ^ n) d; places = n }) z

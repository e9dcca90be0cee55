-- Runs of zeros: by place, as parts of a list, and from the bits of all numbers together.
use mathlib.Core.Path.{◌≡◌, refl, sym, ap, ◌∙◌}
use mathlib.Core.Bool.{Bool, true, false, cond}
use mathlib.Core.List.{List, [], ◌∷◌}
use Prim.Native.Nat.{ℕ, zero, suc, ◌+◌, ◌-◌, ◌≤◌, ◌<◌}
use native.Mathlib.Omega.{arith}
use native.Mathlib.Decide.{ℕ_discrete}
use lib.Bits.{bit_or, or_add_and, and_le_l, and_le_r}
use lib.Dec.{eqb}
use lib.ListN.{length, take, drop, get_or, length-take, length-drop}
use lib.Seq.{get_or-take, get_or-drop}
use borrow.Author.Tests.{eq-eqb, ne_eqb, eqb-true}
use Rattle.base.specs.Tests.{zeros}
use Rattle.base.proofs.TestLaws.{All}

-- two numbers together have no bit exactly where each is 0
pub or-none : (a b : ℕ) → eqb (bit_or a b) 0 ≡ cond (eqb a 0) (eqb b 0) false
or-none a b = go (ℕ_discrete a 0) (ℕ_discrete b 0)
  where
    go : Dec (a ≡ 0) → Dec (b ≡ 0) → eqb (bit_or a b) 0 ≡ cond (eqb a 0) (eqb b 0) false
    go (yes e) (yes f) = rw (eq-eqb a 0 e, eq-eqb b 0 f) (eq-eqb (bit_or a b) 0 (omega (arith, or_add_and a b)))
    go (yes e) (no f) = rw (eq-eqb a 0 e, ne_eqb b 0 f) (ne_eqb (bit_or a b) 0 (λ z. f (omega (arith, or_add_and a b, and_le_l a b))))
    go (no e) f = rw (ne_eqb a 0 e) (ne_eqb (bit_or a b) 0 (λ z. e (omega (arith, or_add_and a b, and_le_r a b))))

pub cond_both : (a b c : Bool) → cond (cond a b false) c false ≡ cond a (cond b c false) false
cond_both true b c = refl
cond_both false b c = refl

-- ---- by place

pub zeros-at : (xs : List ℕ) → All (zeros xs) → (i : ℕ) → get_or xs i 0 ≡ 0
zeros-at [] h i = refl
zeros-at (x ∷ xs) h zero = eqb-true x 0 h.0
zeros-at (x ∷ xs) h (suc i) = zeros-at xs h.1 i

pub at-zeros : (xs : List ℕ) → ((i : ℕ) → i < length xs → get_or xs i 0 ≡ 0) → All (zeros xs)
at-zeros [] h = tt
at-zeros (x ∷ xs) h = (eq-eqb x 0 (h zero (omega arith)), at-zeros xs (λ i l. h (suc i) (omega arith)))

-- the places from a on before b hold 0
abbrev pub Clear : ℕ → ℕ → List ℕ → Type 0
Clear a b l = (j : ℕ) → a ≤ j → j < b → get_or l j 0 ≡ 0

module _ (a n : ℕ) (l : List ℕ) where
  pub part_at : (j : ℕ) → j < n → get_or (take n (drop a l)) j 0 ≡ get_or l (a + j) 0
  part_at j h = get_or-take n (drop a l) j 0 h ∙ get_or-drop a l j 0

  pub part-clear : All (zeros (take n (drop a l))) → Clear a (a + n) l
  part-clear h j lo hi =
      let e : a + (j - a) ≡ j = omega arith in
      ap (λ (k : ℕ). get_or l k 0) (sym e) ∙ sym (part_at (j - a) (omega arith)) ∙ zeros-at (take n (drop a l)) h (j - a)

  pub clear-part : Clear a (a + n) l → All (zeros (take n (drop a l)))
  clear-part h =
      at-zeros (take n (drop a l))
      (λ j m. let q : j < n = omega (arith, length-take n (drop a l)) in part_at j q ∙ h (a + j) (omega arith) (omega arith))

-- all from place a on
module _ (a : ℕ) (l : List ℕ) where
  pub drop-clear : All (zeros (drop a l)) → Clear a (length l) l
  drop-clear h j lo hi =
      let e : a + (j - a) ≡ j = omega arith in
      ap (λ (k : ℕ). get_or l k 0) (sym e) ∙ sym (get_or-drop a l (j - a) 0) ∙ zeros-at (drop a l) h (j - a)

  pub clear-drop : Clear a (length l) l → All (zeros (drop a l))
  clear-drop h = at-zeros (drop a l) (λ j m. get_or-drop a l j 0 ∙ h (a + j) (omega arith) (omega (arith, length-drop a l)))

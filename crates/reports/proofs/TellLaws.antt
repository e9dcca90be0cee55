-- Telling in place: nothing more at a place changes nothing, and the other places stay.
use Prim.Native.Nat.{ℕ, ◌+◌, ◌*◌, ◌<◌, ◌^◌}
use mathlib.Core.Bool.{cond}
use mathlib.Core.Path.{◌≡◌, refl, sym, ap, ap₂, ◌∙◌}
use mathlib.Core.List.{List}
use lib.ListN.{length, get_or, set, length-set}
use lib.Seq.{set-get_or, get_or-set_same, get_or-set_other}
use lib.Dec.{eqb}
use native.Mathlib.Omega.{arith}
use native.Mathlib.Decide.{ℕ_discrete}
use borrow.Author.Tests.{ne_eqb}
use Rattle.reports.specs.Tallies.{tally, plus, back_tally, more, more_of, Tellable}

more-none : (k : ℕ) (xs : List ℕ) → more k 0 xs ≡ xs
more-none k xs = ap (set xs k) (omega arith) ∙ set-get_or xs k 0

-- the numbers of one tally
tells : (i l q r x : ℕ) (xs : List ℕ) → more_of i (tally l q r x) xs ≡ more (i * 4 + 3) x (more (i * 4 + 2) r (more (i * 4 + 1) q (more (i * 4) l xs)))
tells i l q r x xs = refl

pub quantum-told : (i : ℕ) (xs : List ℕ) → more (i * 4 + 1) 1 xs ≡ more_of i (tally 0 1 0 0) xs
quantum-told i xs =
    sym (more-none (i * 4 + 3) _ ∙ more-none (i * 4 + 2) _ ∙ ap (more (i * 4 + 1) 1) (more-none (i * 4) xs))

pub none_told : (i back : ℕ) (xs : List ℕ) → back ≡ 0 → xs ≡ more_of i (back_tally back) xs
none_told i back xs z =
    sym (ap (λ (n : ℕ). more_of i (back_tally n) xs) z ∙ more-none (i * 4 + 3) _ ∙ more-none (i * 4 + 2) _ ∙ more-none (i * 4 + 1) _ ∙ more-none (i * 4) xs)

pub back-told : (i back : ℕ) (xs : List ℕ) → (back ≡ 0 → ⊥) → more (i * 4 + 3) back (more (i * 4 + 2) 1 xs) ≡ more_of i (back_tally back) xs
back-told i back xs d =
    ap (λ (n : ℕ). more (i * 4 + 3) back (more (i * 4 + 2) n xs)) (sym (ap (λ b. cond b 0 1) (ne_eqb back 0 d)))
    ∙ ap (λ (ys : List ℕ). more (i * 4 + 3) back (more (i * 4 + 2) (cond (eqb back 0) 0 1) ys)) (sym (more-none (i * 4 + 1) _ ∙ more-none (i * 4) xs))

pub limit-told : (i back : ℕ) (xs : List ℕ) → more_of i (back_tally back) (more (i * 4) 1 xs) ≡ more_of i (plus (tally 1 0 0 0) (back_tally back)) xs
limit-told i back xs =
    let r : ℕ = cond (eqb back 0) 0 1 in
    let er : r ≡ 0 + r = omega arith in
    let ex : back ≡ 0 + back = omega arith in
    ap (λ (ys : List ℕ). more (i * 4 + 3) back (more (i * 4 + 2) r (more (i * 4 + 1) 0 ys))) (more-none (i * 4) (more (i * 4) 1 xs))
    ∙ ap₂ (λ (a b : ℕ). more (i * 4 + 3) a (more (i * 4 + 2) b (more (i * 4 + 1) 0 (more (i * 4) 1 xs)))) ex er

-- n more at a place leaves the length, and of the other places their room
pub more-length : (k n : ℕ) (xs : List ℕ) → length (more k n xs) ≡ length xs
more-length k n xs = length-set xs k (get_or xs k 0 + n)

pub more-other : (k j n : ℕ) (xs : List ℕ) → (j ≡ k → ⊥) → get_or (more k n xs) j 0 ≡ get_or xs j 0
more-other k j n xs d = get_or-set_other xs k j (get_or xs k 0 + n) 0 d

pub more_room : (m n k : ℕ) (xs : List ℕ) → k < length xs → Tellable (n + m) xs → Tellable m (more k n xs)
more_room m n k xs l h = (more-length k n xs ∙ h.0, λ j. go j (ℕ_discrete j k))
  where
    go : (j : ℕ) → Dec (j ≡ k) → get_or (more k n xs) j 0 + m < 2 ^ 64
    go j (yes e) = omega (arith, ap (λ (x : ℕ). get_or (more k n xs) x 0) e, get_or-set_same xs k (get_or xs k 0 + n) 0 l, h.1 k)
    go j (no e) = omega (arith, more-other k j n xs e, h.1 j)

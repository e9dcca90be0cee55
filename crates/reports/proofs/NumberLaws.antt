-- Tallies as numbers: where each stands, and what one tally more changes.
use Prim.Native.Nat.{ℕ, zero, suc, ◌+◌, ◌-◌, ◌*◌, ◌≤◌, ◌<◌}
use mathlib.Core.Bool.{Bool, true, false, cond}
use mathlib.Core.Path.{◌≡◌, refl, sym, ap, ap₂, ◌∙◌, subst, subst⁻¹}
use mathlib.Core.List.{List, [], ◌∷◌, ◌++◌}
use lib.ListN.{length, get_or, set, replicate, length-append, get_or-append}
use lib.Seq.{get_or-append-add, set-append_left}
use lib.Dec.{ltb, eqb}
use native.Mathlib.Omega.{arith}
use native.Mathlib.Decide.{ℕ_discrete}
use borrow.Author.Tests.{eq-eqb, ne_eqb, ltb-true, ltb-false}
use Rattle.base.proofs.TestLaws.{cond-true, cond-false}
use Rattle.reports.specs.Tallies.{Tally, tally, nothing, plus, of_thread, no_tallies, both, four, numbers_below, numbers, more, more_of}
use Rattle.reports.proofs.TallyLaws.{same-tally, plus-nothing, AtMost}

pub numbers-length : (n : ℕ) (f : ℕ → Tally) → length (numbers_below n f) ≡ n * 4
unfolding numbers_below
numbers-length zero f = refl
numbers-length (suc n) f = length-append (numbers_below n f) (four (f n)) ∙ omega (arith, numbers-length n f)

-- nothing told is 128 zeros
pub no-numbers : numbers no_tallies ≡ replicate 128 0
unfolding numbers_below
no-numbers = refl

-- ---- more at a place of one list before another

set-right : (xs ys : List ℕ) (k x : ℕ) → set (xs ++ ys) (length xs + k) x ≡ xs ++ set ys k x
set-right [] ys k x = ap (λ (n : ℕ). set ys n x) (omega arith)
set-right (y ∷ xs) ys k x =
    let e : suc (length xs) + k ≡ suc (length xs + k) = omega arith in
    ap (λ (n : ℕ). set (y ∷ (xs ++ ys)) n x) e ∙ ap (λ (l : List ℕ). y ∷ l) (set-right xs ys k x)

more-right : (xs ys : List ℕ) (k n : ℕ) → more (length xs + k) n (xs ++ ys) ≡ xs ++ more k n ys
more-right xs ys k n =
    ap (λ (x : ℕ). set (xs ++ ys) (length xs + k) (x + n)) (get_or-append-add xs ys k 0) ∙ set-right xs ys k (get_or ys k 0 + n)

more_left : (xs ys : List ℕ) (k n : ℕ) → k < length xs → more k n (xs ++ ys) ≡ more k n xs ++ ys
more_left xs ys k n l =
    ap (λ (x : ℕ). set (xs ++ ys) k (x + n)) (get_or-append xs ys 0 k l) ∙ set-append_left xs ys k (get_or xs k 0 + n) l

-- ---- the number at a place

pub number-at : (n : ℕ) (f : ℕ → Tally) (i j : ℕ) → i < n → j < 4 → get_or (numbers_below n f) (i * 4 + j) 0 ≡ get_or (four (f i)) j 0
unfolding numbers_below
number-at zero f i j l m = absurd (omega arith)
number-at (suc n) f i j l m = go (ℕ_discrete i n) (λ q. number-at n f i j q m)
  where
    k : length (numbers_below n f) ≡ n * 4
    k = numbers-length n f

    go : Dec (i ≡ n) → (i < n → get_or (numbers_below n f) (i * 4 + j) 0 ≡ get_or (four (f i)) j 0)
        → get_or (numbers_below n f ++ four (f n)) (i * 4 + j) 0 ≡ get_or (four (f i)) j 0
    go (yes e) r =
        let p : i * 4 + j ≡ length (numbers_below n f) + j = omega (arith, k) in
        ap (λ (x : ℕ). get_or (numbers_below n f ++ four (f n)) x 0) p
        ∙ get_or-append-add (numbers_below n f) (four (f n)) j 0
        ∙ ap (λ (x : ℕ). get_or (four (f x)) j 0) (sym e)
    go (no e) r = get_or-append (numbers_below n f) (four (f n)) 0 (i * 4 + j) (omega (arith, k, e)) ∙ r (omega (arith, e))

-- whatever the place, it is no more than m where none of the tallies has more
pub numbers-most : (n m : ℕ) (f : ℕ → Tally) → ((i : ℕ) → i < n → AtMost m m (f i)) → (k : ℕ) → get_or (numbers_below n f) k 0 ≤ m
unfolding numbers_below
numbers-most zero m f h k = omega arith
numbers-most (suc n) m f h k = go (ltb k (length (numbers_below n f))) refl (numbers-most n m f (λ i l. h i (omega arith)) k)
  where
    last : (j : ℕ) → get_or (four (f n)) j 0 ≤ m
    last zero = (h n (omega arith)).limits
    last (suc zero) = (h n (omega arith)).quanta
    last (suc (suc zero)) = (h n (omega arith)).replenishments
    last (suc (suc (suc zero))) = (h n (omega arith)).amounts
    last (suc (suc (suc (suc j)))) = omega arith

    go : (b : Bool) → ltb k (length (numbers_below n f)) ≡ b → get_or (numbers_below n f) k 0 ≤ m → get_or (numbers_below n f ++ four (f n)) k 0 ≤ m
    go true e r = omega (arith, get_or-append (numbers_below n f) (four (f n)) 0 k (ltb-true k (length (numbers_below n f)) e))
    go false e r =
        let j = k - length (numbers_below n f) in
        let p : length (numbers_below n f) + j ≡ k = omega (arith, ltb-false k (length (numbers_below n f)) e) in
        subst (λ (x : ℕ). get_or (numbers_below n f ++ four (f n)) x 0 ≤ m) p
        (subst⁻¹ (λ (x : ℕ). x ≤ m) (get_or-append-add (numbers_below n f) (four (f n)) j 0) (last j))

-- ---- one tally more

same-below : (n : ℕ) (f g : ℕ → Tally) → ((j : ℕ) → j < n → f j ≡ g j) → numbers_below n f ≡ numbers_below n g
unfolding numbers_below
same-below zero f g h = refl
same-below (suc n) f g h = ap₂ (λ (xs : List ℕ) (x : Tally). xs ++ four x) (same-below n f g (λ j l. h j (omega arith))) (h n (omega arith))

-- a tally that has one number alone
module _ (i j x : ℕ) (m : j < 4) (p : Tally) (is : (t : Tally) → more j x (four t) ≡ four (plus t p)) where
  one_more : (n : ℕ) (f : ℕ → Tally) → i < n → more (i * 4 + j) x (numbers_below n f) ≡ numbers_below n (both f (of_thread i p))
  unfolding numbers_below
  one_more zero f l = absurd (omega arith)
  one_more (suc n) f l = go (ℕ_discrete i n) (λ q. one_more n f q)
    where
      k : length (numbers_below n f) ≡ n * 4
      k = numbers-length n f

      other : (b : ℕ) → (i ≡ b → ⊥) → f b ≡ both f (of_thread i p) b
      other b d = sym (ap (plus (f b)) (cond-false (eqb i b) p nothing (ne_eqb i b d)) ∙ plus-nothing (f b))

      go : Dec (i ≡ n) → (i < n → more (i * 4 + j) x (numbers_below n f) ≡ numbers_below n (both f (of_thread i p)))
          → more (i * 4 + j) x (numbers_below n f ++ four (f n)) ≡ numbers_below n (both f (of_thread i p)) ++ four (both f (of_thread i p) n)
      go (yes e) r =
          let a : i * 4 + j ≡ length (numbers_below n f) + j = omega (arith, k) in
          ap (λ (y : ℕ). more y x (numbers_below n f ++ four (f n))) a
          ∙ more-right (numbers_below n f) (four (f n)) j x
          ∙ ap₂ (λ (xs ys : List ℕ). xs ++ ys)
          (same-below n f (both f (of_thread i p)) (λ b q. other b (λ z. omega arith)))
          (is (f n) ∙ ap (λ (y : Tally). four (plus (f n) y)) (sym (cond-true (eqb i n) p nothing (eq-eqb i n e))))
      go (no e) r =
          more_left (numbers_below n f) (four (f n)) (i * 4 + j) x (omega (arith, k, e))
          ∙ ap₂ (λ (xs ys : List ℕ). xs ++ ys) (r (omega (arith, e))) (ap four (other n e))

-- of each kind
module _ (i x : ℕ) (f : ℕ → Tally) (l : i < 32) where
  pub limits-more : more (i * 4) x (numbers f) ≡ numbers (both f (of_thread i (tally x 0 0 0)))
  limits-more =
      let z : i * 4 ≡ i * 4 + 0 = omega arith in
      ap (λ (k : ℕ). more k x (numbers f)) z
      ∙ one_more i 0 x (omega arith) (tally x 0 0 0)
      (λ t. ap four (same-tally (tally (t.limits + x) t.quanta t.replenishments t.amounts) (plus t (tally x 0 0 0)) refl (omega arith) (omega arith) (omega arith))) 32 f l

  pub quanta-more : more (i * 4 + 1) x (numbers f) ≡ numbers (both f (of_thread i (tally 0 x 0 0)))
  quanta-more =
      one_more i 1 x (omega arith) (tally 0 x 0 0)
      (λ t. ap four (same-tally (tally t.limits (t.quanta + x) t.replenishments t.amounts) (plus t (tally 0 x 0 0)) (omega arith) refl (omega arith) (omega arith))) 32 f l

  pub replenishments-more : more (i * 4 + 2) x (numbers f) ≡ numbers (both f (of_thread i (tally 0 0 x 0)))
  replenishments-more =
      one_more i 2 x (omega arith) (tally 0 0 x 0)
      (λ t. ap four (same-tally (tally t.limits t.quanta (t.replenishments + x) t.amounts) (plus t (tally 0 0 x 0)) (omega arith) (omega arith) refl (omega arith))) 32 f l

  pub amounts-more : more (i * 4 + 3) x (numbers f) ≡ numbers (both f (of_thread i (tally 0 0 0 x)))
  amounts-more =
      one_more i 3 x (omega arith) (tally 0 0 0 x)
      (λ t. ap four (same-tally (tally t.limits t.quanta t.replenishments (t.amounts + x)) (plus t (tally 0 0 0 x)) (omega arith) (omega arith) (omega arith) refl)) 32 f l

-- all four
pub more-of : (i : ℕ) (x : Tally) (f : ℕ → Tally) → i < 32 → more_of i x (numbers f) ≡ numbers (both f (of_thread i x))
more-of i x f l =
    let a = of_thread i (tally x.limits 0 0 0) in
    let b = of_thread i (tally 0 x.quanta 0 0) in
    let c = of_thread i (tally 0 0 x.replenishments 0) in
    ap (λ (xs : List ℕ). more (i * 4 + 3) x.amounts (more (i * 4 + 2) x.replenishments (more (i * 4 + 1) x.quanta xs))) (limits-more i x.limits f l)
    ∙ ap (λ (xs : List ℕ). more (i * 4 + 3) x.amounts (more (i * 4 + 2) x.replenishments xs)) (quanta-more i x.quanta (both f a) l)
    ∙ ap (λ (xs : List ℕ). more (i * 4 + 3) x.amounts xs) (replenishments-more i x.replenishments (both (both f a) b) l)
    ∙ amounts-more i x.amounts (both (both (both f a) b) c) l
    ∙ same-below 32 _ (both f (of_thread i x)) (λ j m. go (eqb i j) (f j))
  where
    go : (e : Bool) (t : Tally)
        → plus (plus (plus (plus t (cond e (tally x.limits 0 0 0) nothing)) (cond e (tally 0 x.quanta 0 0) nothing)) (cond e (tally 0 0 x.replenishments 0) nothing))
        (cond e (tally 0 0 0 x.amounts) nothing)
        ≡ plus t (cond e x nothing)
    go true t = same-tally _ (plus t x) (omega arith) (omega arith) (omega arith) (omega arith)
    go false t = same-tally _ (plus t nothing) (omega arith) (omega arith) (omega arith) (omega arith)

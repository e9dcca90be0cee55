-- Numbers added up, place by place.
use Prim.Native.Nat.{ℕ, zero, suc, ◌+◌, ◌≤◌, ◌<◌}
use mathlib.Core.List.{List, [], ◌∷◌, ◌++◌}
use mathlib.Core.Path.{◌≡◌, refl, sym, ap, ap₂, ◌∙◌}
use native.Mathlib.Omega.{arith}
use native.Mathlib.Decide.{ℕ_discrete}
use lib.ListN.{length, get_or, set, length-set, replicate}
use lib.Seq.{ext_get_or, get_or-set_same, get_or-set_other}
use Rattle.reports.specs.Tallies.{Tally, plus, both, four, numbers_below, numbers}
use Rattle.reports.proofs.NumberLaws.{numbers-length}
use Rattle.counts_text.specs.Sums.{added}

pub added-length : (xs ys : List ℕ) → length (added xs ys) ≡ length xs
unfolding added
added-length [] ys = refl
added-length (x ∷ xs) [] = refl
added-length (x ∷ xs) (y ∷ ys) = ap suc (added-length xs ys)

pub added-at : (xs ys : List ℕ) (k : ℕ) → k < length xs → get_or (added xs ys) k 0 ≡ get_or xs k 0 + get_or ys k 0
unfolding added
added-at [] ys k l = absurd (omega arith)
added-at (x ∷ xs) [] k l = omega arith
added-at (x ∷ xs) (y ∷ ys) zero l = refl
added-at (x ∷ xs) (y ∷ ys) (suc k) l = added-at xs ys k (omega arith)

-- the first k places added, and the others as they were
pub record AddedTo (k : ℕ) (xs ys zs : List ℕ) : Type 0 where
  pub size : length zs ≡ length xs
  pub done : (j : ℕ) → j < k → get_or zs j 0 ≡ get_or xs j 0 + get_or ys j 0
  pub left : (j : ℕ) → k ≤ j → get_or zs j 0 ≡ get_or xs j 0

pub added_none : (xs ys : List ℕ) → AddedTo 0 xs ys xs
added_none xs ys = record { size = refl; done = λ j l. absurd (omega arith); left = λ j l. refl }

pub added_next : (k : ℕ) (xs ys zs : List ℕ) → k < length xs → AddedTo k xs ys zs → AddedTo (k + 1) xs ys (set zs k (get_or zs k 0 + get_or ys k 0))
added_next k xs ys zs l a =
    record {
      size = length-set zs k (get_or zs k 0 + get_or ys k 0) ∙ a.size;
      done = λ j m. done j m (ℕ_discrete j k);
      left = λ j m. get_or-set_other zs k j (get_or zs k 0 + get_or ys k 0) 0 (λ e. omega arith) ∙ a.left j (omega arith);
    }
  where
    done : (j : ℕ) → j < k + 1 → Dec (j ≡ k) → get_or (set zs k (get_or zs k 0 + get_or ys k 0)) j 0 ≡ get_or xs j 0 + get_or ys j 0
    done j m (yes e) =
        rw e
        (get_or-set_same zs k (get_or zs k 0 + get_or ys k 0) 0 (omega (arith, a.size))
        ∙ ap (λ (x : ℕ). x + get_or ys k 0) (a.left k (omega arith)))
    done j m (no e) = get_or-set_other zs k j (get_or zs k 0 + get_or ys k 0) 0 e ∙ a.done j (omega (arith, e))

pub added-all : (k : ℕ) (xs ys zs : List ℕ) → length xs ≤ k → AddedTo k xs ys zs → zs ≡ added xs ys
added-all k xs ys zs l a =
    ext_get_or 0 zs (added xs ys) (a.size ∙ sym (added-length xs ys))
    (λ j m. a.done j (omega (arith, a.size)) ∙ sym (added-at xs ys j (omega (arith, a.size))))

-- ---- sums of sums

-- in any grouping, where the second list has at least the places of the first
pub added-added : (xs ys zs : List ℕ) → length xs ≤ length ys → added (added xs ys) zs ≡ added xs (added ys zs)
added-added xs ys zs l =
    ext_get_or 0 (added (added xs ys) zs) (added xs (added ys zs)) size
    (λ j m.
    let k : j < length xs = omega (arith, size, added-length xs (added ys zs)) in
    added-at (added xs ys) zs j (omega (arith, added-length xs ys))
    ∙ omega (arith, added-at xs ys j k, added-at ys zs j (omega arith), added-at xs (added ys zs) j k))
  where
    size : length (added (added xs ys) zs) ≡ length (added xs (added ys zs))
    size = added-length (added xs ys) zs ∙ added-length xs ys ∙ sym (added-length xs (added ys zs))

-- with zeros
pub added-zeros : (n : ℕ) (xs : List ℕ) → added xs (replicate n 0) ≡ xs
unfolding added
added-zeros n [] = refl
added-zeros zero (x ∷ xs) = refl
added-zeros (suc n) (x ∷ xs) = ap₂ (λ (y : ℕ) (ys : List ℕ). y ∷ ys) (omega arith) (added-zeros n xs)

pub zeros-added : (xs : List ℕ) → added (replicate (length xs) 0) xs ≡ xs
unfolding added
zeros-added [] = refl
zeros-added (x ∷ xs) = ap₂ (λ (y : ℕ) (ys : List ℕ). y ∷ ys) (omega arith) (zeros-added xs)

-- ---- of tallies

added-append : (xs ys us vs : List ℕ) → length xs ≡ length ys → added (xs ++ us) (ys ++ vs) ≡ added xs ys ++ added us vs
unfolding added
added-append [] [] us vs e = refl
added-append [] (y ∷ ys) us vs e = absurd (omega arith)
added-append (x ∷ xs) [] us vs e = absurd (omega arith)
added-append (x ∷ xs) (y ∷ ys) us vs e = ap (λ (l : List ℕ). (x + y) ∷ l) (added-append xs ys us vs (omega arith))

four-added : (a b : Tally) → added (four a) (four b) ≡ four (plus a b)
unfolding added
four-added a b = refl

below-added : (n : ℕ) (f g : ℕ → Tally) → added (numbers_below n f) (numbers_below n g) ≡ numbers_below n (both f g)
unfolding numbers_below added
below-added zero f g = refl
below-added (suc n) f g =
    added-append (numbers_below n f) (numbers_below n g) (four (f n)) (four (g n)) (numbers-length n f ∙ sym (numbers-length n g))
    ∙ ap₂ (λ (xs ys : List ℕ). xs ++ ys) (below-added n f g) (four-added (f n) (g n))

-- the numbers of two tallies of each thread add up to those of both
pub numbers-added : (f g : ℕ → Tally) → added (numbers f) (numbers g) ≡ numbers (both f g)
numbers-added f g = below-added 32 f g

-- at any place no more than the two numbers there
pub added-most : (xs ys : List ℕ) (k : ℕ) → get_or (added xs ys) k 0 ≤ get_or xs k 0 + get_or ys k 0
unfolding added
added-most [] ys k = omega arith
added-most (x ∷ xs) [] k = omega arith
added-most (x ∷ xs) (y ∷ ys) zero = omega arith
added-most (x ∷ xs) (y ∷ ys) (suc k) = added-most xs ys k

-- What another list p in the array does to each list and to the word.
use mathlib.Core.Path.{◌≡◌, sym, ap, ◌∙◌}
use mathlib.Core.List.{List, [], ◌∷◌}
use Prim.Native.Nat.{ℕ, ◌+◌, ◌-◌, ◌^◌, ◌≤◌, ◌<◌}
use native.Mathlib.Omega.{arith}
use native.Mathlib.Decide.{ℕ_discrete}
use lib.ListN.{length, length-append}
use lib.Dec.{eqb}
use borrow.Author.Tests.{ne_eqb}
use Rattle.ready.specs.Lists.{row_at, size, row_of, threads, with_threads, insert_at, without, appended, removed}
use Rattle.ready.specs.Word.{size_at, occupancy}
use Rattle.ready.specs.Rules.{Joinable, Leavable}
use Rattle.ready.proofs.RowLaws.{row_of-length, with_row-length, with_row-at, with_row-other, insert-tail, without-length, threads-length}
use Rattle.ready.proofs.WordLaws.{word_same, word-fill}

module _ (p : ℕ) (xs l : List ℕ) (lo : 1 ≤ p) (hi : p ≤ 32) (n : length l ≡ 1056) (m : length xs ≤ 32) where
  pub with-length : length (with_threads p xs l) ≡ 1056
  unfolding with_threads
  with-length = with_row-length p l lo hi n (row_of xs) (row_of-length xs m)

  pub with_at : row_at p (with_threads p xs l) ≡ row_of xs
  unfolding with_threads
  with_at = with_row-at p l lo hi n (row_of xs) (row_of-length xs m)

  pub with-other : (q : ℕ) → 1 ≤ q → (q ≡ p → ⊥) → row_at q (with_threads p xs l) ≡ row_at q l
  unfolding with_threads
  with-other q g d = with_row-other p l lo hi n (row_of xs) (row_of-length xs m) q g d

  -- the word where list p holds a thread now, did before, or neither has changed
  pub with-fill : size_at l p ≡ 0 → 0 < length xs → occupancy (with_threads p xs l) ≡ occupancy l + 2 ^ (p - 1)
  unfolding occupancy
  with-fill e h =
      word-fill 32 (size_at l) (size_at (with_threads p xs l)) p lo hi e (rw with_at h) (λ q g d. ap size (with-other q g d))

  pub with-clear : 0 < size_at l p → length xs ≡ 0 → occupancy l ≡ occupancy (with_threads p xs l) + 2 ^ (p - 1)
  unfolding occupancy
  with-clear h e =
      word-fill 32 (size_at (with_threads p xs l)) (size_at l) p lo hi (rw with_at e) h (λ q g d. sym (ap size (with-other q g d)))

  pub with-same : 0 < size_at l p → 0 < length xs → occupancy (with_threads p xs l) ≡ occupancy l
  unfolding occupancy
  with-same h k = word_same 32 (size_at l) (size_at (with_threads p xs l)) (λ q g u. go q g (ℕ_discrete q p))
    where
      go : (q : ℕ) → 1 ≤ q → Dec (q ≡ p) → eqb (size_at (with_threads p xs l) q) 0 ≡ eqb (size_at l q) 0
      go q g (yes e) = rw (e, with_at, ne_eqb (length xs) 0 (λ z. omega arith), ne_eqb (size_at l p) 0 (λ z. omega arith))
      go q g (no d) = ap (λ (r : List ℕ). eqb (size r) 0) (with-other q g d)

-- ---- the word after `append` and `remove`

pub insert-length : (xs : List ℕ) (i : ℕ) → length (insert_at (length xs) i xs) ≡ length xs + 1
insert-length xs i = rw (insert-tail xs i) (length-append xs (i ∷ []))

module _ (word p i : ℕ) (l : List ℕ) (j : Joinable word p l) where
  few : length (insert_at (length (threads p l)) i (threads p l)) ≤ 32
  few = omega (arith, insert-length (threads p l) i, threads-length word p l j.formed, j.room)

  pub append-fill : size_at l p ≡ 0 → word + 2 ^ (p - 1) ≡ occupancy (appended p i l)
  append-fill e =
      let f = j.formed in
      ap (λ (w : ℕ). w + 2 ^ (p - 1)) f.agrees
      ∙ sym (with-fill p _ l f.low f.high f.array few e (omega (arith, insert-length (threads p l) i)))

  pub append-same : (size_at l p ≡ 0 → ⊥) → word ≡ occupancy (appended p i l)
  append-same d =
      let f = j.formed in
      f.agrees ∙ sym (with-same p _ l f.low f.high f.array few (omega (arith, d)) (omega (arith, insert-length (threads p l) i)))

module _ (word p i : ℕ) (l : List ℕ) (j : Leavable word p i l) where
  left : length (without i (threads p l)) + 1 ≡ size_at l p
  left = without-length i (threads p l) j.member ∙ threads-length word p l j.formed

  pub remove-clear : size_at l p ≡ 1 → word ≡ occupancy (removed p i l) + 2 ^ (p - 1)
  remove-clear e =
      let f = j.formed in
      f.agrees ∙ with-clear p _ l f.low f.high f.array (omega (arith, left)) (omega (arith, left)) (omega (arith, left))

  pub remove-same : (size_at l p ≡ 1 → ⊥) → word ≡ occupancy (removed p i l)
  remove-same d =
      let f = j.formed in
      f.agrees ∙ sym (with-same p _ l f.low f.high f.array (omega (arith, left, f.short)) (omega (arith, left)) (omega (arith, left, d)))

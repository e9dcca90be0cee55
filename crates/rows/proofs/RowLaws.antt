-- A thread's slots, read and written one by one.
use Prim.Native.Nat.{ℕ, ◌+◌, ◌*◌, ◌≤◌, ◌<◌}
use mathlib.Core.Path.{◌≡◌, sym, ap, ◌∙◌}
use mathlib.Core.List.{List, ◌++◌, append_assoc, append-nil}
use lib.ListN.{length, take, drop, get_or, set, replicate, length-drop}
use lib.Seq.{paste, paste-suc, take_all, get_or-take, get_or-drop, take-set-le, take-set-lt, drop-set-lt, drop-set-add, length-take-le}
use native.Mathlib.Numerals.{add-one}
use native.Mathlib.Omega.{arith}
use Rattle.base.proofs.PartLaws.{replaced-same}
use Rattle.rows.specs.Rows.{slots_at, with_slots}

-- the first j slots are read, and the others are still 0
abbrev pub read_to : ℕ → List ℕ → ℕ → List ℕ
read_to i xs j = paste (replicate 8 0) 0 (slots_at i xs) j

-- the first j slots are written
abbrev pub written_to : ℕ → List ℕ → List ℕ → ℕ → List ℕ
written_to i row xs j = paste xs (i * 8) row j

-- the same numbers again
pub row_same : (i : ℕ) (xs : List ℕ) → with_slots i (slots_at i xs) xs ≡ xs
unfolding with_slots
row_same i xs = replaced-same (i * 8) 8 xs

-- a store at slot k
pub row-set : (i k x : ℕ) (xs : List ℕ) → k < 8 → set xs (i * 8 + k) x ≡ with_slots i (set (slots_at i xs) k x) xs
unfolding with_slots
row-set i k x xs l =
    let n : i * 8 ≤ i * 8 + k = omega arith in
    let m : i * 8 + k < i * 8 + 8 = omega arith in
    sym (row_same i (set xs (i * 8 + k) x))
    ∙ rw (drop-set-add (i * 8) xs k x, take-set-lt 8 (drop (i * 8) xs) k x l, take-set-le (i * 8) xs (i * 8 + k) x n, drop-set-lt (i * 8 + 8) xs (i * 8 + k) x m)

module _ (i : ℕ) (xs : List ℕ) (h : i < 32) (n : length xs ≡ 256) where
  pub row-length : length (slots_at i xs) ≡ 8
  row-length = length-take-le 8 (drop (i * 8) xs) (omega (arith, length-drop (i * 8) xs))

  pub row_at : (j : ℕ) → j < 8 → get_or (slots_at i xs) j 0 ≡ get_or xs (i * 8 + j) 0
  row_at j l = get_or-take 8 (drop (i * 8) xs) j 0 l ∙ get_or-drop (i * 8) xs j 0

  pub read_step : (row : List ℕ) (j : ℕ) → j < 8 → row ≡ read_to i xs j → set row j (get_or xs (i * 8 + j) 0) ≡ read_to i xs (j + 1)
  read_step row j l e =
      let z : j ≡ 0 + j = omega arith in
      ap (λ (r : List ℕ). set r j (get_or xs (i * 8 + j) 0)) e
      ∙ ap (λ (x : ℕ). set (read_to i xs j) j x) (sym (row_at j l))
      ∙ ap (λ (k : ℕ). set (read_to i xs j) k (get_or (slots_at i xs) j 0)) z
      ∙ paste-suc (replicate 8 0) 0 (slots_at i xs) j 0 (omega arith) (omega (arith, row-length))
      ∙ ap (read_to i xs) (sym (add-one j))

  pub read-end : read_to i xs 8 ≡ slots_at i xs
  read-end = append-nil (take 8 (slots_at i xs)) ∙ take_all 8 (slots_at i xs) (omega (arith, row-length))

  module _ (row : List ℕ) (m : length row ≡ 8) where
    pub write_step : (ys : List ℕ) (j : ℕ) → j < 8 → ys ≡ written_to i row xs j → set ys (i * 8 + j) (get_or row j 0) ≡ written_to i row xs (j + 1)
    write_step ys j l e =
        ap (λ (r : List ℕ). set r (i * 8 + j) (get_or row j 0)) e
        ∙ paste-suc xs (i * 8) row j 0 (omega arith) (omega arith)
        ∙ ap (written_to i row xs) (sym (add-one j))

    pub write-end : written_to i row xs 8 ≡ with_slots i row xs
    unfolding with_slots
    write-end =
        append_assoc (take (i * 8) xs) (take 8 row) (drop (i * 8 + 8) xs)
        ∙ ap (λ (r : List ℕ). take (i * 8) xs ++ (r ++ drop (i * 8 + 8) xs)) (take_all 8 row (omega arith))

-- the first due of thread i stands at the start of its row
pub row_first : (i : ℕ) (xs : List ℕ) → get_or (slots_at i xs) 0 0 ≡ get_or xs (i * 8) 0
row_first i xs =
    let e : i * 8 + 0 ≡ i * 8 = omega arith in
    get_or-take 8 (drop (i * 8) xs) 0 0 (omega arith) ∙ get_or-drop (i * 8) xs 0 0 ∙ ap (λ (k : ℕ). get_or xs k 0) e

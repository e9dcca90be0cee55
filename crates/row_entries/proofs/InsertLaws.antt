-- One more number among a thread's slots, in place: those after it move one slot down, from the last one on.
use Prim.Native.Nat.{ℕ, ◌+◌, ◌-◌, ◌*◌, ◌≤◌, ◌<◌}
use mathlib.Core.Path.{◌≡◌, refl, sym, ap, ◌∙◌}
use mathlib.Core.List.{List, ◌++◌}
use lib.ListN.{length, take, drop, get_or, set, length-append, length-drop}
use lib.Seq.{take_at, drop_at, drop-drop, get_or-take, length-take-le}
use native.Mathlib.Omega.{arith}
use Rattle.base.proofs.PartLaws.{replaced-length, replaced-at}
use Rattle.entries.specs.Entries.{inserted}
use Rattle.entries.proofs.InsertLaws.{moved_down, down-start, down-store, down_turn}
use Rattle.rows.specs.Rows.{slots_at, with_slots}
use Rattle.rows.proofs.RowLaws.{row_same, row-set, row-length, row_at}

-- other numbers in thread i's slots, read and written again
module _ (i : ℕ) (row xs : List ℕ) (h : i < 32) (n : length xs ≡ 256) (l : length row ≡ 8) where
  written_row : slots_at i (with_slots i row xs) ≡ row
  unfolding with_slots
  written_row = replaced-at (i * 8) 8 row xs l (omega arith)

  written-length : length (with_slots i row xs) ≡ 256
  unfolding with_slots
  written-length = replaced-length (i * 8) 8 row xs l (omega arith) ∙ n

  written_at : (j : ℕ) → j < 8 → get_or (with_slots i row xs) (i * 8 + j) 0 ≡ get_or row j 0
  written_at j m = sym (row_at i (with_slots i row xs) h written-length j m) ∙ ap (λ (r : List ℕ). get_or r j 0) written_row

  written_over : (r : List ℕ) → with_slots i r (with_slots i row xs) ≡ with_slots i r xs
  unfolding with_slots
  written_over r = rw (take_at (take (i * 8) xs) (row ++ drop (i * 8 + 8) xs) (i * 8) front, rest) refl
    where
      front : length (take (i * 8) xs) ≡ i * 8
      front = length-take-le (i * 8) xs (omega arith)

      rest : drop (i * 8 + 8) (take (i * 8) xs ++ (row ++ drop (i * 8 + 8) xs)) ≡ drop (i * 8 + 8) xs
      rest =
          sym (drop-drop 8 (i * 8) (take (i * 8) xs ++ (row ++ drop (i * 8 + 8) xs)))
          ∙ ap (drop 8) (drop_at (take (i * 8) xs) (row ++ drop (i * 8 + 8) xs) (i * 8) front)
          ∙ drop_at row (drop (i * 8 + 8) xs) 8 l

  written-set : (k x : ℕ) → k < 8 → set (with_slots i row xs) (i * 8 + k) x ≡ with_slots i (set row k x) xs
  written-set k x m =
      row-set i k x (with_slots i row xs) m ∙ ap (λ (r : List ℕ). with_slots i (set r k x) (with_slots i row xs)) written_row ∙ written_over (set row k x)

-- thread i's first n numbers, of which those after slot k are moved one slot down
abbrev pub moved_after : ℕ → ℕ → List ℕ → ℕ → List ℕ
moved_after i n xs k = with_slots i (moved_down (slots_at i xs) n k) xs

module _ (i n : ℕ) (xs : List ℕ) (h : i < 32) (l : length xs ≡ 256) (m : n < 8) where
  pub moved-start : xs ≡ moved_after i n xs n
  moved-start = sym (row_same i xs) ∙ ap (λ (r : List ℕ). with_slots i r xs) (down-start (slots_at i xs) n)

  module _ (k : ℕ) (q : k ≤ n) (ys : List ℕ) (e : ys ≡ moved_after i n xs k) where
    eight : length (slots_at i xs) ≡ 8
    eight = row-length i xs h l

    long : length (moved_down (slots_at i xs) n k) ≡ 8
    long =
        length-append (take (k + 1) (slots_at i xs)) (take (n - k) (drop k (slots_at i xs)) ++ drop (n + 1) (slots_at i xs))
        ∙ omega (
          arith,
          eight,
          length-take-le (k + 1) (slots_at i xs) (omega (arith, eight)),
          length-append (take (n - k) (drop k (slots_at i xs))) (drop (n + 1) (slots_at i xs)),
          length-take-le (n - k) (drop k (slots_at i xs)) (omega (arith, eight, length-drop k (slots_at i xs))),
          length-drop (n + 1) (slots_at i xs),
        )

    pub moved_length : length ys ≡ 256
    moved_length = ap length e ∙ written-length i (moved_down (slots_at i xs) n k) xs h l long

    -- what stands before slot k is not moved
    pub moved_before : 0 < k → get_or ys (i * 8 + (k - 1)) 0 ≡ get_or (slots_at i xs) (k - 1) 0
    moved_before z =
        let row = slots_at i xs in
        let others = take (n - k) (drop k row) ++ drop (n + 1) row in
        ap (λ (r : List ℕ). get_or r (i * 8 + (k - 1)) 0) e
        ∙ written_at i (moved_down row n k) xs h l long (k - 1) (omega arith)
        ∙ sym (get_or-take (k + 1) (take (k + 1) row ++ others) (k - 1) 0 (omega arith))
        ∙ ap (λ (r : List ℕ). get_or r (k - 1) 0) (take_at (take (k + 1) row) others (k + 1) (length-take-le (k + 1) row (omega (arith, eight))))
        ∙ get_or-take (k + 1) row (k - 1) 0 (omega arith)

    pub moved-turn : 0 < k → set ys (i * 8 + k) (get_or ys (i * 8 + (k - 1)) 0) ≡ moved_after i n xs (k - 1)
    moved-turn z =
        let row = slots_at i xs in
        ap (λ (v : ℕ). set ys (i * 8 + k) v) (moved_before z)
        ∙ ap (λ (r : List ℕ). set r (i * 8 + k) (get_or row (k - 1) 0)) e
        ∙ written-set i (moved_down row n k) xs h l long k (get_or row (k - 1) 0) (omega arith)
        ∙ ap (λ (r : List ℕ). with_slots i r xs) (down_turn row (moved_down row n k) n k z q (omega (arith, eight)) refl)

    pub moved-end : (x : ℕ) → set ys (i * 8 + k) x ≡ with_slots i (inserted k n x (slots_at i xs)) xs
    moved-end x =
        let row = slots_at i xs in
        ap (λ (r : List ℕ). set r (i * 8 + k) x) e
        ∙ written-set i (moved_down row n k) xs h l long k x (omega arith)
        ∙ ap (λ (r : List ℕ). with_slots i r xs) (down-store row (moved_down row n k) n k x (omega (arith, eight)) refl)

-- Laws of the loop that moves each number one slot up.
use Prim.Native.Nat.{ℕ, suc, ◌+◌, ◌<◌}
use mathlib.Core.Path.{◌≡◌, sym, ap, ◌∙◌}
use mathlib.Core.List.{List, [], ◌∷◌, ◌++◌}
use lib.ListN.{length, take, drop, get_or, set, length-drop, drop_of_length-le}
use lib.Seq.{take_all, take-suc, drop-cons, get_or-drop, set_at, append_snoc, length-take-le}
use native.Mathlib.Numerals.{add-one}
use native.Mathlib.Omega.{arith}
use native.Mathlib.Nat.{add_comm}
use Rattle.entries.specs.Entries.{without_first}

-- the first i numbers moved one slot up
abbrev pub moved_up : List ℕ → ℕ → List ℕ
moved_up xs i = take i (drop 1 xs) ++ drop i xs

-- a store at slot i, with i numbers before it moved
at_slot : (xs : List ℕ) (i x : ℕ) → i < length xs → set (moved_up xs i) i x ≡ take i (drop 1 xs) ++ x ∷ drop (suc i) xs
at_slot xs i x h =
    ap (λ (s : List ℕ). set (take i (drop 1 xs) ++ s) i x) (drop-cons xs i 0 h)
    ∙ set_at (take i (drop 1 xs)) (get_or xs i 0) (drop (suc i) xs) x i (length-take-le i (drop 1 xs) (omega (arith, length-drop 1 xs)))

-- a turn of the loop that moves each number one slot up
pub without-first-turn : (xs r : List ℕ) (i : ℕ) → i + 1 < length xs → r ≡ moved_up xs i → set r i (get_or xs (i + 1) 0) ≡ moved_up xs (i + 1)
without-first-turn xs r i h e =
    let g : get_or (drop 1 xs) i 0 ≡ get_or xs (i + 1) 0 = get_or-drop 1 xs i 0 ∙ ap (λ (n : ℕ). get_or xs n 0) (add_comm 1 i) in
    let ys = drop 1 xs in
    ap (λ (s : List ℕ). set s i (get_or xs (i + 1) 0)) e
    ∙ at_slot xs i (get_or xs (i + 1) 0) (omega arith)
    ∙ sym (append_snoc (take i ys) (get_or xs (i + 1) 0) (drop (suc i) xs))
    ∙ ap (λ (x : ℕ). (take i ys ++ x ∷ []) ++ drop (suc i) xs) (sym g)
    ∙ ap (λ (s : List ℕ). s ++ drop (suc i) xs) (sym (take-suc ys i 0 (omega (arith, length-drop 1 xs))))
    ∙ ap (λ (n : ℕ). moved_up xs n) (sym (add-one i))

-- its end, at the last slot
pub without-first-end : (xs r : List ℕ) (n : ℕ) → length xs ≡ n + 1 → r ≡ moved_up xs n → set r n 0 ≡ without_first xs
without-first-end xs r n h e =
    ap (λ (s : List ℕ). set s n 0) e
    ∙ at_slot xs n 0 (omega arith)
    ∙ ap (λ (s : List ℕ). take n (drop 1 xs) ++ 0 ∷ s) (drop_of_length-le xs {i = suc n} (omega arith))
    ∙ ap (λ (s : List ℕ). s ++ 0 ∷ []) (take_all n (drop 1 xs) (omega (arith, length-drop 1 xs)))

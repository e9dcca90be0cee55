-- The head of a list becomes its tail: one row changes, and the word stays.
use mathlib.Core.Path.{◌≡◌, refl, sym, ap, ap₂, ◌∙◌}
use mathlib.Core.List.{List, [], ◌∷◌, ◌++◌, append_assoc}
use Prim.Native.Nat.{ℕ, suc, ◌+◌, ◌-◌, ◌≤◌, ◌<◌}
use native.Mathlib.Omega.{arith}
use native.Mathlib.Decide.{ℕ_discrete}
use lib.ListN.{length, set, take, drop, get_or, replicate, length-append, length-drop, length-set}
use lib.Seq.{set_at, append_snoc, length-take-le, take_at, drop_at}
use borrow.Author.Tests.{eq-eqb}
use Rattle.ready.specs.Lists.{start, size, members, row_of, threads, head_of, with_threads, without, removed, moved}
use Rattle.ready.specs.Word.{size_at, occupancy}
use Rattle.ready.specs.Rules.{Movable, Rotatable}
use Rattle.ready.specs.Private.{closed}
use Rattle.ready.proofs.RowLaws.{row_of-length, row_of-members, with_row, with_row-set, with_row-closed, insert-tail, row-closed, size-read, head_read, threads-length, without-length, formed-array}
use Rattle.ready.proofs.ListLaws.{with_at, remove-clear, remove-same, append-fill, append-same}

-- the head behind the others
abbrev turned : List ℕ → List ℕ
turned xs = drop 1 xs ++ (get_or xs 0 0 ∷ [])

-- the others, once it has left
without-head : (xs : List ℕ) → 0 < length xs → without (get_or xs 0 0) xs ≡ drop 1 xs
unfolding without
without-head [] l = absurd (omega arith)
without-head (x ∷ xs) l = rw (eq-eqb x x refl)

-- a lone thread is head and tail
turned-lone : (xs : List ℕ) → length xs ≡ 1 → turned xs ≡ xs
turned-lone [] e = absurd (omega arith)
turned-lone (x ∷ []) e = refl
turned-lone (x ∷ y ∷ xs) e = absurd (omega arith)

-- its row, once the gap is closed and the head is put at the end
row-turned : (xs : List ℕ) → 0 < length xs → set (closed (row_of xs) 1 (length xs)) (length xs) (get_or xs 0 0) ≡ row_of (turned xs)
row-turned [] l = absurd (omega arith)
row-turned (x ∷ xs) l =
    let z : List ℕ = replicate (32 - suc (length xs)) 0 in
    let n : suc (length xs) - 0 ≡ suc (length xs) = omega arith in
    let m : length (xs ++ (x ∷ [])) ≡ suc (length xs) = length-append xs (x ∷ []) ∙ omega arith in
    ap (λ (r : List ℕ). set r (suc (length xs)) x) (ap (closed (row_of (x ∷ xs)) 1) (sym n) ∙ row-closed (x ∷ xs) 0 (omega arith))
    ∙ ap (λ (r : List ℕ). suc (length xs) ∷ r) (set_at xs 0 z x (length xs) refl ∙ sym (append_snoc xs x z))
    ∙ ap (λ (k : ℕ). k ∷ ((xs ++ (x ∷ [])) ++ replicate (32 - k) 0)) (sym m)

-- a list that takes the place of another
with-with : (p : ℕ) (xs ys l : List ℕ) → 1 ≤ p → p ≤ 32 → length l ≡ 1056 → length xs ≤ 32 → with_threads p ys (with_threads p xs l) ≡ with_threads p ys l
unfolding with_threads
with-with p xs ys l lo hi n m =
    let a = take (start p) l in
    let d = drop (start p + 33) l in
    let f : length a ≡ start p = length-take-le (start p) l (omega arith) in
    let g : length (a ++ row_of xs) ≡ start p + 33 = length-append a (row_of xs) ∙ ap₂ (λ (i j : ℕ). i + j) f (row_of-length xs m) in
    ap₂ (λ (u v : List ℕ). u ++ (row_of ys ++ v)) (take_at a (row_of xs ++ d) (start p) f)
    (ap (drop (start p + 33)) (sym (append_assoc a (row_of xs) d)) ∙ drop_at (a ++ row_of xs) d (start p + 33) g)

module _ (p : ℕ) (l : List ℕ) (f : Rotatable p l) where
  abbrev xs : List ℕ
  xs = threads p l

  abbrev h : ℕ
  h = head_of p l

  few : length xs ≤ 32
  few = omega (arith, threads-length (occupancy l) p l f.formed, f.formed.short)

  some : 0 < length xs
  some = omega (arith, threads-length (occupancy l) p l f.formed, f.some)

  rest : length (without h xs) ≤ 32
  rest = omega (arith, few, ap length (without-head xs some) ∙ length-drop 1 xs)

  turned-is : moved h p p l ≡ with_threads p (turned xs) l
  turned-is =
      let r = removed p h l in
      let t : threads p r ≡ drop 1 xs = ap members (with_at p (without h xs) l f.formed.low f.formed.high f.formed.array rest) ∙ row_of-members (without h xs) ∙ without-head xs some in
      ap (λ (ys : List ℕ). with_threads p ys r) (insert-tail (threads p r) h ∙ ap (λ (ys : List ℕ). ys ++ (h ∷ [])) t)
      ∙ with-with p (without h xs) (turned xs) l f.formed.low f.formed.high f.formed.array rest

  module _ (at m : ℕ) (e : at ≡ start p) (r : m ≡ get_or l at 0) where
    is-length : m ≡ length xs
    is-length = r ∙ size-read p at l e ∙ sym (threads-length (occupancy l) p l f.formed)

    -- what the code leaves of a lone thread's list
    pub lone-stays : m < 2 → l ≡ moved h p p l
    unfolding with_threads
    lone-stays q =
        formed-array (occupancy l) p l f.formed
        ∙ ap (λ (ys : List ℕ). with_row p (row_of ys) l) (sym (turned-lone xs (omega (arith, is-length, some))))
        ∙ sym turned-is

    -- and of any other
    pub rotate-stores : set (closed l (at + 1) m) (at + m) (get_or l (at + 1) 0) ≡ moved h p p l
    unfolding with_threads
    rotate-stores =
        let c = closed (row_of xs) 1 (length xs) in
        let t : length (turned xs) ≤ 32 = omega (arith, few, some, length-append (drop 1 xs) (h ∷ []), length-drop 1 xs) in
        let n : length c ≡ 33 = sym (length-set c (length xs) h) ∙ ap length (row-turned xs some) ∙ row_of-length (turned xs) t in
        let a : at + 1 ≡ start p + 1 = omega arith in
        let b : at + m ≡ start p + length xs = omega (arith, is-length) in
        stores a is-length b (ap (λ (k : ℕ). get_or l k 0) a ∙ head_read p l f.some) (formed-array (occupancy l) p l f.formed)
        ∙ ap (λ (y : List ℕ). set y (start p + length xs) h)
        (with_row-closed p l f.formed.low f.formed.high f.formed.array (row_of xs) (row_of-length xs few) 1 (length xs) some (omega (arith, few)))
        ∙ with_row-set p l f.formed.low f.formed.high f.formed.array c n (length xs) h (omega (arith, few))
        ∙ ap (λ (r : List ℕ). with_row p r l) (row-turned xs some)
        ∙ sym turned-is
      where
        stores : {k k' d d' j j' x x' : ℕ} {y : List ℕ} → k ≡ k' → d ≡ d' → j ≡ j' → x ≡ x' → l ≡ y → set (closed l k d) j x ≡ set (closed y k' d') j' x'
        stores q w v u o = cc

-- the word: what leaves a list and joins it again changes no bit
pub rotated-word : (word i p : ℕ) (l : List ℕ) → Movable word i p p l → word ≡ occupancy (moved i p p l)
rotated-word word i p l f = go (ℕ_discrete (size_at l p) 1)
  where
    left : length (without i (threads p l)) + 1 ≡ size_at l p
    left = without-length i (threads p l) f.leaves.member ∙ threads-length word p l f.leaves.formed

    size-left : size_at (removed p i l) p ≡ length (without i (threads p l))
    size-left =
        let g = f.leaves.formed in
        ap size (with_at p (without i (threads p l)) l g.low g.high g.array (omega (arith, left, g.short)))

    go : Dec (size_at l p ≡ 1) → word ≡ occupancy (moved i p p l)
    go (yes e) = remove-clear word p i l f.leaves e ∙ append-fill _ p i (removed p i l) f.joins (omega (arith, size-left, left))
    go (no d) = remove-same word p i l f.leaves d ∙ append-same _ p i (removed p i l) f.joins (λ z. d (omega (arith, size-left, left)))

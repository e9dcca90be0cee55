-- The array as rows: what a store, a closing of a gap and another list in one row do to it.
use mathlib.Core.Path.{◌≡◌, refl, sym, ap, ◌∙◌}
use mathlib.Core.List.{List, [], ◌∷◌, ◌++◌, append_assoc}
use mathlib.Core.Bool.{Bool, true, false, cond}
use Prim.Native.Nat.{ℕ, suc, ◌+◌, ◌-◌, ◌≤◌, ◌<◌}
use native.Mathlib.Omega.{arith}
use lib.ListN.{length, set, take, drop, get_or, replicate, length-append, length-take, length-drop, length-set, length-replicate, take-append-drop}
use lib.Seq.{set_at, set-append_left, append_snoc, length-take-le, take_at, take-append-le, drop-append-le, take-append-add}
use lib.Seq.{drop-append-add, take-append_seam, drop-append_seam, take-length, drop-length, drop-drop, get_or-take, get_or-drop}
use lib.Dec.{ltb, eqb}
use borrow.Author.Tests.{ltb-true, ltb-false}
use Rattle.base.specs.Tests.{all, zeros}
use Rattle.base.proofs.PartLaws.{replaced-same, replaced-length, replaced-at, replaced-before, replaced-after}
use Rattle.base.proofs.TestLaws.{All, all_true, zeros-eq, zeros-replicate}
use Rattle.ready.specs.Lists.{start, row_at, size, members, unused, row_of, threads, head_of, with_threads, insert_at, without, appended, removed, occurs}
use Rattle.ready.specs.Word.{size_at}
use Rattle.ready.specs.Rules.{Formed}
use Rattle.ready.specs.Private.{index_of, closed}

-- ---- parts of a list

set_past : (f r : List ℕ) (k n x : ℕ) → length f ≡ k → set (f ++ r) (k + n) x ≡ f ++ set r n x
set_past f r k n x e = rw (← e) (go f)
  where
    go : (f : List ℕ) → set (f ++ r) (length f + n) x ≡ f ++ set r n x
    go [] = let z : 0 + n ≡ n = omega arith in rw z
    go (y ∷ f) = let s : suc (length f) + n ≡ suc (length f + n) = omega arith in rw s (ap (λ (t : List ℕ). y ∷ t) (go f))

take_past : (f r : List ℕ) (k n : ℕ) → length f ≡ k → take (k + n) (f ++ r) ≡ f ++ take n r
take_past f r k n e = rw (← e) (take-append-add f r n)

drop_past : (f r : List ℕ) (k n : ℕ) → length f ≡ k → drop (k + n) (f ++ r) ≡ drop n r
drop_past f r k n e = rw (← e) (drop-append-add f r n)

-- a part that ends within the front does not see what follows it
pub within : (f r : List ℕ) (m n : ℕ) → m + n ≤ length f → take n (drop m (f ++ r)) ≡ take n (drop m f)
within f r m n h = rw (drop-append-le m f r (omega arith)) (take-append-le n (drop m f) r (simp length-drop (omega arith)))

-- ---- a row

module _ (xs : List ℕ) (h : length xs ≤ 32) where
  pub row_of-length : length (row_of xs) ≡ 33
  row_of-length = simp (length-append, length-replicate) (omega arith)

pub row_of-members : (xs : List ℕ) → members (row_of xs) ≡ xs
row_of-members xs = take-append_seam xs (replicate (32 - length xs) 0)

pub row_of-unused : (xs : List ℕ) → All (zeros (unused (row_of xs)))
row_of-unused xs = rw (drop-append_seam xs (replicate (32 - length xs) 0)) (zeros-replicate (32 - length xs))

-- a row in order is the row of its members
pub row-formed : (r : List ℕ) → length r ≡ 33 → size r ≤ 32 → all (zeros (unused r)) ≡ true → r ≡ row_of (members r)
row-formed [] n h z = absurd (omega arith)
row-formed (x ∷ xs) n h z =
    let m : length (take x xs) ≡ x = length-take-le x xs (omega arith) in
    let k : length (drop x xs) ≡ 32 - x = simp length-drop (omega arith) in
    let d : drop x xs ≡ replicate (32 - x) 0 = zeros-eq (drop x xs) (all_true _ z) ∙ ap (λ (k : ℕ). replicate k 0) k in
    rw m (ap (λ (t : List ℕ). x ∷ t) (sym (take-append-drop x xs) ∙ ap (λ (t : List ℕ). take x xs ++ t) d))

pub members-length : (r : List ℕ) → length r ≡ 33 → size r ≤ 32 → length (members r) ≡ size r
members-length r n h = length-take-le (size r) (drop 1 r) (simp length-drop (omega arith))

-- ---- the row of list p in the array

-- what the code reads as the length and as the head
pub size-read : (p at : ℕ) (l : List ℕ) → at ≡ start p → get_or l at 0 ≡ size_at l p
size-read p at l e =
    let z : start p + 0 ≡ at = omega arith in
    sym (get_or-take 33 (drop (start p) l) 0 0 (omega arith) ∙ get_or-drop (start p) l 0 0 ∙ ap (λ (k : ℕ). get_or l k 0) z)

pub head_read : (p : ℕ) (l : List ℕ) → 0 < size_at l p → get_or l (start p + 1) 0 ≡ head_of p l
head_read p l h =
    sym
    (get_or-take (size_at l p) (drop 1 (row_at p l)) 0 0 h
    ∙ get_or-drop 1 (row_at p l) 0 0
    ∙ get_or-take 33 (drop (start p) l) 1 0 (omega arith)
    ∙ get_or-drop (start p) l 1 0)

-- the array with another row
abbrev pub with_row : ℕ → List ℕ → List ℕ → List ℕ
with_row p r l = take (start p) l ++ (r ++ drop (start p + 33) l)

module _ (p : ℕ) (l : List ℕ) (lo : 1 ≤ p) (hi : p ≤ 32) (n : length l ≡ 1056) where
  front : length (take (start p) l) ≡ start p
  front = length-take-le (start p) l (omega arith)

  pub row-length : length (row_at p l) ≡ 33
  row-length = length-take-le 33 (drop (start p) l) (simp length-drop (omega arith))

  pub row_same : l ≡ with_row p (row_at p l) l
  row_same = sym (replaced-same (start p) 33 l)

  module _ (r : List ℕ) (m : length r ≡ 33) where
    pub with_row-length : length (with_row p r l) ≡ 1056
    with_row-length = replaced-length (start p) 33 r l m (omega arith) ∙ n

    pub with_row-at : row_at p (with_row p r l) ≡ r
    with_row-at = replaced-at (start p) 33 r l m (omega arith)

    pub with_row-set : (j x : ℕ) → j < 33 → set (with_row p r l) (start p + j) x ≡ with_row p (set r j x) l
    with_row-set j x h =
        set_past (take (start p) l) (r ++ drop (start p + 33) l) (start p) j x front
        ∙ ap (λ (t : List ℕ). take (start p) l ++ t) (set-append_left r (drop (start p + 33) l) j x (omega arith))

    pub with_row-closed : (k n : ℕ) → 0 < n → k + n ≤ 33 → closed (with_row p r l) (start p + k) n ≡ with_row p (closed r k n) l
    unfolding closed
    with_row-closed k n z h =
        let a = take (start p) l in
        let b = drop (start p + 33) l in
        let e : start p + k + 1 ≡ start p + (k + 1) = omega arith in
        let f : start p + k + n ≡ start p + (k + n) = omega arith in
        rw (
          e,
          f,
          take_past a (r ++ b) (start p) k front,
          drop_past a (r ++ b) (start p) (k + 1) front,
          drop_past a (r ++ b) (start p) (k + n) front,
          take-append-le k r b (omega arith),
          drop-append-le (k + 1) r b (omega arith),
          drop-append-le (k + n) r b (omega arith),
          take-append-le (n - 1) (drop (k + 1) r) b (simp length-drop (omega arith)),
        )
        (simp append_assoc)

    pub with_row-other : (q : ℕ) → 1 ≤ q → (q ≡ p → ⊥) → row_at q (with_row p r l) ≡ row_at q l
    with_row-other q g d = go (ltb q p) refl
      where
        go : (t : Bool) → ltb q p ≡ t → row_at q (with_row p r l) ≡ row_at q l
        go true e = replaced-before (start p) 33 r l m (omega arith) (start q) 33 (omega (arith, ltb-true q p e))
        go false e = replaced-after (start p) 33 r l m (omega arith) (start q) 33 (omega (arith, ltb-false q p e, d))

  -- where the code looks for a thread
  pub threads-read : (at m : ℕ) → at ≡ start p → m ≡ size_at l p → m ≤ 32 → take m (drop (at + 1) l) ≡ threads p l
  threads-read at m e s h =
      rw (e, ← drop-drop 1 (start p) l)
      (ap (λ (t : List ℕ). take m (drop 1 t)) (sym (take-append-drop 33 (drop (start p) l)))
      ∙ within (row_at p l) (drop 33 (drop (start p) l)) 1 m (omega (arith, row-length))
      ∙ ap (λ (k : ℕ). take k (drop 1 (row_at p l))) s)

-- ---- a thread joins or leaves a row

pub insert-tail : (xs : List ℕ) (i : ℕ) → insert_at (length xs) i xs ≡ xs ++ (i ∷ [])
insert-tail xs i = rw (take-length xs, drop-length xs)

-- one more thread over the places that are not in use
fill : (xs : List ℕ) (i k n : ℕ) → length xs ≡ k → k < n
    → set (xs ++ replicate (n - k) 0) k i ≡ (xs ++ (i ∷ [])) ++ replicate (n - (k + 1)) 0
fill xs i k n e h =
    let s : n - k ≡ suc (n - (k + 1)) = omega arith in
    rw s (set_at xs 0 (replicate (n - (k + 1)) 0) i k e ∙ sym (append_snoc xs i (replicate (n - (k + 1)) 0)))

row-append : (xs : List ℕ) (i : ℕ) → length xs < 32
    → set (set (row_of xs) (1 + length xs) i) 0 (length xs + 1) ≡ row_of (insert_at (length xs) i xs)
row-append xs i h =
    let e : 1 + length xs ≡ suc (length xs) = omega arith in
    let n : length (xs ++ (i ∷ [])) ≡ length xs + 1 = length-append xs (i ∷ []) in
    rw (e, insert-tail xs i, n) (ap (λ (t : List ℕ). (length xs + 1) ∷ t) (fill xs i (length xs) 32 refl h))

-- where the first i stands, and the list without it
pub index-lt : (i : ℕ) (xs : List ℕ) → 0 < occurs i xs → index_of i xs < length xs
unfolding occurs index_of
index-lt i [] h = absurd (omega arith)
index-lt i (x ∷ xs) h = go (eqb x i) h (λ k. index-lt i xs k)
  where
    go : (b : Bool) → 0 < cond b 1 0 + occurs i xs → (0 < occurs i xs → index_of i xs < length xs) → cond b 0 (suc (index_of i xs)) < suc (length xs)
    go true h f = omega arith
    go false h f = omega (arith, f (omega arith))

without-split : (i : ℕ) (xs : List ℕ) → 0 < occurs i xs → without i xs ≡ take (index_of i xs) xs ++ drop (suc (index_of i xs)) xs
unfolding occurs index_of without
without-split i [] h = absurd (omega arith)
without-split i (x ∷ xs) h = go (eqb x i) h (λ k. without-split i xs k)
  where
    go : (b : Bool) → 0 < cond b 1 0 + occurs i xs → (0 < occurs i xs → without i xs ≡ take (index_of i xs) xs ++ drop (suc (index_of i xs)) xs)
        → cond b xs (x ∷ without i xs) ≡ take (cond b 0 (suc (index_of i xs))) (x ∷ xs) ++ drop (suc (cond b 0 (suc (index_of i xs)))) (x ∷ xs)
    go true h f = refl
    go false h f = ap (λ (t : List ℕ). x ∷ t) (f (omega arith))

pub without-length : (i : ℕ) (xs : List ℕ) → 0 < occurs i xs → length (without i xs) + 1 ≡ length xs
without-length i xs h =
    let j = index-lt i xs h in
    rw (without-split i xs h) (simp (length-append, length-take, length-drop) (omega arith))

-- the gap after the j first threads closed
pub row-closed : (xs : List ℕ) (j : ℕ) → j < length xs
    → closed (row_of xs) (1 + j) (length xs - j) ≡ length xs ∷ ((take j xs ++ drop (suc j) xs) ++ (0 ∷ replicate (32 - length xs) 0))
unfolding closed
row-closed xs j h =
    let z : List ℕ = replicate (32 - length xs) 0 in
    let a : 1 + j ≡ suc j = omega arith in
    let b : suc j + 1 ≡ suc (suc j) = omega arith in
    let d : suc j + (length xs - j) ≡ suc (length xs) = omega arith in
    let k : length (drop (suc j) xs) ≡ length xs - j - 1 = simp length-drop (omega arith) in
    rw (
      a,
      b,
      d,
      take-append-le j xs z (omega arith),
      drop-append-le (suc j) xs z (omega arith),
      take_at (drop (suc j) xs) z (length xs - j - 1) k,
      drop-append_seam xs z,
    )
    (simp append_assoc)

row-remove : (xs : List ℕ) (i : ℕ) → 0 < occurs i xs → length xs ≤ 32
    → set (closed (row_of xs) (1 + index_of i xs) (length xs - index_of i xs)) 0 (length xs - 1) ≡ row_of (without i xs)
row-remove xs i h l =
    let n = without-length i xs h in
    let e : length xs - 1 ≡ length (without i xs) = omega arith in
    let d : suc (32 - length xs) ≡ 32 - length (without i xs) = omega arith in
    rw (row-closed xs (index_of i xs) (index-lt i xs h), ← without-split i xs h, e)
    (ap (λ (k : ℕ). length (without i xs) ∷ (without i xs ++ replicate k 0)) d)

-- ---- the stores of `append` and `remove`

module _ (p : ℕ) (l : List ℕ) (lo : 1 ≤ p) (hi : p ≤ 32) (n : length l ≡ 1056) (xs : List ℕ) (i : ℕ) where
  row-stores : length xs < 32
      → set (set (with_row p (row_of xs) l) (start p + (1 + length xs)) i) (start p + 0) (length xs + 1)
      ≡ with_row p (row_of (insert_at (length xs) i xs)) l
  row-stores h =
      let k = row_of-length xs (omega arith) in
      let r = set (row_of xs) (1 + length xs) i in
      ap (λ (t : List ℕ). set t (start p + 0) (length xs + 1)) (with_row-set p l lo hi n (row_of xs) k (1 + length xs) i (omega arith))
      ∙ with_row-set p l lo hi n r (length-set (row_of xs) (1 + length xs) i ∙ k) 0 (length xs + 1) (omega arith)
      ∙ ap (λ (t : List ℕ). with_row p t l) (row-append xs i h)

  row-unstores : 0 < occurs i xs → length xs ≤ 32
      → set (closed (with_row p (row_of xs) l) (start p + (1 + index_of i xs)) (length xs - index_of i xs)) (start p + 0) (length xs - 1)
      ≡ with_row p (row_of (without i xs)) l
  row-unstores h m =
      let j = index-lt i xs h in
      let k = row_of-length xs m in
      let r = closed (row_of xs) (1 + index_of i xs) (length xs - index_of i xs) in
      let e : length r ≡ 33 =
      ap length (row-closed xs (index_of i xs) j) ∙ simp (length-append, length-take, length-drop, length-replicate) (omega arith) in
      ap (λ (t : List ℕ). set t (start p + 0) (length xs - 1))
      (with_row-closed p l lo hi n (row_of xs) k (1 + index_of i xs) (length xs - index_of i xs) (omega arith) (omega arith))
      ∙ with_row-set p l lo hi n r e 0 (length xs - 1) (omega arith)
      ∙ ap (λ (t : List ℕ). with_row p t l) (row-remove xs i h m)

module _ (word p : ℕ) (l : List ℕ) (f : Formed word p l) where
  formed-row : row_at p l ≡ row_of (threads p l)
  formed-row = row-formed (row_at p l) (row-length p l f.low f.high f.array) f.short f.rest

  pub threads-length : length (threads p l) ≡ size_at l p
  threads-length = members-length (row_at p l) (row-length p l f.low f.high f.array) f.short

  pub formed-array : l ≡ with_row p (row_of (threads p l)) l
  formed-array = row_same p l f.low f.high f.array ∙ ap (λ (r : List ℕ). with_row p r l) formed-row

  module _ (i at m : ℕ) (e : at ≡ start p) (r : m ≡ get_or l at 0) where
    s : m ≡ size_at l p
    s = r ∙ size-read p at l e

    pub append-stores : size_at l p < 32 → set (set l (at + 1 + m) i) at (get_or l at 0 + 1) ≡ appended p i l
    unfolding with_threads
    append-stores h =
        let xs = threads p l in
        let n : m ≡ length xs = s ∙ sym threads-length in
        let a : at + 1 + m ≡ start p + (1 + length xs) = omega arith in
        let b : at ≡ start p + 0 = omega arith in
        let v : get_or l at 0 + 1 ≡ length xs + 1 = omega arith in
        stores a b v formed-array
        ∙ row-stores p l f.low f.high f.array xs i (omega (arith, threads-length))
      where
        stores : {k k' j j' x x' : ℕ} {t : List ℕ} → k ≡ k' → j ≡ j' → x ≡ x' → l ≡ t → set (set l k i) j x ≡ set (set t k' i) j' x'
        stores q w v u = cc

    -- where the thread was found
    pub remove-index : (j : ℕ) → j ≡ index_of i (take m (drop (at + 1) l)) → 0 < occurs i (threads p l)
        → (j ≡ index_of i (threads p l)) × (j < m) × (m ≤ 32)
    remove-index j g h =
        let t : j ≡ index_of i (threads p l) =
        g ∙ ap (index_of i) (threads-read p l f.low f.high f.array at m e s (omega (arith, s, f.short))) in
        (t, omega (arith, s, threads-length, index-lt i (threads p l) h), omega (arith, s, f.short))

    pub remove-stores : (j : ℕ) → j ≡ index_of i (threads p l) → 0 < occurs i (threads p l)
        → set (closed l (at + 1 + j) (m - j)) at (get_or l at 0 - 1) ≡ removed p i l
    unfolding with_threads
    remove-stores j g h =
        let xs = threads p l in
        let n : m ≡ length xs = s ∙ sym threads-length in
        let a : at + 1 + j ≡ start p + (1 + index_of i xs) = omega arith in
        let b : at ≡ start p + 0 = omega arith in
        let d : m - j ≡ length xs - index_of i xs = omega arith in
        let v : get_or l at 0 - 1 ≡ length xs - 1 = omega arith in
        stores a d b v formed-array
        ∙ row-unstores p l f.low f.high f.array xs i h (omega (arith, threads-length, f.short))
      where
        stores : {k k' d d' j j' x x' : ℕ} {t : List ℕ} → k ≡ k' → d ≡ d' → j ≡ j' → x ≡ x' → l ≡ t
            → set (closed l k d) j x ≡ set (closed t k' d') j' x'
        stores q w v u o = cc

-- Laws of insertion in due order: what stands where, and that a sound list of dues stays one.
use Prim.Native.Nat.{ℕ, zero, suc, ◌+◌, ◌-◌, ◌≤◌, ◌<◌}
use mathlib.Core.Bool.{Bool, true, false, cond}
use mathlib.Core.Path.{◌≡◌, refl, sym, ap, ◌∙◌}
use mathlib.Core.List.{List, [], ◌∷◌, ◌++◌, append_assoc}
use lib.ListN.{length, take, drop, get_or, set, length-append, length-drop, take-append-drop}
use lib.Seq.{take_at, drop_at, take-add, take-suc, drop-cons, get_or-take, get_or-drop, set_at, append_snoc, length-take-le}
use lib.Dec.{leb}
use native.Mathlib.Numerals.{add-one}
use native.Mathlib.Omega.{arith}
use borrow.Author.Tests.{le-leb, lt-leb, leb-true, leb-false}
use Rattle.base.proofs.TestLaws.{cond-true, cond-false}
use Rattle.entries.specs.Entries.{slot_for, inserted}

-- ---- where an entry goes

-- the slot for a due, with what stands before it and at it
pub record SlotFor (d n : ℕ) (ds : List ℕ) (k : ℕ) : Type 0 where
  pub within : k ≤ n
  pub before : 0 < k → get_or ds (k - 1) 0 ≤ d
  pub after : k < n → d < get_or ds k 0

pub slot-for : (d n : ℕ) (ds : List ℕ) → SlotFor d n ds (slot_for d n ds)
unfolding slot_for
slot-for d zero ds = record { within = omega arith; before = λ h. absurd (omega arith); after = λ h. absurd (omega arith) }
slot-for d (suc n) ds = go (leb (get_or ds n 0) d) refl (slot_for d n ds) (slot-for d n ds)
  where
    go : (b : Bool) → leb (get_or ds n 0) d ≡ b → (k : ℕ) → SlotFor d n ds k → SlotFor d (suc n) ds (cond b (suc n) k)
    go true e k h =
        let m : suc n - 1 ≡ n = omega arith in
        record { within = omega arith; before = λ l. rw m (leb-true (get_or ds n 0) d e); after = λ l. absurd (omega arith) }
    go false e k h = record { within = omega (arith, h.within); before = h.before; after = λ l. at k n refl h l e }
      where
        at : (k m : ℕ) → m ≡ n → SlotFor d n ds k → k < suc n → leb (get_or ds m 0) d ≡ false → d < get_or ds k 0
        at k m q h l e = later (suc k - m) refl
          where
            later : (x : ℕ) → suc k - m ≡ x → d < get_or ds k 0
            later zero y = h.after (omega arith)
            later (suc x) y = let z : k ≡ m = omega arith in rw z (leb-false (get_or ds m 0) d e)

-- the search from the last: at a slot k above 0
module _ (d k : ℕ) (ds : List ℕ) (h : 0 < k) where
  pub slot-here : get_or ds (k - 1) 0 ≤ d → slot_for d k ds ≡ k
  unfolding slot_for
  slot-here l = go k refl
    where
      go : (m : ℕ) → k ≡ m → slot_for d k ds ≡ k
      go zero e = absurd (omega arith)
      go (suc m) e =
          let j : k - 1 ≡ m = omega arith in
          rw e (cond-true (leb (get_or ds m 0) d) (suc m) (slot_for d m ds) (le-leb (get_or ds m 0) d (rw j at l)))

  pub slot-earlier : d < get_or ds (k - 1) 0 → slot_for d k ds ≡ slot_for d (k - 1) ds
  unfolding slot_for
  slot-earlier l = go k refl
    where
      go : (m : ℕ) → k ≡ m → slot_for d k ds ≡ slot_for d (k - 1) ds
      go zero e = absurd (omega arith)
      go (suc m) e =
          let j : k - 1 ≡ m = omega arith in
          rw j (rw e (cond-false (leb (get_or ds m 0) d) (suc m) (slot_for d m ds) (lt-leb (get_or ds m 0) d (rw j at l))))

pub slot-none : (d k : ℕ) (ds : List ℕ) → k ≡ 0 → 0 ≡ slot_for d k ds
unfolding slot_for
slot-none d k ds e = rw e refl

-- ---- what stands where after an insertion

module _ (k n x : ℕ) (xs : List ℕ) (h : k ≤ n) (l : n < length xs) where
  -- the first n numbers, by the two parts around slot k
  pub parts : take n xs ≡ take k xs ++ take (n - k) (drop k xs)
  parts = let e : n ≡ k + (n - k) = omega arith in ap (λ (m : ℕ). take m xs) e ∙ take-add k (n - k) xs

  -- the n + 1 numbers afterwards
  abbrev among : List ℕ
  among = take k xs ++ x ∷ take (n - k) (drop k xs)

  among-length : length among ≡ n + 1
  among-length =
      length-append (take k xs) (x ∷ take (n - k) (drop k xs))
      ∙ omega (arith, length-take-le k xs (omega arith), length-take-le (n - k) (drop k xs) (omega (arith, length-drop k xs)))

  pub inserted-is : inserted k n x xs ≡ among ++ drop (n + 1) xs
  unfolding inserted
  inserted-is = sym (append_assoc (take k xs) (x ∷ take (n - k) (drop k xs)) (drop (n + 1) xs))

  pub inserted-part : take (n + 1) (inserted k n x xs) ≡ take k xs ++ x ∷ take (n - k) (drop k xs)
  inserted-part = ap (take (n + 1)) inserted-is ∙ take_at among (drop (n + 1) xs) (n + 1) among-length

  pub inserted-rest : drop (n + 1) (inserted k n x xs) ≡ drop (n + 1) xs
  inserted-rest = ap (drop (n + 1)) inserted-is ∙ drop_at among (drop (n + 1) xs) (n + 1) among-length

  pub inserted-length : length (inserted k n x xs) ≡ length xs
  inserted-length =
      ap length inserted-is ∙ length-append among (drop (n + 1) xs) ∙ omega (arith, among-length, length-drop (n + 1) xs)

-- ---- the loop of the insertion: of the first n + 1 slots, those after i are moved one slot down

abbrev pub moved_down : List ℕ → ℕ → ℕ → List ℕ
moved_down xs n i = take (i + 1) xs ++ (take (n - i) (drop i xs) ++ drop (n + 1) xs)

pub down-start : (xs : List ℕ) (n : ℕ) → xs ≡ moved_down xs n n
down-start xs n =
    let z : n - n ≡ 0 = omega arith in
    sym (take-append-drop (n + 1) xs) ∙ ap (λ (m : ℕ). take (n + 1) xs ++ (take m (drop n xs) ++ drop (n + 1) xs)) (sym z)

-- a store at i
pub down-store : (xs r : List ℕ) (n i x : ℕ) → i < length xs → r ≡ moved_down xs n i → set r i x ≡ inserted i n x xs
unfolding inserted
down-store xs r n i x h e =
    let ys = take (n - i) (drop i xs) ++ drop (n + 1) xs in
    ap (λ (s : List ℕ). set s i x) e
    ∙ ap (λ (s : List ℕ). set (s ++ ys) i x) (ap (λ (m : ℕ). take m xs) (add-one i) ∙ take-suc xs i 0 h)
    ∙ ap (λ (s : List ℕ). set s i x) (append_snoc (take i xs) (get_or xs i 0) ys)
    ∙ set_at (take i xs) (get_or xs i 0) ys x i (length-take-le i xs (omega arith))

-- of the number before it: one more is moved
pub down_turn : (xs r : List ℕ) (n i : ℕ) → 0 < i → i ≤ n → n < length xs → r ≡ moved_down xs n i → set r i (get_or xs (i - 1) 0) ≡ moved_down xs n (i - 1)
unfolding inserted
down_turn xs r n i h l m e = down-store xs r n i (get_or xs (i - 1) 0) (omega arith) e ∙ go (i - 1) refl
  where
    go : (j : ℕ) → i - 1 ≡ j → inserted i n (get_or xs (i - 1) 0) xs ≡ moved_down xs n (i - 1)
    go j q =
        let s : i ≡ suc j = omega arith in
        let t : suc (n - suc j) ≡ n - j = omega arith in
        rw q
        (rw (s, add-one j)
        (ap (λ (ys : List ℕ). take (suc j) xs ++ (take (suc (n - suc j)) ys ++ drop (n + 1) xs)) (sym (drop-cons xs j 0 (omega arith)))
        ∙ ap (λ (k : ℕ). take (suc j) xs ++ (take k (drop j xs) ++ drop (n + 1) xs)) t))

-- an entry after all the others is a store
pub inserted-last : (n x : ℕ) (xs : List ℕ) → n < length xs → inserted n n x xs ≡ set xs n x
inserted-last n x xs l = sym (down-store xs xs n n x l (down-start xs n))

-- the first due afterwards is no later
pub inserted-first : (x n : ℕ) (xs : List ℕ) → 0 < n → n < length xs → get_or (inserted (slot_for x n xs) n x xs) 0 0 ≤ get_or xs 0 0
unfolding inserted
inserted-first x n [] h l = absurd (omega arith)
inserted-first x n (y ∷ ys) h l = go (slot_for x n (y ∷ ys)) (slot-for x n (y ∷ ys))
  where
    go : (k : ℕ) → SlotFor x n (y ∷ ys) k → get_or (take k (y ∷ ys) ++ (x ∷ (take (n - k) (drop k (y ∷ ys)) ++ drop (n + 1) (y ∷ ys)))) 0 0 ≤ y
    go zero p = omega (arith, p.after h)
    go (suc k) p = omega arith

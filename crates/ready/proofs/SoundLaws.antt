-- What soundness gives the rules, that each rule keeps it, and what it says of the highest list.
use mathlib.Core.Path.{◌≡◌, refl, sym, ap, ◌∙◌}
use mathlib.Core.Bool.{Bool, true, false, cond}
use mathlib.Core.List.{List, [], ◌∷◌, ◌++◌}
use Prim.Native.Nat.{ℕ, zero, suc, ◌+◌, ◌-◌, ◌≤◌, ◌<◌}
use native.Mathlib.Omega.{arith}
use native.Mathlib.Decide.{ℕ_discrete}
use lib.ListN.{length, get_or, take, drop, replicate, length-replicate, replicate-append-replicate}
use lib.Seq.{take_at, drop_at}
use lib.Dec.{ltb, eqb}
use borrow.Author.Tests.{eq-eqb, ne_eqb, eqb-true}
use Rattle.base.proofs.TestLaws.{tests, All, true-all, zeros-replicate}
use Rattle.ready.specs.Lists.{start, row_at, size, threads, with_threads, insert_at, without, head_of, appended, removed, moved, occurs}
use Rattle.ready.specs.Word.{size_at, occupancy, highest_of, highest_list}
use Rattle.ready.specs.Rules.{Held, Formed, Joinable, Leavable, Movable}
use Rattle.ready.specs.Sound.{small}
use Rattle.ready.proofs.RowLaws.{row_of-members, row_of-unused, row-length, members-length, insert-tail, without-length}
use Rattle.ready.proofs.WordLaws.{word_none, Highest, highest-list, highest-leading, highest-pos, highest-zero}
use Rattle.ready.proofs.ListLaws.{with-length, with_at, with-other, insert-length}
use Rattle.ready.proofs.Soundness.{mark, mark-same, mark-other, mark-is, RowSound, ListsSound, row_same}

-- the places with thread i at p
abbrev pub with_place : (ℕ → ℕ) → ℕ → ℕ → ℕ → ℕ
with_place place i p k = cond (eqb k i) p (place k)

-- ---- how often threads stand in a list

occurs-append : (k : ℕ) (xs ys : List ℕ) → occurs k (xs ++ ys) ≡ occurs k xs + occurs k ys
unfolding occurs
occurs-append k [] ys = omega arith
occurs-append k (x ∷ xs) ys = omega (arith, occurs-append k xs ys)

occurs-insert : (k i : ℕ) (xs : List ℕ) → occurs k (insert_at (length xs) i xs) ≡ occurs k xs + mark i k
unfolding occurs
occurs-insert k i xs = rw (insert-tail xs i, occurs-append k xs (i ∷ [])) (omega arith)

occurs-without : (k i : ℕ) (xs : List ℕ) → 0 < occurs i xs → occurs k (without i xs) + mark i k ≡ occurs k xs
unfolding occurs without
occurs-without k i [] h = absurd (omega arith)
occurs-without k i (x ∷ xs) h = go (eqb x i) refl (λ g. occurs-without k i xs g)
  where
    go : (b : Bool) → eqb x i ≡ b → (0 < occurs i xs → occurs k (without i xs) + mark i k ≡ occurs k xs)
        → occurs k (cond b xs (x ∷ without i xs)) + mark i k ≡ mark x k + occurs k xs
    go true e f = rw (eqb-true x i e) (omega arith)
    go false e f = let g : 0 < 0 + occurs i xs = rw e at h in omega (arith, f (omega arith))

small-append : (xs ys : List ℕ) → All (small xs) → All (small ys) → All (small (xs ++ ys))
small-append [] ys h g = g
small-append (x ∷ xs) ys h g = (h.0, small-append xs ys h.1 g)

small-insert : (i : ℕ) (xs : List ℕ) → i < 32 → All (small xs) → All (small (insert_at (length xs) i xs))
small-insert i xs l h = rw (insert-tail xs i) (small-append xs (i ∷ []) h (omega tests))

small-without : (i : ℕ) (xs : List ℕ) → All (small xs) → All (small (without i xs))
unfolding without
small-without i [] h = tt
small-without i (x ∷ xs) h = go (eqb x i) (small-without i xs h.1)
  where
    go : (b : Bool) → All (small (without i xs)) → All (small (cond b xs (x ∷ without i xs)))
    go true r = h.1
    go false r = (h.0, r)

-- ---- room: a list of numbers below 32, none twice and one missing, has at most 31

sum : ℕ → (ℕ → ℕ) → ℕ
sum zero f = 0
sum (suc n) f = f n + sum n f

sum-add : (n : ℕ) (f g : ℕ → ℕ) → sum n (λ i. f i + g i) ≡ sum n f + sum n g
unfolding sum
sum-add zero f g = refl
sum-add (suc n) f g = omega (arith, sum-add n f g)

sum-zero : (n : ℕ) → sum n (λ i. 0) ≡ 0
unfolding sum
sum-zero zero = refl
sum-zero (suc n) = omega (arith, sum-zero n)

sum_past : (n x : ℕ) → n ≤ x → sum n (mark x) ≡ 0
unfolding sum
sum_past zero x h = refl
sum_past (suc n) x h = omega (arith, mark-other x n (λ e. omega arith), sum_past n x (omega arith))

sum_one : (n x : ℕ) → x < n → sum n (mark x) ≡ 1
unfolding sum
sum_one zero x h = absurd (omega arith)
sum_one (suc n) x h = go (ℕ_discrete x n) (λ l. sum_one n x l)
  where
    go : Dec (x ≡ n) → (x < n → sum n (mark x) ≡ 1) → mark x n + sum n (mark x) ≡ 1
    go (yes e) k = omega (arith, mark-same x n e, sum_past n x (omega arith))
    go (no d) k = omega (arith, mark-other x n d, k (omega arith))

-- a list of small numbers is as long as they occur in all
sum-occurs : (xs : List ℕ) → All (small xs) → sum 32 (λ i. occurs i xs) ≡ length xs
unfolding occurs
sum-occurs [] h = sum-zero 32
sum-occurs (x ∷ xs) h = sum-add 32 (mark x) (λ i. occurs i xs) ∙ omega (tests, sum_one 32 x (omega tests), sum-occurs xs h.1)

sum-le : (n : ℕ) (f : ℕ → ℕ) → ((i : ℕ) → i < n → f i ≤ 1) → sum n f ≤ n
unfolding sum
sum-le zero f h = omega arith
sum-le (suc n) f h = omega (arith, h n (omega arith), sum-le n f (λ i q. h i (omega arith)))

sum_lt : (n : ℕ) (f : ℕ → ℕ) → ((i : ℕ) → i < n → f i ≤ 1) → (k : ℕ) → k < n → f k ≡ 0 → sum n f < n
unfolding sum
sum_lt zero f h k l z = absurd (omega arith)
sum_lt (suc n) f h k l z = go (ℕ_discrete n k) (λ m. sum_lt n f (λ i q. h i (omega arith)) k m z)
  where
    go : Dec (n ≡ k) → (k < n → sum n f < n) → f n + sum n f < suc n
    go (yes q) r = let y : f n ≡ 0 = rw q z in omega (arith, sum-le n f (λ i q. h i (omega arith)))
    go (no q) r = omega (arith, h n (omega arith), r (omega arith))

mark-le : (q p : ℕ) → mark q p ≤ 1
mark-le q p = go (eqb q p)
  where
    go : (b : Bool) → cond b 1 0 ≤ 1
    go true = omega arith
    go false = omega arith

-- ---- what soundness gives the rules

module _ (place : ℕ → ℕ) (word : ℕ) (l : List ℕ) (h : ListsSound place word l) where
  module _ (p : ℕ) (lo : 1 ≤ p) (hi : p ≤ 32) where
    row : RowSound place p (row_at p l)
    row = h.rows.each p lo hi

    pub size-threads : length (threads p l) ≡ size_at l p
    size-threads = members-length (row_at p l) (row-length p l lo hi h.array) row.short

    pub formed : Formed word p l
    formed =
        record { array = h.array; low = lo; high = hi; short = row.short; rest = true-all _ row.rest; agrees = h.agrees }

    -- a thread whose place is not p leaves room for it in list p
    pub room : (i : ℕ) → i < 32 → (place i ≡ p → ⊥) → size_at l p < 32
    room i m d =
        let z : occurs i (threads p l) ≡ 0 = row.once i m ∙ mark-other (place i) p d in
        omega (
          arith,
          size-threads,
          sum-occurs (threads p l) row.known,
          sum_lt 32 (λ k. occurs k (threads p l)) (λ k n. omega (arith, row.once k n, mark-le (place k) p)) i m z,
        )

    pub joinable : (i : ℕ) → i < 32 → (place i ≡ p → ⊥) → Joinable word p l
    joinable i m d = record { formed = formed; room = room i m d }

    pub leavable : (i : ℕ) → i < 32 → place i ≡ p → Leavable word p i l
    leavable i m e = record { formed = formed; member = omega (arith, row.once i m, mark-same (place i) p e) }

-- ---- each rule keeps soundness

pub sound-same : (place place' : ℕ → ℕ) (word : ℕ) (l : List ℕ) → ((i : ℕ) → i < 32 → place' i ≡ place i)
    → ListsSound place word l → ListsSound place' word l
sound-same place place' word l e h =
    record {
      array = h.array;
      rows = record {
        places = λ i m. omega (arith, e i m, h.rows.places i m);
        each = λ p lo hi. row_same place place' p (row_at p l) (λ i m. ap (λ (q : ℕ). eqb q p) (e i m)) (h.rows.each p lo hi);
      };
      agrees = h.agrees;
    }

-- another list p, sound for the new places, where the others see no difference between new and old
with-sound : (place place' : ℕ → ℕ) (word p : ℕ) (xs l : List ℕ) → ListsSound place word l → 1 ≤ p → p ≤ 32 → length xs ≤ 32
    → ((i : ℕ) → i < 32 → place' i ≤ 32)
    → ((q : ℕ) → 1 ≤ q → (q ≡ p → ⊥) → (i : ℕ) → i < 32 → eqb (place' i) q ≡ eqb (place i) q)
    → All (small xs) → ((i : ℕ) → i < 32 → occurs i xs ≡ mark (place' i) p)
    → ListsSound place' (occupancy (with_threads p xs l)) (with_threads p xs l)
with-sound place place' word p xs l h lo hi n f g k o =
    record {
      array = with-length p xs l lo hi h.array n;
      rows = record { places = f; each = λ q a b. go q a b (ℕ_discrete q p) };
      agrees = refl;
    }
  where
    go : (q : ℕ) → 1 ≤ q → q ≤ 32 → Dec (q ≡ p) → RowSound place' q (row_at q (with_threads p xs l))
    go q a b (yes e) =
        rw (e, with_at p xs l lo hi h.array n)
        (record {
          short = n;
          rest = row_of-unused xs;
          known = rw (row_of-members xs) k;
          once = λ i m. rw (row_of-members xs) (o i m);
        })
    go q a b (no d) =
        rw (with-other p xs l lo hi h.array n q a d) (row_same place place' q (row_at q l) (g q a d) (h.rows.each q a b))

-- a list that i neither was in nor goes to sees no difference
apart : (place : ℕ → ℕ) (i r q : ℕ) → (place i ≡ q → ⊥) → (r ≡ q → ⊥) → (k : ℕ) → eqb (with_place place i r k) q ≡ eqb (place k) q
apart place i r q d f k = go (ℕ_discrete k i)
  where
    go : Dec (k ≡ i) → eqb (cond (eqb k i) r (place k)) q ≡ eqb (place k) q
    go (yes e) = rw (eq-eqb k i e, e, ne_eqb r q f, ne_eqb (place i) q d)
    go (no e) = rw (ne_eqb k i e)

place-le : (place : ℕ → ℕ) (i r k : ℕ) → r ≤ 32 → place k ≤ 32 → with_place place i r k ≤ 32
place-le place i r k h g = go (eqb k i)
  where
    go : (b : Bool) → cond b r (place k) ≤ 32
    go true = h
    go false = g

module _ (place : ℕ → ℕ) (word : ℕ) (l : List ℕ) (h : ListsSound place word l) (i : ℕ) (m : i < 32) where
  -- thread i, in no list, becomes the tail of list p
  pub append-sound : (p : ℕ) → 1 ≤ p → p ≤ 32 → place i ≡ 0 → ListsSound (with_place place i p) (occupancy (appended p i l)) (appended p i l)
  append-sound p lo hi e =
      let xs = threads p l in
      let r = h.rows.each p lo hi in
      with-sound place (with_place place i p) word p (insert_at (length xs) i xs) l h lo hi
      (omega (arith, insert-length xs i, size-threads place word l h p lo hi, room place word l h p lo hi i m (λ z. omega arith)))
      (λ k n. place-le place i p k hi (h.rows.places k n))
      (λ q a d k n. apart place i p q (λ z. omega arith) (λ z. d (sym z)) k)
      (small-insert i xs m r.known)
      (λ k n. occurs-insert k i xs ∙ ap (λ (c : ℕ). c + mark i k) (r.once k n) ∙ count k (ℕ_discrete k i))
    where
      count : (k : ℕ) → Dec (k ≡ i) → mark (place k) p + mark i k ≡ mark (with_place place i p k) p
      count k (yes q) =
          rw (eq-eqb k i q)
          (omega (
            arith,
            mark-other (place k) p (λ z. let y : place k ≡ 0 = ap place q ∙ e in omega arith),
            mark-same i k (sym q),
            mark-same p p refl,
          ))
      count k (no q) = rw (ne_eqb k i q) (omega (arith, mark-other i k (λ z. q (sym z))))

  -- thread i leaves the list p of its place
  pub remove-sound : (p : ℕ) → 1 ≤ p → p ≤ 32 → place i ≡ p → ListsSound (with_place place i 0) (occupancy (removed p i l)) (removed p i l)
  remove-sound p lo hi e =
      let xs = threads p l in
      let r = h.rows.each p lo hi in
      let o : 0 < occurs i xs = (leavable place word l h p lo hi i m e).member in
      with-sound place (with_place place i 0) word p (without i xs) l h lo hi
      (omega (arith, without-length i xs o, size-threads place word l h p lo hi, r.short))
      (λ k n. place-le place i 0 k (omega arith) (h.rows.places k n))
      (λ q a d k n. apart place i 0 q (λ z. d (sym z ∙ e)) (λ z. omega arith) k)
      (small-without i xs r.known)
      (λ k n. count k (ℕ_discrete k i) (occurs k (without i xs)) (occurs-without k i xs o ∙ r.once k n))
    where
      count : (k : ℕ) → Dec (k ≡ i) → (c : ℕ) → c + mark i k ≡ mark (place k) p → c ≡ mark (with_place place i 0 k) p
      count k (yes q) c g =
          rw (eq-eqb k i q)
          (omega (arith, mark-same (place k) p (ap place q ∙ e), mark-same i k (sym q), mark-other 0 p (λ z. omega arith)))
      count k (no q) c g = rw (ne_eqb k i q) (omega (arith, mark-other i k (λ z. q (sym z))))

-- thread i goes from the list p of its place to the tail of list q, the same or another
module _ (place : ℕ → ℕ) (word : ℕ) (l : List ℕ) (h : ListsSound place word l) (i : ℕ) (m : i < 32) (p q : ℕ) (lo : 1 ≤ p) (hi : p ≤ 32)
    (e : place i ≡ p) (lo' : 1 ≤ q) (hi' : q ≤ 32) where
  gone : with_place place i 0 i ≡ 0
  gone = rw (eq-eqb i i refl)

  left : ListsSound (with_place place i 0) (occupancy (removed p i l)) (removed p i l)
  left = remove-sound place word l h i m p lo hi e

  pub movable : Movable word i p q l
  movable =
      record {
        leaves = leavable place word l h p lo hi i m e;
        joins = joinable (with_place place i 0) (occupancy (removed p i l)) (removed p i l) left q lo' hi' i m (λ z. omega (arith, gone));
      }

  pub move-sound : ListsSound (with_place place i q) (occupancy (moved i p q l)) (moved i p q l)
  move-sound =
      sound-same (with_place (with_place place i 0) i q) (with_place place i q) (occupancy (moved i p q l)) (moved i p q l)
      (λ k n. go k (eqb k i))
      (append-sound (with_place place i 0) (occupancy (removed p i l)) (removed p i l) left i m q lo' hi' gone)
    where
      go : (k : ℕ) (b : Bool) → cond b q (place k) ≡ cond b q (cond b 0 (place k))
      go k true = refl
      go k false = refl

-- ---- no thread in any list

-- n zeros
abbrev none : ℕ → List ℕ
none n = replicate n 0

zero_row : (n a b : ℕ) → n ≡ a + (33 + b) → take 33 (drop a (none n)) ≡ none 33
zero_row n a b e =
    let z : none n ≡ none a ++ (none 33 ++ none b) =
    ap none e ∙ sym (ap (λ (t : List ℕ). none a ++ t) (replicate-append-replicate 33 b 0) ∙ replicate-append-replicate a (33 + b) 0) in
    ap (λ (t : List ℕ). take 33 (drop a t)) z
    ∙ ap (take 33) (drop_at (none a) (none 33 ++ none b) a (length-replicate {A = ℕ} a 0))
    ∙ take_at (none 33) (none b) 33 refl

empty-row : (p : ℕ) → 1 ≤ p → p ≤ 32 → row_at p (none 1056) ≡ none 33
empty-row p lo hi = zero_row 1056 (start p) (1056 - (start p + 33)) (omega arith)

pub empty-sound : ListsSound (λ i. 0) 0 (replicate 1056 0)
unfolding occurs occupancy
empty-sound =
    record {
      array = length-replicate {A = ℕ} 1056 0;
      rows = record {
        places = λ i m. omega arith;
        each = λ p lo hi. rw (empty-row p lo hi)
            (record { short = omega arith; rest = zeros-replicate 32; known = tt; once = λ i m. sym (mark-other 0 p (λ z. omega arith)) });
      };
      agrees = sym (word_none 32 (size_at (replicate 1056 0)) (λ p lo hi. ap size (empty-row p lo hi)));
    }

-- ---- the highest list

head-of : (xs : List ℕ) → 0 < length xs → All (small xs) → (get_or xs 0 0 < 32) × (0 < occurs (get_or xs 0 0) xs)
unfolding occurs
head-of [] h s = absurd (omega arith)
head-of (x ∷ xs) h s = (omega tests, rw (eq-eqb x x refl) (omega arith))

-- list p holds a thread, none above it does, and its head has the place p
pub record HighestSound (place : ℕ → ℕ) (l : List ℕ) (p : ℕ) : Type 0 where
  pub held : Held p l
  pub above : (q : ℕ) → p < q → q ≤ 32 → threads q l ≡ []
  pub most : (i : ℕ) → i < 32 → place i ≤ p
  pub thread : head_of p l < 32
  pub stands : place (head_of p l) ≡ p

module _ (place : ℕ → ℕ) (word : ℕ) (l : List ℕ) (h : ListsSound place word l) where
  -- no thread has its place in an empty list
  absent : (q : ℕ) → 1 ≤ q → q ≤ 32 → size_at l q ≡ 0 → (i : ℕ) → i < 32 → place i ≡ q → ⊥
  unfolding occurs
  absent q lo hi e i m z =
      let t : threads q l ≡ [] = ap (λ (n : ℕ). take n (drop 1 (row_at q l))) e in
      let c : 0 ≡ mark (place i) q = rw t at ((h.rows.each q lo hi).once i m) in
      omega (arith, mark-same (place i) q z)

  -- where the word is 0, no thread has a place in a list
  pub idle : word ≡ 0 → (i : ℕ) → i < 32 → place i ≡ 0
  idle e i m = go (ℕ_discrete (place i) 0)
    where
      go : Dec (place i ≡ 0) → place i ≡ 0
      go (yes z) = z
      go (no d) =
          let g = highest-list 32 (size_at l) in
          let z = highest-zero l (sym h.agrees ∙ e) in
          let lo : 1 ≤ place i = omega (arith, d) in
          absurd (absent (place i) lo (h.rows.places i m) (g.empty (place i) (omega arith) (h.rows.places i m)) i m refl)

  -- 01 State 4 and 18: elsewhere the highest list is found from the word's leading zeros, and its head stands where it must
  pub highest-sound : (word ≡ 0 → ⊥) → HighestSound place l (highest_of word)
  highest-sound d =
      let e : highest_of word ≡ highest_list 32 (size_at l) = ap highest_of h.agrees ∙ highest-leading l in
      rw e (found (highest_list 32 (size_at l)) (highest-list 32 (size_at l)) (highest-pos l (λ z. d (h.agrees ∙ z))))
    where
      found : (p : ℕ) → Highest 32 (size_at l) p → 0 < p → HighestSound place l p
      found p g lo =
          let r = h.rows.each p lo g.range in
          let t = head-of (threads p l) (omega (arith, size-threads place word l h p lo g.range, g.held lo)) r.known in
          record {
            held = record { low = lo; high = g.range; some = g.held lo };
            above = λ q a b. ap (λ (n : ℕ). take n (drop 1 (row_at q l))) (g.empty q a b);
            most = λ i m. most i m (ltb p (place i)) refl;
            thread = t.0;
            stands = mark-is (place (head_of p l)) p (omega (arith, t.1, r.once (head_of p l) t.0));
          }
        where
          most : (i : ℕ) → i < 32 → (b : Bool) → ltb p (place i) ≡ b → place i ≤ p
          most i m true z =
              let a : p < place i = omega tests in
              let b = h.rows.places i m in
              absurd (absent (place i) (omega arith) b (g.empty (place i) a b) i m refl)
          most i m false z = omega tests

-- The search for the next due through the word of the threads that have something pending: what the word has left after some threads, and
-- why the search may end early; and the word where a count changed, or of some of the threads.
use Prim.Native.Nat.{ℕ, zero, suc, ◌+◌, ◌-◌, ◌^◌, ◌≤◌, ◌<◌}
use mathlib.Core.Bool.{Bool, true, false, cond}
use mathlib.Core.Path.{◌≡◌, refl, sym, ap, subst, ◌∙◌}
use mathlib.Core.List.{List, [], ◌∷◌}
use lib.Bits.{bit_and, bit_or, bit_xor, differ}
use lib.Count.{count_trailing_zeros}
use lib.ListN.{get_or, set, take}
use lib.Seq.{get_or-set_same, get_or-set_other}
use lib.Dec.{eqb, ltb}
use native.Mathlib.Nat.{pow-suc}
use native.Mathlib.Omega.{arith}
use native.Mathlib.Numerals.{add-one}
use native.Mathlib.Decide.{ℕ_discrete}
use borrow.Author.Tests.{eq-eqb, ne_eqb, le-ltb, ltb-true, ltb-false}
use Rattle.due_search.specs.declared.Due.{Due}
use Rattle.due_search.specs.Search.{first_due, sooner, next_due}
use Rattle.due_search.specs.Kept.{NoneBefore}
use Rattle.due_search.specs.Word.{digit, pending_digit, PendingWord, WordAfter}
use Rattle.due_search.proofs.DueLaws.{others-dont-matter}
use Rattle.due_search.proofs.DigitLaws.{below-lowest, lowest_set, cleared, raised, above-length, or-digit, and-digit, xor-digit, digit-small, power-own, power-other, ones_below, ones_above}

-- ---- the word

module _ (counts : List ℕ) where
  digit-none : (j : ℕ) → pending_digit counts j ≡ 0 → get_or counts j 0 ≡ 0
  digit-none j e = go (ℕ_discrete (get_or counts j 0) 0)
    where
      go : Dec (get_or counts j 0 ≡ 0) → get_or counts j 0 ≡ 0
      go (yes z) = z
      go (no z) = let f = rw (ne_eqb (get_or counts j 0) 0 z) at e in absurd (omega arith)

  digit-some : (j : ℕ) → pending_digit counts j ≡ 1 → get_or counts j 0 ≡ 0 → ⊥
  digit-some j e z = let f = rw (eq-eqb (get_or counts j 0) 0 z) at e in omega arith

  -- a thread more
  pub word_more : (i word b : ℕ) → word < 2 ^ i → ((j : ℕ) → j < i → digit j word ≡ pending_digit counts j) → b ≡ cond (eqb (get_or counts i 0) 0) 0 (2 ^ i)
      → (word + b < 2 ^ suc i) × ((j : ℕ) → j < suc i → digit j (word + b) ≡ pending_digit counts j)
  word_more i word b l h e = go (ℕ_discrete (get_or counts i 0) 0)
    where
      last : (x : ℕ) → digit i x ≡ pending_digit counts i → ((j : ℕ) → (j ≡ i → ⊥) → digit j x ≡ digit j word)
          → (j : ℕ) → j < suc i → Dec (j ≡ i) → digit j x ≡ pending_digit counts j
      last x a o j m (yes q) = ap (λ (k : ℕ). digit k x) q ∙ a ∙ ap (pending_digit counts) (sym q)
      last x a o j m (no q) = o j q ∙ h j (omega (arith, q))

      go : Dec (get_or counts i 0 ≡ 0) → (word + b < 2 ^ suc i) × ((j : ℕ) → j < suc i → digit j (word + b) ≡ pending_digit counts j)
      go (yes z) =
          let f : b ≡ 0 = e ∙ ap (λ (x : Bool). cond x 0 (2 ^ i)) (eq-eqb (get_or counts i 0) 0 z) in
          let w : word + b ≡ word = omega arith in
          let d : pending_digit counts i ≡ 0 = rw (eq-eqb (get_or counts i 0) 0 z) in
          (omega (arith, pow-suc 2 i), rw w (λ j m. last word (above-length i word l ∙ sym d) (λ k q. refl) j m (ℕ_discrete j i)))
      go (no z) =
          let f : b ≡ 2 ^ i = e ∙ ap (λ (x : Bool). cond x 0 (2 ^ i)) (ne_eqb (get_or counts i 0) 0 z) in
          let r = raised i word l in
          let d : pending_digit counts i ≡ 1 = rw (ne_eqb (get_or counts i 0) 0 z) in
          (omega (arith, pow-suc 2 i), rw f (λ j m. last (word + 2 ^ i) (r.0 ∙ sym d) r.1 j m (ℕ_discrete j i)))

-- what the word has left after the threads below i
pub record Rest (counts : List ℕ) (word i : ℕ) : Type 0 where
  pub gone : (j : ℕ) → j < i → digit j word ≡ 0
  pub there : (j : ℕ) → i ≤ j → j < 32 → digit j word ≡ pending_digit counts j

module _ (counts : List ℕ) (word i : ℕ) (r : Rest counts word i) where
  -- threads below the lowest that is left have nothing pending
  pub passed_over : (k : ℕ) → k ≤ count_trailing_zeros 32 word → k ≤ 32 → (j : ℕ) → i ≤ j → j < k → get_or counts j 0 ≡ 0
  passed_over k l m j a b = digit-none counts j (sym (r.there j a (omega arith)) ∙ below-lowest 32 word j (omega arith))

  module _ (l : count_trailing_zeros 32 word < 32) where
    -- it is not below i
    pub lowest-left : i ≤ count_trailing_zeros 32 word
    lowest-left = go (ltb (count_trailing_zeros 32 word) i) refl
      where
        go : (b : Bool) → ltb (count_trailing_zeros 32 word) i ≡ b → i ≤ count_trailing_zeros 32 word
        go true e =
            absurd (omega (arith, r.gone (count_trailing_zeros 32 word) (ltb-true (count_trailing_zeros 32 word) i e), lowest_set 32 word l))
        go false e = ltb-false (count_trailing_zeros 32 word) i e

    -- and has something pending
    pub lowest-pending : get_or counts (count_trailing_zeros 32 word) 0 ≡ 0 → ⊥
    lowest-pending = digit-some counts (count_trailing_zeros 32 word) (sym (r.there (count_trailing_zeros 32 word) lowest-left l) ∙ lowest_set 32 word l)

    -- what is left after it
    pub rest-after : Rest counts (bit_and word (word - 1)) (suc (count_trailing_zeros 32 word))
    rest-after =
        let c = cleared 32 word l in
        let low = lowest-left in
        record {
          gone = λ j a. gone c j a (ℕ_discrete j (count_trailing_zeros 32 word));
          there = λ j a b. c.1 j (λ e. omega arith) ∙ r.there j (omega arith) b;
        }
      where
        gone : (digit (count_trailing_zeros 32 word) (bit_and word (word - 1)) ≡ 0) × ((j : ℕ) → (j ≡ count_trailing_zeros 32 word → ⊥) → digit j (bit_and word (word - 1)) ≡ digit j word)
            → (j : ℕ) → j < suc (count_trailing_zeros 32 word) → Dec (j ≡ count_trailing_zeros 32 word) → digit j (bit_and word (word - 1)) ≡ 0
        gone c j a (yes e) = ap (λ (k : ℕ). digit k (bit_and word (word - 1))) e ∙ c.0
        gone c j a (no e) = c.1 j e ∙ below-lowest 32 word j (omega (arith, e))

-- ---- the search

module _ (counts dues : List ℕ) where
  -- threads that have nothing pending change nothing
  skipped : (i k : ℕ) → i ≤ k → ((j : ℕ) → i ≤ j → j < k → get_or counts j 0 ≡ 0) → next_due counts dues k ≡ next_due counts dues i
  unfolding next_due
  skipped i zero l h = let e : i ≡ 0 = omega arith in rw e
  skipped i (suc k) l h = go (ℕ_discrete i (suc k)) (λ m. skipped i k m (λ j a b. h j a (omega arith)))
    where
      go : Dec (i ≡ suc k) → (i ≤ k → next_due counts dues k ≡ next_due counts dues i) → next_due counts dues (suc k) ≡ next_due counts dues i
      go (yes e) r = rw e
      go (no e) r = rw (eq-eqb (get_or counts k 0) 0 (h k (omega (arith, e)) (omega arith))) (r (omega (arith, e)))

  -- one that has something is compared
  compared : (k : ℕ) → (get_or counts k 0 ≡ 0 → ⊥) → next_due counts dues (suc k) ≡ sooner k (first_due dues k) (next_due counts dues k)
  unfolding next_due
  compared k z = rw (ne_eqb (get_or counts k 0) 0 z)

  -- nor does one that is not sooner than a best that is not after `earliest`
  ends : (earliest : ℕ) (best : Due) → best.due ≤ earliest → (best.thread ≡ 32 → ⊥)
      → (i : ℕ) → best ≡ next_due counts dues i → (n : ℕ) → i ≤ n → NoneBefore counts dues n earliest → best ≡ next_due counts dues n
  unfolding next_due
  ends earliest best d some i e zero l a = let z : i ≡ 0 = omega arith in rw z at e
  ends earliest best d some i e (suc n) l a =
      go (ℕ_discrete i (suc n)) (ℕ_discrete (get_or counts n 0) 0) (λ m. ends earliest best d some i e n m (λ j b. a j (omega arith)))
    where
      go : Dec (i ≡ suc n) → Dec (get_or counts n 0 ≡ 0) → (i ≤ n → best ≡ next_due counts dues n) → best ≡ next_due counts dues (suc n)
      go (yes z) q r = rw z at e
      go (no z) (yes q) r = rw (eq-eqb (get_or counts n 0) 0 q) (r (omega (arith, z)))
      go (no z) (no q) r =
          let g = r (omega (arith, z)) in
          rw (ne_eqb (get_or counts n 0) 0 q, ← g, ne_eqb best.thread 32 some, le-ltb (first_due dues n) best.due (omega (arith, a n (omega arith) (omega (arith, q)))))

  -- the same of one thread, as the code goes on to the next
  module _ (k : ℕ) (best : Due) (e : best ≡ next_due counts dues k) where
    pub thread-passed : get_or counts k 0 ≡ 0 → best ≡ next_due counts dues (k + 1)
    unfolding next_due
    thread-passed z = rw (add-one k, eq-eqb (get_or counts k 0) 0 z) e

    pub thread-compared : (get_or counts k 0 ≡ 0 → ⊥) → (d : ℕ) (r : Due) → d ≡ first_due dues k → r ≡ sooner k d best → r ≡ next_due counts dues (k + 1)
    thread-compared z d r f g = rw (add-one k) (g ∙ ap (λ (x : ℕ). sooner k x best) f ∙ ap (sooner k (first_due dues k)) e ∙ sym (compared k z))

  -- none was found, since the word names no thread below n
  pub none_found : (n word : ℕ) → n ≤ 32 → PendingWord counts word → n ≤ count_trailing_zeros 32 word → record { due = 0; thread = 32 } ≡ next_due counts dues n
  unfolding next_due
  none_found n word l p h =
      sym (skipped 0 n (omega arith) (passed_over counts word 0 (record { gone = λ j a. absurd (omega arith); there = λ j a b. p j b }) n h l))

-- after some threads: the best so far is theirs, and the word has the others left
pub record Seen (counts dues : List ℕ) (n word : ℕ) (best : Due) : Type 0 where
  pub up_to : ℕ
  pub within : up_to ≤ n
  pub passed : best ≡ next_due counts dues up_to
  pub some : best.thread ≡ 32 → ⊥
  pub left : Rest counts word up_to

module _ (counts dues : List ℕ) (n : ℕ) (small : n ≤ 32) where
  -- the first thread
  pub seen_first : (word first d : ℕ) → PendingWord counts word → first ≡ count_trailing_zeros 32 word → first < n → d ≡ first_due dues first
      → Seen counts dues n (bit_and word (word - 1)) (record { due = d; thread = first })
  unfolding next_due
  seen_first word first d p e l f =
      let r : Rest counts word 0 = record { gone = λ j a. absurd (omega arith); there = λ j a b. p j b } in
      let t : count_trailing_zeros 32 word < 32 = omega arith in
      let none : next_due counts dues first ≡ record { due = 0; thread = 32 } = skipped counts dues 0 first (omega arith) (passed_over counts word 0 r first (omega arith) (omega arith)) in
      let z : get_or counts first 0 ≡ 0 → ⊥ = subst (λ (k : ℕ). get_or counts k 0 ≡ 0 → ⊥) (sym e) (lowest-pending counts word 0 r t) in
      record {
        up_to = suc first;
        within = omega arith;
        passed = sym (compared counts dues first z ∙ ap (sooner first (first_due dues first)) none ∙ ap (λ (x : ℕ). record { due = x; thread = first }) (sym f));
        some = λ q. omega arith;
        left = subst (λ (k : ℕ). Rest counts (bit_and word (word - 1)) (suc k)) (sym e) (rest-after counts word 0 r t);
      }

  module _ (word : ℕ) (best : Due) (s : Seen counts dues n word best) where
    -- a thread more
    pub seen_next : (k d : ℕ) (x : Due) → k ≡ count_trailing_zeros 32 word → k < n → d ≡ first_due dues k → x ≡ cond (ltb d best.due) (record { due = d; thread = k }) best
        → Seen counts dues n (bit_and word (word - 1)) x
    seen_next k d x e l f g =
        let t : count_trailing_zeros 32 word < 32 = omega arith in
        let low : s.up_to ≤ k = omega (arith, lowest-left counts word s.up_to s.left t) in
        let same : next_due counts dues k ≡ best = skipped counts dues s.up_to k low (passed_over counts word s.up_to s.left k (omega arith) (omega arith)) ∙ sym s.passed in
        let z : get_or counts k 0 ≡ 0 → ⊥ = subst (λ (k : ℕ). get_or counts k 0 ≡ 0 → ⊥) (sym e) (lowest-pending counts word s.up_to s.left t) in
        let h : sooner k (first_due dues k) best ≡ cond (ltb (first_due dues k) best.due) (record { due = first_due dues k; thread = k }) best = rw (ne_eqb best.thread 32 s.some) in
        let w : cond (ltb d best.due) (record { due = d; thread = k }) best ≡ cond (ltb (first_due dues k) best.due) (record { due = first_due dues k; thread = k }) best =
        ap (λ (y : ℕ). cond (ltb y best.due) (record { due = y; thread = k }) best) f in
        record {
          up_to = suc k;
          within = omega arith;
          passed = g ∙ w ∙ sym (compared counts dues k z ∙ ap (sooner k (first_due dues k)) same ∙ h);
          some = λ q. one (ltb d best.due) (ap (λ (y : Due). y.thread) (sym g) ∙ q);
          left = subst (λ (k : ℕ). Rest counts (bit_and word (word - 1)) (suc k)) (sym e) (rest-after counts word s.up_to s.left t);
        }
      where
        one : (b : Bool) → (cond b (record { due = d; thread = k }) best).thread ≡ 32 → ⊥
        one true q = omega arith
        one false q = s.some q

    -- no thread is left
    pub seen_all : n ≤ count_trailing_zeros 32 word → best ≡ next_due counts dues n
    seen_all l = s.passed ∙ sym (skipped counts dues s.up_to n s.within (passed_over counts word s.up_to s.left n l small))

    -- none is sooner than a best that is not after `earliest`
    pub seen-enough : (earliest : ℕ) → best.due ≤ earliest → NoneBefore counts dues n earliest → best ≡ next_due counts dues n
    seen-enough earliest d a = ends counts dues earliest best d s.some s.up_to s.passed n s.within a

-- ---- the word where a count changed

module _ (word i : ℕ) where
  -- the bit of thread i set, and then taken off: the others are as they were
  with-own : digit i (bit_or word (2 ^ i)) ≡ 1
  with-own = or-digit i word (2 ^ i) ∙ omega (arith, power-own i, digit-small i word)

  with-other : (j : ℕ) → (j ≡ i → ⊥) → digit j (bit_or word (2 ^ i)) ≡ digit j word
  with-other j n = or-digit j word (2 ^ i) ∙ omega (arith, power-other i j n)

  without-own : digit i (bit_xor (bit_or word (2 ^ i)) (2 ^ i)) ≡ 0
  without-own = xor-digit i (bit_or word (2 ^ i)) (2 ^ i) ∙ rw (with-own, power-own i)

  differ-none : (x : ℕ) → differ x 0 ≡ x
  differ-none zero = refl
  differ-none (suc x) = refl

  without_other : (j : ℕ) → (j ≡ i → ⊥) → digit j (bit_xor (bit_or word (2 ^ i)) (2 ^ i)) ≡ digit j word
  without_other j n = xor-digit j (bit_or word (2 ^ i)) (2 ^ i) ∙ rw (with-other j n, power-other i j n) (differ-none (digit j word))

  -- a word that differs in that bit alone
  changed : (count r : ℕ) → digit i r ≡ cond (eqb count 0) 0 1 → ((j : ℕ) → (j ≡ i → ⊥) → digit j r ≡ digit j word) → WordAfter word i count r
  changed count r own others counts l p j m = go (ℕ_discrete j i)
    where
      go : Dec (j ≡ i) → digit j r ≡ pending_digit (set counts i count) j
      go (yes e) = rw (e, get_or-set_same counts i count 0 l) own
      go (no e) = rw (get_or-set_other counts i j count 0 e) (others j e ∙ p j m)

  pub word-with : (count : ℕ) → (count ≡ 0 → ⊥) → WordAfter word i count (bit_or word (2 ^ i))
  word-with count z = changed count (bit_or word (2 ^ i)) (with-own ∙ rw (ne_eqb count 0 z)) with-other

  pub word-without : (count : ℕ) → count ≡ 0 → WordAfter word i count (bit_xor (bit_or word (2 ^ i)) (2 ^ i))
  word-without count z = changed count (bit_xor (bit_or word (2 ^ i)) (2 ^ i)) (without-own ∙ rw (eq-eqb count 0 z)) without_other

-- ---- the threads below n alone

taken-below : (n j : ℕ) (xs : List ℕ) → j < n → get_or (take n xs) j 0 ≡ get_or xs j 0
taken-below zero j xs l = absurd (omega arith)
taken-below (suc n) j [] l = refl
taken-below (suc n) zero (x ∷ xs) l = refl
taken-below (suc n) (suc j) (x ∷ xs) l = taken-below n j xs (omega arith)

taken-above : (n j : ℕ) (xs : List ℕ) → n ≤ j → get_or (take n xs) j 0 ≡ 0
taken-above zero j xs l = refl
taken-above (suc n) j [] l = refl
taken-above (suc n) zero (x ∷ xs) l = absurd (omega arith)
taken-above (suc n) (suc j) (x ∷ xs) l = taken-above n j xs (omega arith)

-- where the threads from n on have nothing pending, the search may go on to the last
pub all-threads : (counts dues : List ℕ) (n : ℕ) → n ≤ 32 → ((j : ℕ) → n ≤ j → j < 32 → get_or counts j 0 ≡ 0) → next_due counts dues 32 ≡ next_due counts dues n
all-threads counts dues n l h = skipped counts dues n 32 l h

module _ (counts : List ℕ) (n : ℕ) where
  pub below_word : (word : ℕ) → PendingWord counts word → PendingWord (take n counts) (bit_and word (2 ^ n - 1))
  below_word word p j m = go (ltb j n) refl
    where
      go : (b : Bool) → ltb j n ≡ b → digit j (bit_and word (2 ^ n - 1)) ≡ pending_digit (take n counts) j
      go true e =
          let l = ltb-true j n e in
          rw (taken-below n j counts l) (and-digit j word (2 ^ n - 1) ∙ omega (arith, ones_below n j l, digit-small j word) ∙ p j m)
      go false e =
          let l = ltb-false j n e in
          rw (taken-above n j counts l) (and-digit j word (2 ^ n - 1) ∙ omega (arith, ones_above n j l))

  pub below-due : (dues : List ℕ) → n ≤ 32 → next_due (take n counts) dues 32 ≡ next_due counts dues n
  below-due dues l =
      all-threads (take n counts) dues n l (λ j a b. taken-above n j counts a)
      ∙ others-dont-matter (take n counts) dues counts dues n (λ i h. record { pending = ap (λ (x : ℕ). eqb x 0) (taken-below n i counts h); first = λ c. refl })

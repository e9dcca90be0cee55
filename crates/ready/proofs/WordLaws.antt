-- The occupancy word: where one list's length changes, its bits, and the highest list from its leading zeros.
use mathlib.Core.Path.{◌≡◌, refl, sym, ap, ap₂, ◌∙◌}
use mathlib.Core.List.{List}
use mathlib.Core.Bool.{Bool, true, false, cond}
use Prim.Native.Nat.{ℕ, zero, suc, ◌+◌, ◌-◌, ◌*◌, ◌/◌, ◌%◌, ◌^◌, ◌≤◌, ◌<◌}
use native.Mathlib.Nat.{pow-suc, div-eq_of_lt, add-div_right, add-mul-div_right}
use native.Mathlib.Omega.{arith}
use native.Mathlib.Decide.{ℕ_discrete}
use lib.Pow.{pow_pos, pow-add}
use lib.Count.{leading_unique}
use lib.Dec.{eqb}
use borrow.Author.Tests.{eq-eqb, ne_eqb, eqb-true, eqb-false}
use Rattle.ready.specs.Word.{BitsAreLists, word_of, size_at, occupancy, highest_of, highest_list}

pub word_lt : (n : ℕ) (f : ℕ → ℕ) → word_of n f < 2 ^ n
unfolding word_of
word_lt zero f = omega arith
word_lt (suc n) f = go (eqb (f (suc n)) 0) (word_lt n f)
  where
    go : (b : Bool) → word_of n f < 2 ^ n → word_of n f + cond b 0 (2 ^ n) < 2 ^ suc n
    go true h = omega (arith, pow-suc 2 n)
    go false h = omega (arith, pow-suc 2 n)

-- one list more
module _ (k : ℕ) (f : ℕ → ℕ) where
  pub word-step : (f (suc k) ≡ 0 → ⊥) → word_of (suc k) f ≡ word_of k f + 2 ^ k
  unfolding word_of
  word-step h = simp (ne_eqb (f (suc k)) 0 h)

  pub word-skip : f (suc k) ≡ 0 → word_of (suc k) f ≡ word_of k f
  unfolding word_of
  word-skip e = simp (eq-eqb (f (suc k)) 0 e) (omega arith)

pub occupancy-lt : (l : List ℕ) → occupancy l < 4294967296
unfolding occupancy
occupancy-lt l = word_lt 32 (size_at l)

-- lists that hold a thread alike have one word
pub word_same : (n : ℕ) (f g : ℕ → ℕ) → ((p : ℕ) → 1 ≤ p → p ≤ n → eqb (g p) 0 ≡ eqb (f p) 0) → word_of n g ≡ word_of n f
unfolding word_of
word_same zero f g h = refl
word_same (suc n) f g h =
    ap₂ (λ (w : ℕ) (b : Bool). w + cond b 0 (2 ^ n)) (word_same n f g (λ p lo hi. h p lo (omega arith))) (h (suc n) (omega arith) (omega arith))

-- list p, empty before, holds a thread
pub word-fill : (n : ℕ) (f g : ℕ → ℕ) (p : ℕ) → 1 ≤ p → p ≤ n → f p ≡ 0 → 0 < g p → ((q : ℕ) → 1 ≤ q → (q ≡ p → ⊥) → g q ≡ f q)
    → word_of n g ≡ word_of n f + 2 ^ (p - 1)
unfolding word_of
word-fill zero f g p lo hi e h s = absurd (omega arith)
word-fill (suc n) f g p lo hi e h s = go (ℕ_discrete p (suc n)) (λ l. word-fill n f g p lo l e h s)
  where
    go : Dec (p ≡ suc n) → (p ≤ n → word_of n g ≡ word_of n f + 2 ^ (p - 1))
        → word_of n g + cond (eqb (g (suc n)) 0) 0 (2 ^ n) ≡ word_of n f + cond (eqb (f (suc n)) 0) 0 (2 ^ n) + 2 ^ (p - 1)
    go (yes q) k =
        let r : p - 1 ≡ n = omega arith in
        let same = word_same n f g (λ c l u. ap (λ (x : ℕ). eqb x 0) (s c l (λ z. omega arith))) in
        rw (r, eq-eqb (f (suc n)) 0 (rw (← q) e), ne_eqb (g (suc n)) 0 (λ z. let y : 0 < g (suc n) = rw q at h in omega arith), same) (omega arith)
    go (no q) k = rw (s (suc n) (omega arith) (λ z. q (sym z))) (omega (arith, k (omega arith)))

-- lists that hold no thread have the word 0
pub word_none : (n : ℕ) (f : ℕ → ℕ) → ((p : ℕ) → 1 ≤ p → p ≤ n → f p ≡ 0) → word_of n f ≡ 0
unfolding word_of
word_none zero f h = refl
word_none (suc n) f h =
    rw (eq-eqb (f (suc n)) 0 (h (suc n) (omega arith) (omega arith)), word_none n f (λ p lo hi. h p lo (omega arith)))

-- ---- the bits

-- bit k of the word
bit : (n k : ℕ) (f : ℕ → ℕ) → k < n → word_of n f / 2 ^ k % 2 ≡ cond (eqb (f (suc k)) 0) 0 1
unfolding word_of
bit zero k f h = absurd (omega arith)
bit (suc n) k f h = go (ℕ_discrete k n) (λ l. bit n k f l)
  where
    last : (b : Bool) → (word_of n f + cond b 0 (2 ^ n)) / 2 ^ n % 2 ≡ cond b 0 1
    last true = let z : word_of n f + 0 ≡ word_of n f = omega arith in rw (z, div-eq_of_lt (word_lt n f))
    last false = rw (add-div_right (word_of n f) (pow_pos n), div-eq_of_lt (word_lt n f))

    lower : (b : Bool) → k < n → (word_of n f + cond b 0 (2 ^ n)) / 2 ^ k % 2 ≡ word_of n f / 2 ^ k % 2
    lower true l = let z : word_of n f + 0 ≡ word_of n f = omega arith in rw z
    lower false l =
        let j = n - 1 - k in
        let e : n ≡ suc j + k = omega arith in
        let m : 2 ^ n ≡ 2 ^ j * 2 * 2 ^ k = ap (λ (x : ℕ). 2 ^ x) e ∙ pow-add 2 (suc j) k ∙ ap (λ (x : ℕ). x * 2 ^ k) (pow-suc 2 j) in
        rw (m, add-mul-div_right (word_of n f) (2 ^ j * 2) (pow_pos k)) (omega arith)

    go : Dec (k ≡ n) → (k < n → word_of n f / 2 ^ k % 2 ≡ cond (eqb (f (suc k)) 0) 0 1)
        → (word_of n f + cond (eqb (f (suc n)) 0) 0 (2 ^ n)) / 2 ^ k % 2 ≡ cond (eqb (f (suc k)) 0) 0 1
    go (yes e) r = rw e (last (eqb (f (suc n)) 0))
    go (no d) r = let l : k < n = omega (arith, d) in lower (eqb (f (suc n)) 0) l ∙ r l

pub bits-are-lists : BitsAreLists
unfolding occupancy
bits-are-lists l zero lo hi = absurd (omega arith)
bits-are-lists l (suc k) lo hi =
    let e : suc k - 1 ≡ k = omega arith in
    ap (λ (j : ℕ). word_of 32 (size_at l) / 2 ^ j % 2) e ∙ bit 32 k (size_at l) (omega arith)

-- ---- the highest list

record Top (w m n : ℕ) : Type 0 where
  above : w < 2 ^ m
  within : 2 ^ m ≤ 2 * w + 1
  range : m ≤ n

-- the word's length in binary digits is the number of the highest list that holds a thread
top : (n : ℕ) (f : ℕ → ℕ) → Top (word_of n f) (highest_list n f) n
unfolding word_of highest_list
top zero f = record { above = omega arith; within = omega arith; range = omega arith }
top (suc n) f = go (eqb (f (suc n)) 0) (top n f)
  where
    go : (b : Bool) → Top (word_of n f) (highest_list n f) n → Top (word_of n f + cond b 0 (2 ^ n)) (cond b (highest_list n f) (suc n)) (suc n)
    go true h = record { above = omega (arith, h.above); within = omega (arith, h.within); range = omega (arith, h.range) }
    go false h =
        let w = word_lt n f in
        record { above = omega (arith, pow-suc 2 n); within = omega (arith, pow-suc 2 n); range = omega arith }

-- 01 State 4: the highest list is found from the word's leading zeros
pub highest-leading : (l : List ℕ) → highest_of (occupancy l) ≡ highest_list 32 (size_at l)
unfolding occupancy
highest-leading l =
    let h = top 32 (size_at l) in
    let m = highest_list 32 (size_at l) in
    omega (arith, h.range, leading_unique 32 (word_of 32 (size_at l)) (32 - m) m (omega (arith, h.range)) h.above h.within)

-- it is 0 exactly where the word is
module _ (l : List ℕ) where
  pub highest-pos : (occupancy l ≡ 0 → ⊥) → 0 < highest_list 32 (size_at l)
  unfolding occupancy
  highest-pos d = go (highest_list 32 (size_at l)) (top 32 (size_at l))
    where
      go : (m : ℕ) → Top (word_of 32 (size_at l)) m 32 → 0 < m
      go zero h = absurd (d (omega (arith, h.above)))
      go (suc m) h = omega arith

  pub highest-zero : occupancy l ≡ 0 → highest_list 32 (size_at l) ≡ 0
  unfolding occupancy
  highest-zero e = go (highest_list 32 (size_at l)) (top 32 (size_at l))
    where
      go : (m : ℕ) → Top (word_of 32 (size_at l)) m 32 → m ≡ 0
      go zero h = refl
      go (suc m) h = absurd (omega (arith, h.within, pow-suc 2 m, pow_pos m))

-- what `highest_list` says: it holds a thread, and no list above it does
pub record Highest (n : ℕ) (sizes : ℕ → ℕ) (m : ℕ) : Type 0 where
  pub range : m ≤ n
  pub held : 0 < m → 0 < sizes m
  pub empty : (p : ℕ) → m < p → p ≤ n → sizes p ≡ 0

pub highest-list : (n : ℕ) (f : ℕ → ℕ) → Highest n f (highest_list n f)
unfolding highest_list
highest-list zero f = record { range = omega arith; held = λ h. absurd (omega arith); empty = λ p a b. absurd (omega arith) }
highest-list (suc n) f = go (eqb (f (suc n)) 0) refl (highest-list n f)
  where
    go : (b : Bool) → eqb (f (suc n)) 0 ≡ b → Highest n f (highest_list n f) → Highest (suc n) f (cond b (highest_list n f) (suc n))
    go true e h =
        record {
          range = omega (arith, h.range);
          held = h.held;
          empty = λ p a b. at p a b (ℕ_discrete p (suc n));
        }
      where
        at : (p : ℕ) → highest_list n f < p → p ≤ suc n → Dec (p ≡ suc n) → f p ≡ 0
        at p a b (yes q) = rw q (eqb-true _ _ e)
        at p a b (no q) = h.empty p a (omega arith)
    go false e h =
        record {
          range = omega arith;
          held = λ g. omega (arith, eqb-false (f (suc n)) 0 e);
          empty = λ p a b. absurd (omega arith);
        }

-- The binary digits of a word: its lowest one that is set, the word without it, one more above all others, and the bit operations.
use Prim.Native.Nat.{ℕ, zero, suc, ◌+◌, ◌-◌, ◌*◌, ◌/◌, ◌%◌, ◌^◌, ◌≤◌, ◌<◌, min, max}
use mathlib.Core.Path.{◌≡◌, refl, sym, ap, ◌∙◌}
use native.Mathlib.Nat.{pow-suc, pow-le-pow_right}
use native.Mathlib.Omega.{arith}
use lib.Pow.{pow_pos}
use lib.Bits.{bit_and, bit_or, bit_xor, differ, and_step, or_step, xor_step, and_self}
use lib.Count.{under, count_trailing_zeros, trailing_of_zero}
use Rattle.due_search.specs.Word.{digit}

-- no digit below the trailing zeros is set
pub below-lowest : (k w j : ℕ) → j < count_trailing_zeros k w → digit j w ≡ 0
unfolding digit count_trailing_zeros
below-lowest zero w j l = absurd (omega arith)
below-lowest (suc k) w j l = go (w % 2) refl j l (below-lowest k (w / 2))
  where
    go : (d : ℕ) → w % 2 ≡ d → (j : ℕ) → j < under d (count_trailing_zeros k (w / 2)) → ((j : ℕ) → j < count_trailing_zeros k (w / 2) → digit j (w / 2) ≡ 0) → digit j w ≡ 0
    go zero e zero l r = e
    go zero e (suc j) l r = r j (omega arith)
    go (suc d) e j l r = absurd (omega arith)

-- the one above them is
pub lowest_set : (k w : ℕ) → count_trailing_zeros k w < k → digit (count_trailing_zeros k w) w ≡ 1
unfolding digit count_trailing_zeros
lowest_set zero w l = absurd (omega arith)
lowest_set (suc k) w l = go (w % 2) refl l (lowest_set k (w / 2))
  where
    go : (d : ℕ) → w % 2 ≡ d → under d (count_trailing_zeros k (w / 2)) < suc k → (count_trailing_zeros k (w / 2) < k → digit (count_trailing_zeros k (w / 2)) (w / 2) ≡ 1)
        → digit (under d (count_trailing_zeros k (w / 2))) w ≡ 1
    go zero e l r = r (omega arith)
    go (suc d) e l r = omega arith

-- a word with such a digit isn't 0
pub some-set : (k w : ℕ) → count_trailing_zeros k w < k → 0 < w
some-set k zero l = absurd (omega (arith, trailing_of_zero k))
some-set k (suc w) l = omega arith

-- a number's half and its lowest digit
halves : (x b m : ℕ) → x ≡ b * 2 + m → m < 2 → (x / 2 ≡ b) × (x % 2 ≡ m)
halves x b m e l = (omega arith, omega arith)

-- the word without its lowest digit: that one is gone, and every other is as it was
pub cleared : (k w : ℕ) → count_trailing_zeros k w < k
    → (digit (count_trailing_zeros k w) (bit_and w (w - 1)) ≡ 0) × ((j : ℕ) → (j ≡ count_trailing_zeros k w → ⊥) → digit j (bit_and w (w - 1)) ≡ digit j w)
unfolding digit count_trailing_zeros
cleared zero w l = absurd (omega arith)
cleared (suc k) w l = go (w % 2) refl l (some-set (suc k) w l) (cleared k (w / 2))
  where
    go : (d : ℕ) → w % 2 ≡ d → under d (count_trailing_zeros k (w / 2)) < suc k → 0 < w
        → (count_trailing_zeros k (w / 2) < k → (digit (count_trailing_zeros k (w / 2)) (bit_and (w / 2) (w / 2 - 1)) ≡ 0)
        × ((j : ℕ) → (j ≡ count_trailing_zeros k (w / 2) → ⊥) → digit j (bit_and (w / 2) (w / 2 - 1)) ≡ digit j (w / 2)))
        → (digit (under d (count_trailing_zeros k (w / 2))) (bit_and w (w - 1)) ≡ 0)
        × ((j : ℕ) → (j ≡ under d (count_trailing_zeros k (w / 2)) → ⊥) → digit j (bit_and w (w - 1)) ≡ digit j w)
    go zero e l p r =
        let h : (w - 1) / 2 ≡ w / 2 - 1 = omega arith in
        let m : min (w % 2) ((w - 1) % 2) ≡ 0 = omega arith in
        let s = halves (bit_and w (w - 1)) (bit_and (w / 2) (w / 2 - 1)) 0
        (and_step w (w - 1) ∙ ap (λ (x : ℕ). bit_and (w / 2) x * 2 + min (w % 2) ((w - 1) % 2)) h ∙ ap (λ (x : ℕ). bit_and (w / 2) (w / 2 - 1) * 2 + x) m) (omega arith) in
        let q = r (omega arith) in
        (rw (digit, s.0) q.0, others s q)
      where
        others : (bit_and w (w - 1) / 2 ≡ bit_and (w / 2) (w / 2 - 1)) × (bit_and w (w - 1) % 2 ≡ 0)
            → (digit (count_trailing_zeros k (w / 2)) (bit_and (w / 2) (w / 2 - 1)) ≡ 0)
            × ((j : ℕ) → (j ≡ count_trailing_zeros k (w / 2) → ⊥) → digit j (bit_and (w / 2) (w / 2 - 1)) ≡ digit j (w / 2))
            → (j : ℕ) → (j ≡ suc (count_trailing_zeros k (w / 2)) → ⊥) → digit j (bit_and w (w - 1)) ≡ digit j w
        others s q zero n = s.1 ∙ sym e
        others s q (suc j) n = rw s.0 (q.1 j (λ x. n (ap suc x)))
    go (suc d) e l p r =
        let h : (w - 1) / 2 ≡ w / 2 = omega arith in
        let m : min (w % 2) ((w - 1) % 2) ≡ 0 = omega arith in
        let s = halves (bit_and w (w - 1)) (w / 2) 0
        (and_step w (w - 1) ∙ ap (λ (x : ℕ). bit_and (w / 2) x * 2 + min (w % 2) ((w - 1) % 2)) h ∙ ap (λ (x : ℕ). bit_and (w / 2) (w / 2) * 2 + x) m
        ∙ ap (λ (x : ℕ). x * 2 + 0) (and_self (w / 2))) (omega arith) in
        (s.1, others s)
      where
        others : (bit_and w (w - 1) / 2 ≡ w / 2) × (bit_and w (w - 1) % 2 ≡ 0) → (j : ℕ) → (j ≡ 0 → ⊥) → digit j (bit_and w (w - 1)) ≡ digit j w
        others s zero n = absurd (n refl)
        others s (suc j) n = rw s.0

-- a digit more above the others: that one is set, and every other is as it was
pub raised : (i w : ℕ) → w < 2 ^ i → (digit i (w + 2 ^ i) ≡ 1) × ((j : ℕ) → (j ≡ i → ⊥) → digit j (w + 2 ^ i) ≡ digit j w)
unfolding digit
raised zero w l = (omega arith, others)
  where
    others : (j : ℕ) → (j ≡ 0 → ⊥) → digit j (w + 2 ^ 0) ≡ digit j w
    others zero n = absurd (n refl)
    others (suc j) n = let e : (w + 2 ^ 0) / 2 ≡ w / 2 = omega arith in rw e
raised (suc i) w l =
    let q = raised i (w / 2) (omega (arith, pow-suc 2 i)) in
    let e : (w + 2 ^ suc i) / 2 ≡ w / 2 + 2 ^ i = omega (arith, pow-suc 2 i) in
    (rw e q.0, others e q.1)
  where
    others : (w + 2 ^ suc i) / 2 ≡ w / 2 + 2 ^ i → ((j : ℕ) → (j ≡ i → ⊥) → digit j (w / 2 + 2 ^ i) ≡ digit j (w / 2))
        → (j : ℕ) → (j ≡ suc i → ⊥) → digit j (w + 2 ^ suc i) ≡ digit j w
    others e q zero n = omega (arith, pow-suc 2 i)
    others e q (suc j) n = rw e (q j (λ x. n (ap suc x)))

-- none is set above a word's length
pub above-length : (i w : ℕ) → w < 2 ^ i → digit i w ≡ 0
unfolding digit
above-length zero w l = omega arith
above-length (suc i) w l = above-length i (w / 2) (omega (arith, pow-suc 2 i))

-- a word that isn't 0 has a digit that is set
pub set-within : (k w : ℕ) → w < 2 ^ k → 0 < w → count_trailing_zeros k w < k
unfolding count_trailing_zeros
set-within zero w l p = absurd (omega arith)
set-within (suc k) w l p = go (w % 2) refl (set-within k (w / 2) (omega (arith, pow-suc 2 k)))
  where
    go : (d : ℕ) → w % 2 ≡ d → (0 < w / 2 → count_trailing_zeros k (w / 2) < k) → under d (count_trailing_zeros k (w / 2)) < suc k
    go zero e r = omega (arith, r (omega arith))
    go (suc d) e r = omega arith

-- ---- the bit operations, digit by digit

small : (x : ℕ) → x % 2 < 2
small x = omega arith

-- the lowest digit is that of the operation, and the others are those of the halves
or-halves : (a b : ℕ) → (bit_or a b / 2 ≡ bit_or (a / 2) (b / 2)) × (bit_or a b % 2 ≡ max (a % 2) (b % 2))
or-halves a b = halves (bit_or a b) (bit_or (a / 2) (b / 2)) (max (a % 2) (b % 2)) (or_step a b) (omega (arith, small a, small b))

and-halves : (a b : ℕ) → (bit_and a b / 2 ≡ bit_and (a / 2) (b / 2)) × (bit_and a b % 2 ≡ min (a % 2) (b % 2))
and-halves a b = halves (bit_and a b) (bit_and (a / 2) (b / 2)) (min (a % 2) (b % 2)) (and_step a b) (omega (arith, small a, small b))

differ-small : (x y : ℕ) → x < 2 → y < 2 → differ x y < 2
differ-small zero y a b = b
differ-small (suc zero) zero a b = omega arith
differ-small (suc zero) (suc zero) a b = omega arith
differ-small (suc zero) (suc (suc y)) a b = absurd (omega arith)
differ-small (suc (suc x)) y a b = absurd (omega arith)

xor-halves : (a b : ℕ) → (bit_xor a b / 2 ≡ bit_xor (a / 2) (b / 2)) × (bit_xor a b % 2 ≡ differ (a % 2) (b % 2))
xor-halves a b = halves (bit_xor a b) (bit_xor (a / 2) (b / 2)) (differ (a % 2) (b % 2)) (xor_step a b) (differ-small (a % 2) (b % 2) (small a) (small b))

pub or-digit : (j a b : ℕ) → digit j (bit_or a b) ≡ max (digit j a) (digit j b)
unfolding digit
or-digit zero a b = (or-halves a b).1
or-digit (suc j) a b = ap (digit j) (or-halves a b).0 ∙ or-digit j (a / 2) (b / 2)

pub and-digit : (j a b : ℕ) → digit j (bit_and a b) ≡ min (digit j a) (digit j b)
unfolding digit
and-digit zero a b = (and-halves a b).1
and-digit (suc j) a b = ap (digit j) (and-halves a b).0 ∙ and-digit j (a / 2) (b / 2)

pub xor-digit : (j a b : ℕ) → digit j (bit_xor a b) ≡ differ (digit j a) (digit j b)
unfolding digit
xor-digit zero a b = (xor-halves a b).1
xor-digit (suc j) a b = ap (digit j) (xor-halves a b).0 ∙ xor-digit j (a / 2) (b / 2)

pub digit-small : (j w : ℕ) → digit j w < 2
unfolding digit
digit-small zero w = small w
digit-small (suc j) w = digit-small j (w / 2)

-- the digits of a power of two
pub power-own : (i : ℕ) → digit i (2 ^ i) ≡ 1
power-own i = let e : 0 + 2 ^ i ≡ 2 ^ i = omega arith in rw e at (raised i 0 (pow_pos i)).0

pub power-other : (i j : ℕ) → (j ≡ i → ⊥) → digit j (2 ^ i) ≡ 0
power-other i j n = let e : 0 + 2 ^ i ≡ 2 ^ i = omega arith in rw e at ((raised i 0 (pow_pos i)).1 j n ∙ above-length j 0 (pow_pos j))

-- those of the threads below n
pub ones_below : (n j : ℕ) → j < n → digit j (2 ^ n - 1) ≡ 1
unfolding digit
ones_below zero j l = absurd (omega arith)
ones_below (suc n) zero l = omega (arith, pow-suc 2 n, pow_pos n)
ones_below (suc n) (suc j) l = let e : (2 ^ suc n - 1) / 2 ≡ 2 ^ n - 1 = omega (arith, pow-suc 2 n, pow_pos n) in rw e (ones_below n j (omega arith))

pub ones_above : (n j : ℕ) → n ≤ j → digit j (2 ^ n - 1) ≡ 0
ones_above n j l = above-length j (2 ^ n - 1) (omega (arith, pow_pos n, pow-le-pow_right {n = 2} (omega arith) {i = n} {j = j} l))

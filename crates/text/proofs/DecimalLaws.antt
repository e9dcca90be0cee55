-- Decimal digits: how they grow, how many there are, that they read back, and that no zero leads.
use Prim.Native.Nat.{ℕ, zero, suc, ◌+◌, ◌*◌, ◌-◌, ◌/◌, ◌%◌, ◌^◌, ◌≤◌, ◌<◌}
use mathlib.Core.Path.{◌≡◌, refl, ap, sym, ◌∙◌}
use mathlib.Core.Bool.{Bool, true, false}
use mathlib.Core.List.{List, [], ◌∷◌, ◌++◌}
use native.Mathlib.Omega.{arith}
use native.Mathlib.Nat.{div-lt_iff_lt-mul, div-add-mod', pow-suc}
use borrow.Author.Tests.{lt-ltb, le-ltb, ltb-true, ltb-false}
use lib.Dec.{ltb}
use lib.ListN.{length, get_or, length-append, get_or-append}
use Rattle.text.specs.Decimal.{digits, decimal, read_from, ReadsBack, NoLeadingZero, DigitsFit}

-- one digit, or more
by_size : {A : Type 0} (n : ℕ) → (n < 10 → A) → (10 ≤ n → A) → A
by_size {A} n f g = go (ltb n 10) refl
  where
    go : (b : Bool) → ltb n 10 ≡ b → A
    go true e = f (ltb-true n 10 e)
    go false e = g (ltb-false n 10 e)

small-digits : (k n : ℕ) → n < 10 → digits (suc k) n ≡ (48 + n) ∷ []
unfolding digits
small-digits k n h = rw (lt-ltb n 10 h)

large-digits : (k n : ℕ) → 10 ≤ n → digits (suc k) n ≡ digits k (n / 10) ++ ((48 + n % 10) ∷ [])
unfolding digits
large-digits k n h = rw (le-ltb n 10 h)

-- any k above n gives the same digits
enough : (k m n : ℕ) → n < k → n < m → digits k n ≡ digits m n
enough zero m n h g = absurd (omega arith)
enough (suc k) zero n h g = absurd (omega arith)
enough (suc k) (suc m) n h g =
    by_size n
    (λ l. small-digits k n l ∙ sym (small-digits m n l))
    (λ l.
    large-digits k n l
    ∙ ap (λ (ds : List ℕ). ds ++ ((48 + n % 10) ∷ [])) (enough k m (n / 10) (omega arith) (omega arith))
    ∙ sym (large-digits m n l))

-- a number below 10 has one digit
pub small : (n : ℕ) → n < 10 → decimal n ≡ (48 + n) ∷ []
unfolding decimal
small n h = small-digits n n h

-- any other has one more than its tenth
pub large : (n : ℕ) → 10 ≤ n → decimal n ≡ decimal (n / 10) ++ ((48 + n % 10) ∷ [])
unfolding decimal
large n h =
    large-digits n n h
    ∙ ap (λ (ds : List ℕ). ds ++ ((48 + n % 10) ∷ [])) (enough n (suc (n / 10)) (n / 10) (omega arith) (omega arith))

pub longer : (n : ℕ) → 10 ≤ n → length (decimal n) ≡ length (decimal (n / 10)) + 1
longer n h = ap length (large n h) ∙ simp length-append

-- what holds of one digit, and with each further digit, holds of every number's digits
module _ (P : ℕ → List ℕ → Type 0) (one : (n : ℕ) → n < 10 → P n ((48 + n) ∷ []))
    (more : (n : ℕ) → 10 ≤ n → P (n / 10) (decimal (n / 10)) → P n (decimal (n / 10) ++ ((48 + n % 10) ∷ []))) where
  below : (k n : ℕ) → n < k → P n (decimal n)
  below zero n h = absurd (omega arith)
  below (suc k) n h = by_size n (λ l. rw (small n l) (one n l)) (λ l. rw (large n l) (more n l (below k (n / 10) (omega arith))))

  pub every : (n : ℕ) → P n (decimal n)
  every n = below (suc n) n (omega arith)

-- at most k digits below 10 ^ k
tenth : (k n : ℕ) → n < 10 ^ suc k → n / 10 < 10 ^ k
tenth k n h = (div-lt_iff_lt-mul {k = 10} (omega arith)).1 (rw pow-suc at h)

pub digits-fit : DigitsFit
digits-fit zero n p h = absurd (omega arith)
digits-fit (suc zero) n p h = omega (arith, ap length (small n h))
digits-fit (suc (suc k)) n p h =
    by_size n
    (λ l. omega (arith, ap length (small n l)))
    (λ l. omega (arith, longer n l, digits-fit (suc k) (n / 10) (omega arith) (tenth (suc k) n h)))

pub read_more : (a : ℕ) (ds : List ℕ) (d : ℕ) → read_from a (ds ++ (d ∷ [])) ≡ read_from a ds * 10 + (d - 48)
unfolding read_from
read_more a [] d = refl
read_more a (x ∷ ds) d = read_more (a * 10 + (x - 48)) ds d

pub reads-back : ReadsBack
unfolding read_from
reads-back =
    every (λ (n : ℕ) (ds : List ℕ). read_from 0 ds ≡ n)
    (λ n l. omega arith)
    (λ n l e. read_more 0 (decimal (n / 10)) (48 + n % 10) ∙ rw e (omega (arith, div-add-mod' n 10)))

pub no-leading-zero : NoLeadingZero
no-leading-zero =
    every (λ (n : ℕ) (ds : List ℕ). 0 < n → 48 < get_or ds 0 0)
    (λ n l p. omega arith)
    (λ n l h p. rw (get_or-append (decimal (n / 10)) ((48 + n % 10) ∷ []) 0 0 (some (n / 10))) (h (omega arith)))
  where
    some : (n : ℕ) → 0 < length (decimal n)
    some = every (λ (n : ℕ) (ds : List ℕ). 0 < length ds) (λ n l. omega arith) (λ n l h. rw length-append (omega arith))

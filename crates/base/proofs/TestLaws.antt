-- What a list of tests says, and how each of its tests follows from it.
use Prim.Native.Nat.{ℕ, zero, suc, ◌<◌, ◌≤◌}
use mathlib.Core.Bool.{Bool, true, false, cond}
use mathlib.Core.Path.{◌≡◌, refl, sym, ap₂}
use mathlib.Core.List.{List, [], ◌∷◌, ◌++◌}
use lib.ListN.{length, get_or, drop, replicate}
use lib.Dec.{leb}
use native.Mathlib.Omega.{arith}
use native.Mathlib.Nat.{not-le_of_lt, lt_of_not-le}
use native.Mathlib.Decide.{ℕ_discrete}
use borrow.Author.Tests.{ltb-true, leb-true, eqb-true, lt-ltb, le-leb, lt-leb, eq-eqb, ltb-false, leb-false}
use Rattle.base.specs.Tests.{all, below, zeros}

-- for omega: a test from the fact and the fact from the test
pub ruleset tests = (arith, ltb-true, leb-true, eqb-true, lt-ltb, le-leb, eq-eqb, ltb-false, leb-false)

-- the same as `all`, as a proposition that omega reads and shows
abbrev pub All : List Bool → Type 0
All [] = Unit {0}
All (b ∷ bs) = (b ≡ true) × All bs

pub false-true : {A : Type 0} → false ≡ true → A
false-true e = let z : ◌≡◌ {A = ℕ} 0 1 = cc in absurd (omega arith)

pub all_true : (bs : List Bool) → all bs ≡ true → All bs
unfolding all
all_true [] e = tt
all_true (true ∷ bs) e = (refl, all_true bs e)
all_true (false ∷ bs) e = false-true e

pub true-all : (bs : List Bool) → All bs → all bs ≡ true
unfolding all
true-all [] h = refl
true-all (true ∷ bs) h = true-all bs h.1
true-all (false ∷ bs) h = h.0

-- one test that is false makes the whole false: the one at place k
pub all-false : (bs : List Bool) (k : ℕ) → get_or bs k true ≡ false → all bs ≡ false
unfolding all
all-false [] k e = e
all-false (true ∷ bs) zero e = false-true (sym e)
all-false (false ∷ bs) zero e = refl
all-false (true ∷ bs) (suc k) e = all-false bs k e
all-false (false ∷ bs) (suc k) e = refl

-- a list of one test is that test
pub all_one : (b : Bool) → cond b true false ≡ b
all_one true = refl
all_one false = refl

pub All-append : (xs ys : List Bool) → All xs → All ys → All (xs ++ ys)
All-append [] ys p q = q
All-append (x ∷ xs) ys p q = (p.0, All-append xs ys p.1 q)

pub All-left : (xs ys : List Bool) → All (xs ++ ys) → All xs
All-left [] ys h = tt
All-left (x ∷ xs) ys h = (h.0, All-left xs ys h.1)

pub All-right : (xs ys : List Bool) → All (xs ++ ys) → All ys
All-right [] ys h = h
All-right (x ∷ xs) ys h = All-right xs ys h.1

-- places not in use: all of them are 0, in a part and after one more
pub zeros-eq : (xs : List ℕ) → All (zeros xs) → xs ≡ replicate (length xs) 0
zeros-eq [] h = refl
zeros-eq (x ∷ xs) h = ap₂ (λ (y : ℕ) (ys : List ℕ). y ∷ ys) (eqb-true x 0 h.0) (zeros-eq xs h.1)

pub zeros-replicate : (n : ℕ) → All (zeros (replicate n 0))
zeros-replicate zero = tt
zeros-replicate (suc n) = (refl, zeros-replicate n)

pub zeros-drop : (n : ℕ) (xs : List ℕ) → All (zeros xs) → All (zeros (drop n xs))
zeros-drop zero xs h = h
zeros-drop (suc n) [] h = tt
zeros-drop (suc n) (x ∷ xs) h = zeros-drop n xs h.1

pub zeros-append : (xs ys : List ℕ) → All (zeros xs) → All (zeros ys) → All (zeros (xs ++ ys))
zeros-append [] ys p q = q
zeros-append (x ∷ xs) ys p q = (p.0, zeros-append xs ys p.1 q)

-- a test of every number below n, at one of them
pub below_at : (n : ℕ) (f : ℕ → Bool) → below n f ≡ true → (i : ℕ) → i < n → f i ≡ true
unfolding below
below_at zero f e i h = absurd (omega arith)
below_at (suc n) f e i h = go (below n f) refl (ℕ_discrete i n) (λ q l. below_at n f q i l)
  where
    go : (b : Bool) → below n f ≡ b → Dec (i ≡ n) → (below n f ≡ true → i < n → f i ≡ true) → f i ≡ true
    go true q (yes p) k = rw p (rw (q, below) at e)
    go true q (no p) k = k q (omega arith)
    go false q d k = false-true (rw (q, below) at e)

pub at-below : (n : ℕ) (f : ℕ → Bool) → ((i : ℕ) → i < n → f i ≡ true) → below n f ≡ true
unfolding below
at-below zero f h = refl
at-below (suc n) f h = rw (at-below n f (λ i q. h i (omega arith)), below) (h n (omega arith))

-- two comparisons that say the same
pub leb-same : (a b c d : ℕ) → (a ≤ b → c ≤ d) → (c ≤ d → a ≤ b) → leb a b ≡ leb c d
leb-same a b c d f g = go (leb a b) refl
  where
    go : (x : Bool) → leb a b ≡ x → x ≡ leb c d
    go true e = sym (le-leb c d (f (leb-true a b e)))
    go false e = sym (lt-leb c d (lt_of_not-le (λ h. not-le_of_lt (leb-false a b e) (g h))))

-- cases of `cond`, for a property of the result
pub cond-elim : {A : Type 0} (P : A → Type 0) (b : Bool) (x y : A) → (b ≡ true → P x) → (b ≡ false → P y) → P (cond b x y)
cond-elim P true x y f g = f refl
cond-elim P false x y f g = g refl

pub cond-true : {A : Type 0} (b : Bool) (x y : A) → b ≡ true → cond b x y ≡ x
cond-true true x y e = refl
cond-true false x y e = false-true e

pub cond-false : {A : Type 0} (b : Bool) (x y : A) → b ≡ false → cond b x y ≡ y
cond-false true x y e = false-true (sym e)
cond-false false x y e = refl

-- a flag that is lowered
pub cond-never : (b : Bool) → cond b false false ≡ false
cond-never true = refl
cond-never false = refl

-- a test that cannot be true, and two that are true together
pub never_true : (b : Bool) → (b ≡ true → ⊥) → b ≡ false
never_true true h = absurd (h refl)
never_true false h = refl

pub same_test : (a b : Bool) → (a ≡ true → b ≡ true) → (b ≡ true → a ≡ true) → a ≡ b
same_test true b f g = sym (f refl)
same_test false b f g = sym (never_true b (λ e. false-true (g e)))

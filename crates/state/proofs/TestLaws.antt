-- Laws of tests: every number below n, the last test of a list, the policies.
use Prim.Native.Nat.{ℕ, ◌+◌, ◌<◌}
use mathlib.Core.Bool.{Bool, true, false, cond, not}
use mathlib.Core.Path.{◌≡◌, refl, sym, ◌∙◌}
use mathlib.Core.List.{List, [], ◌∷◌, ◌++◌}
use lib.Dec.{eqb}
use native.Mathlib.Numerals.{add-one}
use borrow.Author.Tests.{eq-eqb, ne_eqb, eqb-true, eqb-false, not-true, not-false}
use Rattle.base.specs.Tests.{all, below}
use Rattle.base.proofs.TestLaws.{All, false-true, all_one, below_at}

-- the answer r of a function that decides t, in `if !r`
pub decided-true : {t : Bool} (r : Bool) → r ≡ t → not r ≡ false → t ≡ true
decided-true r e f = sym e ∙ not-false r f

pub decided-false : {t : Bool} (r : Bool) → r ≡ t → not r ≡ true → t ≡ false
decided-false r e f = sym e ∙ not-true r f

-- one test after the other
infixr 3 ◌and◌
pub ◌and◌ : {A B : Type 0} → A → B → A × B
p and q = (p, q)

-- the tests of one list and then of another
pub all_append : (xs ys : List Bool) → all (xs ++ ys) ≡ cond (all xs) (all ys) false
unfolding all
all_append [] ys = refl
all_append (true ∷ xs) ys = all_append xs ys
all_append (false ∷ xs) ys = refl

-- where all tests of a list but the last one hold, the last one decides
abbrev pub but_last : List Bool → List Bool
but_last [] = []
but_last (b ∷ []) = []
but_last (b ∷ c ∷ bs) = b ∷ but_last (c ∷ bs)

abbrev pub last : List Bool → Bool
last [] = true
last (b ∷ []) = b
last (b ∷ c ∷ bs) = last (c ∷ bs)

pub all-last : (bs : List Bool) → All (but_last bs) → all bs ≡ last bs
unfolding all
all-last [] h = refl
all-last (b ∷ []) h = all_one b
all-last (true ∷ c ∷ bs) h = all-last (c ∷ bs) h.1
all-last (false ∷ c ∷ bs) h = false-true h.0

-- so a function that answers by the last one decides them all
pub by_last : (bs : List Bool) {r : Bool} → r ≡ last bs → All (but_last bs) → r ≡ all bs
by_last bs e h = e ∙ sym (all-last bs h)

-- a test of every number below i, and then of i
pub below_next : (i : ℕ) (f : ℕ → Bool) → below i f ≡ true → f i ≡ true → below (i + 1) f ≡ true
unfolding below
below_next i f e g = rw (add-one, below) (rw (e, below) g)

pub below_false : (n : ℕ) (f : ℕ → Bool) (i : ℕ) → i < n → f i ≡ false → below n f ≡ false
below_false n f i h e = go (below n f) refl
  where
    go : (b : Bool) → below n f ≡ b → b ≡ false
    go true q = sym (below_at n f q i h) ∙ e
    go false q = refl

-- two comparisons that say the same
pub eqb_same : (a b c d : ℕ) → (a ≡ b → c ≡ d) → (c ≡ d → a ≡ b) → eqb a b ≡ eqb c d
eqb_same a b c d f g = go (eqb a b) refl
  where
    go : (x : Bool) → eqb a b ≡ x → x ≡ eqb c d
    go true e = sym (eq-eqb c d (f (eqb-true a b e)))
    go false e = sym (ne_eqb c d (λ h. eqb-false a b e (g h)))

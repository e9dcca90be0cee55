-- One pass that strikes each thread off its place decides what the definition counts for every thread and list.
use mathlib.Core.Path.{◌≡◌, refl, sym, ◌∙◌}
use mathlib.Core.Bool.{Bool, true, false, cond}
use mathlib.Core.List.{List, [], ◌∷◌}
use Prim.Native.Nat.{ℕ, zero, suc, ◌+◌, ◌≤◌, ◌<◌}
use native.Mathlib.Omega.{arith}
use native.Mathlib.Decide.{ℕ_discrete}
use lib.ListN.{length, set, get_or, length-set}
use lib.Seq.{get_or-set_other}
use lib.Dec.{eqb}
use borrow.Author.Tests.{eq-eqb, ne_eqb, eqb-true, lt-ltb}
use Rattle.base.proofs.TestLaws.{tests, All, false-true}
use Rattle.ready.specs.Lists.{occurs}
use Rattle.ready.specs.Sound.{small}
use Rattle.ready_sound.specs.Private.{strikes, struck}
use Rattle.ready.proofs.Soundness.{mark, mark-same, mark-other, mark-is}

-- ---- striking off

set-zero : (l : List ℕ) (x : ℕ) → get_or (set l x 0) x 0 ≡ 0
set-zero [] x = refl
set-zero (y ∷ l) zero = refl
set-zero (y ∷ l) (suc x) = set-zero l x

pub struck-length : (xs left : List ℕ) → length (struck xs left) ≡ length left
unfolding struck
struck-length [] left = refl
struck-length (x ∷ xs) left = struck-length xs (set left x 0) ∙ length-set left x 0

-- a thread of the list has no place left, any other keeps its own
pub struck-at : (xs left : List ℕ) (i : ℕ) → get_or (struck xs left) i 0 ≡ cond (eqb (occurs i xs) 0) (get_or left i 0) 0
unfolding struck occurs
struck-at [] left i = refl
struck-at (x ∷ xs) left i = struck-at xs (set left x 0) i ∙ go (ℕ_discrete x i)
  where
    none : (b : Bool) → cond b (get_or (set left x 0) x 0) 0 ≡ 0
    none true = set-zero left x
    none false = refl

    go : Dec (x ≡ i)
        → cond (eqb (occurs i xs) 0) (get_or (set left x 0) i 0) 0 ≡ cond (eqb (cond (eqb x i) 1 0 + occurs i xs) 0) (get_or left i 0) 0
    go (yes e) =
        rw (← e, eq-eqb x x refl, ne_eqb (1 + occurs x xs) 0 (λ z. omega arith)) (none (eqb (occurs x xs) 0))
    go (no d) =
        let z : 0 + occurs i xs ≡ occurs i xs = omega arith in
        rw (ne_eqb x i d, z, get_or-set_other left x i 0 0 (λ e. d (sym e)))

-- the pass succeeds where no thread is there more often than its place allows
pub strikes-count : (p : ℕ) (xs left : List ℕ) → 1 ≤ p → strikes p xs left ≡ true → (i : ℕ) → occurs i xs ≤ mark (get_or left i 0) p
unfolding strikes occurs
strikes-count p [] left lo h i = omega arith
strikes-count p (x ∷ xs) left lo h i = go (eqb (get_or left x 0) p) refl h (λ k. strikes-count p xs (set left x 0) lo k i) (ℕ_discrete x i)
  where
    go : (b : Bool) → eqb (get_or left x 0) p ≡ b → cond b (strikes p xs (set left x 0)) false ≡ true
        → (strikes p xs (set left x 0) ≡ true → occurs i xs ≤ mark (get_or (set left x 0) i 0) p) → Dec (x ≡ i)
        → cond (eqb x i) 1 0 + occurs i xs ≤ mark (get_or left i 0) p
    go false e h f d = false-true h
    go true e h f (yes q) =
        let m : mark (get_or left i 0) p ≡ 1 = mark-same (get_or left i 0) p (rw q at (eqb-true (get_or left x 0) p e)) in
        let z : get_or (set left x 0) i 0 ≡ 0 = rw (← q) (set-zero left x) in
        let n : mark (get_or (set left x 0) i 0) p ≡ 0 = mark-other _ p (λ y. omega arith) in
        rw (eq-eqb x i q) (omega (arith, f h))
    go true e h f (no q) = rw (ne_eqb x i q) (omega (arith, rw (get_or-set_other left x i 0 0 (λ y. q (sym y))) at (f h)))

pub count-strikes : (p : ℕ) (xs left : List ℕ) → ((i : ℕ) → occurs i xs ≤ mark (get_or left i 0) p) → strikes p xs left ≡ true
unfolding strikes occurs
count-strikes p [] left h = refl
count-strikes p (x ∷ xs) left h =
    let f : 1 + occurs x xs ≤ mark (get_or left x 0) p = rw (eq-eqb x x refl) at (h x) in
    rw (eq-eqb (get_or left x 0) p (mark-is (get_or left x 0) p (omega arith)))
    (count-strikes p xs (set left x 0) (λ i. go i f (h i) (ℕ_discrete x i)))
  where
    le : (b : Bool) → cond b 1 0 ≤ 1
    le true = omega arith
    le false = omega arith

    go : (i : ℕ) → 1 + occurs x xs ≤ mark (get_or left x 0) p → cond (eqb x i) 1 0 + occurs i xs ≤ mark (get_or left i 0) p → Dec (x ≡ i)
        → occurs i xs ≤ mark (get_or (set left x 0) i 0) p
    go i f h (yes q) = let z : occurs i xs ≡ 0 = rw (← q) (omega (arith, le (eqb (get_or left x 0) p))) in omega arith
    go i f h (no q) = rw (get_or-set_other left x i 0 0 (λ y. q (sym y))) (omega (arith, rw (ne_eqb x i q) at h))

-- ---- small numbers

pub small-none : (xs : List ℕ) → All (small xs) → (i : ℕ) → 32 ≤ i → occurs i xs ≡ 0
unfolding occurs
small-none [] h i l = refl
small-none (x ∷ xs) h i l = let d : x < 32 = omega tests in rw (ne_eqb x i (λ e. omega arith), small-none xs h.1 i l)

pub none-small : (xs : List ℕ) → ((i : ℕ) → 0 < occurs i xs → i < 32) → All (small xs)
unfolding occurs
none-small [] f = tt
none-small (x ∷ xs) f =
    (lt-ltb x 32 (f x (rw (eq-eqb x x refl) (omega arith))), none-small xs (λ i h. f i (omega arith)))

-- ---- a place after list p

-- kept, or p before and none now
pub record After (p : ℕ) (xs left : List ℕ) (i : ℕ) : Type 0 where
  pub kept : occurs i xs ≡ 0 → get_or (struck xs left) i 0 ≡ get_or left i 0
  pub gone : (occurs i xs ≡ 0 → ⊥) → (get_or (struck xs left) i 0 ≡ 0) × (get_or left i 0 ≡ p)

pub after : (p : ℕ) (xs left : List ℕ) (i : ℕ) → occurs i xs ≤ mark (get_or left i 0) p → After p xs left i
after p xs left i h =
    record {
      kept = λ e. struck-at xs left i ∙ rw (eq-eqb (occurs i xs) 0 e);
      gone = λ d. (struck-at xs left i ∙ rw (ne_eqb (occurs i xs) 0 d), mark-is (get_or left i 0) p (omega (arith, d)));
    }

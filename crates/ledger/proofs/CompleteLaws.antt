-- A ledger has every amount that came back, and every tick that was run once.
use Prim.Native.Nat.{ℕ, ◌+◌}
use mathlib.Core.Bool.{Bool, true, false, cond}
use mathlib.Core.Path.{◌≡◌, refl, ap, ◌∙◌}
use mathlib.Core.List.{List, [], ◌∷◌, ◌++◌}
use lib.Dec.{eqb}
use native.Mathlib.Omega.{arith}
use borrow.Author.Tests.{eqb-true, eqb-false}
use Rattle.base.proofs.TestLaws.{cond-elim}
use Rattle.sporadic.specs.declared.Effect.{Effect}
use Rattle.reports.specs.Steps.{Step}
use Rattle.reports.specs.Steps.Step.{ran, quantum, limit, effect}
use Rattle.ledger.specs.Ledger.{back_in, sum_of, Run, Entry, Return, Ledger, empty, precedes, filed, return_of, first_return, after_first, with_first_back, with_entry, with_charged_back, enter_effect, enter, entered, ticks_of, amounts_of, ticks_under, pending_under, returned_under, ran_under, LedgerComplete}

pub ticks-more : (rs : List Run) (r : Run) → ticks_of (rs ++ r ∷ []) ≡ ticks_of rs + r.ticks
ticks-more [] r = omega arith
ticks-more (x ∷ rs) r = omega (arith, ticks-more rs r)

amounts-more : (xs ys : List Return) → amounts_of (xs ++ ys) ≡ amounts_of xs + amounts_of ys
amounts-more [] ys = omega arith
amounts-more (x ∷ xs) ys = omega (arith, amounts-more xs ys)

first-amount : (x t : ℕ) (ys : List Entry) → amounts_of (first_return x t ys) ≡ x
first-amount x t [] = omega arith
first-amount x t (y ∷ ys) = omega arith

-- what a rule does to a ledger, by cases
module _ (now period : ℕ) (e : Effect) (l : Ledger) where
  enter-elim : (P : Ledger → Type 0) → (e.first ≡ true → P (with_first_back e.back now l)) → (e.first ≡ false → e.back ≡ 0 → e.amount ≡ 0 → P l)
      → (e.first ≡ false → e.back ≡ 0 → (e.amount ≡ 0 → ⊥) → P (with_entry e.due period l)) → (e.first ≡ false → (e.back ≡ 0 → ⊥) → P (with_charged_back e.back now period l))
      → P (enter_effect now period e l)
  enter-elim P f g h k =
      cond-elim P e.first _ _ f
      (λ a. cond-elim P (eqb e.back 0) _ _
      (λ b. cond-elim P (eqb e.amount 0) _ _ (λ c. g a (eqb-true e.back 0 b) (eqb-true e.amount 0 c)) (λ c. h a (eqb-true e.back 0 b) (eqb-false e.amount 0 c)))
      (λ b. k a (eqb-false e.back 0 b)))

  effect-amounts : amounts_of (enter_effect now period e l).returns ≡ amounts_of l.returns + e.back
  effect-amounts =
      enter-elim (λ (m : Ledger). amounts_of m.returns ≡ amounts_of l.returns + e.back)
      (λ a. omega (arith, amounts-more l.returns (first_return e.back now l.pending), first-amount e.back now l.pending))
      (λ a b c. omega (arith, b))
      (λ a b c. omega (arith, b))
      (λ a b. omega (arith, amounts-more l.returns (return_of e.back now period l.charged)))

-- ---- the ticks that were run under an activation time

module _ (x : ℕ) where
  under_more : (rs : List Run) (r : Run) → ticks_under x (rs ++ r ∷ []) ≡ ticks_under x rs + cond (eqb r.activation x) r.ticks 0
  under_more [] r = omega arith
  under_more (y ∷ rs) r = omega (arith, under_more rs r)

  returned-more : (xs ys : List Return) → returned_under x (xs ++ ys) ≡ returned_under x xs + returned_under x ys
  returned-more [] ys = omega arith
  returned-more (y ∷ xs) ys = omega (arith, returned-more xs ys)

  filed-under : (y : Entry) (ys : List Entry) → pending_under x (filed y ys) ≡ ticks_under x y.runs + pending_under x ys
  filed-under y [] = refl
  filed-under y (z ∷ ys) = go (precedes z y) (filed-under y ys)
    where
      go : (b : Bool) → pending_under x (filed y ys) ≡ ticks_under x y.runs + pending_under x ys
          → pending_under x (cond b (z ∷ filed y ys) (y ∷ z ∷ ys)) ≡ ticks_under x y.runs + (ticks_under x z.runs + pending_under x ys)
      go true e = omega (arith, e)
      go false e = refl

  first_under : (n t : ℕ) (ys : List Entry) → pending_under x (after_first ys) + returned_under x (first_return n t ys) ≡ pending_under x ys
  first_under n t [] = omega arith
  first_under n t (y ∷ ys) = omega arith

  -- those that stand in a ledger
  abbrev held : Ledger → ℕ
  held l = ticks_under x l.charged + pending_under x l.pending + returned_under x l.returns

  entry-held : (due period : ℕ) (l : Ledger) → held (with_entry due period l) ≡ held l
  entry-held due period l = ap (λ (n : ℕ). 0 + n + returned_under x l.returns) (filed-under _ l.pending) ∙ omega arith

  effect-held : (now period : ℕ) (e : Effect) (l : Ledger) → held (enter_effect now period e l) ≡ held l
  effect-held now period e l =
      enter-elim now period e l (λ (m : Ledger). held m ≡ held l)
      (λ a. omega (arith, returned-more l.returns (first_return e.back now l.pending), first_under e.back now l.pending))
      (λ a b c. refl)
      (λ a b c. entry-held e.due period l)
      (λ a b. omega (arith, returned-more l.returns (return_of e.back now period l.charged)))

-- ---- step by step

step-amounts : (l : Ledger) (x : Step) → amounts_of (enter l x).returns ≡ amounts_of l.returns + back_in x
step-amounts l (ran k a) = omega arith
step-amounts l quantum = omega arith
step-amounts l limit = omega arith
step-amounts l (effect now period e) = effect-amounts now period e l

step-held : (x : ℕ) (l : Ledger) (y : Step) → held x (enter l y) ≡ held x l + ran_under x y
step-held x l (ran k a) = omega (arith, under_more x l.charged (record { ticks = k; activation = a }))
step-held x l quantum = omega arith
step-held x l limit = omega arith
step-held x l (effect now period e) = effect-held x now period e l ∙ omega arith

all-amounts : (l : Ledger) (xs : List Step) → amounts_of (entered l xs).returns ≡ amounts_of l.returns + sum_of back_in xs
all-amounts l [] = omega arith
all-amounts l (x ∷ xs) = omega (arith, all-amounts (enter l x) xs, step-amounts l x)

all_held : (x : ℕ) (l : Ledger) (ys : List Step) → held x (entered l ys) ≡ held x l + sum_of (ran_under x) ys
all_held x l [] = omega arith
all_held x l (y ∷ ys) = omega (arith, all_held x (enter l y) ys, step-held x l y)

pub ledger-complete : LedgerComplete
ledger-complete xs = record { all = all-amounts empty xs ∙ omega arith; once = λ x. all_held x empty xs ∙ omega arith }

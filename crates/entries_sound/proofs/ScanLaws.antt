-- How a test over all entries is taken entry by entry: what is left gives the whole answer.
use Prim.Native.Nat.{ℕ, ◌+◌, ◌-◌, ◌≤◌, ◌<◌}
use mathlib.Core.Bool.{Bool, true, false, cond}
use mathlib.Core.Path.{◌≡◌, refl, sym, ap}
use mathlib.Core.List.{List, [], ◌∷◌}
use lib.Dec.{eqb}
use native.Mathlib.Omega.{arith}
use borrow.Author.Tests.{le-leb, lt-leb, eq-eqb, ne_eqb, eqb-true, eqb-false}
use Rattle.base.specs.Tests.{all}
use Rattle.base.proofs.TestLaws.{all-false}
use Rattle.account.specs.Sound.{sum, amount_tests, due_tests}

module _ (budget held x : ℕ) (xs : List ℕ) where
  pub amount-step : 1 ≤ x → all (amount_tests budget held (x ∷ xs)) ≡ all (amount_tests budget (held + x) xs)
  unfolding all
  amount-step g =
      let e : held + (x + sum xs) ≡ held + x + sum xs = omega arith in
      simp (e, le-leb 1 x g)

  pub amount-none : x < 1 → all (amount_tests budget held (x ∷ xs)) ≡ false
  amount-none g = all-false (amount_tests budget held (x ∷ xs)) 1 (lt-leb 1 x g)

  pub amount-over : budget < held + x → all (amount_tests budget held (x ∷ xs)) ≡ false
  amount-over g = all-false (amount_tests budget held (x ∷ xs)) 0 (ne_eqb (held + (x + sum xs)) budget (λ e. omega arith))

module _ (lo hi d : ℕ) (ds : List ℕ) where
  pub due-step : lo ≤ d → d ≤ hi → all (due_tests lo hi (d ∷ ds)) ≡ all (due_tests d hi ds)
  unfolding all
  due-step g k = simp (le-leb lo d g, le-leb d hi k)

  pub due-early : d < lo → all (due_tests lo hi (d ∷ ds)) ≡ false
  due-early g = all-false (due_tests lo hi (d ∷ ds)) 0 (lt-leb lo d g)

  pub due-late : hi < d → all (due_tests lo hi (d ∷ ds)) ≡ false
  due-late g = all-false (due_tests lo hi (d ∷ ds)) 1 (lt-leb d hi g)

pub amount-held : (budget held : ℕ) (xs : List ℕ) → budget < held → all (amount_tests budget held xs) ≡ false
amount-held budget held xs h = all-false (amount_tests budget held xs) 0 (ne_eqb (held + sum xs) budget (λ e. omega arith))

pub amount-end : (budget left : ℕ) → left ≤ budget → eqb left 0 ≡ all (amount_tests budget (budget - left) [])
unfolding all
amount-end budget left h = go (eqb left 0) refl
  where
    go : (b : Bool) → eqb left 0 ≡ b → b ≡ cond (eqb (budget - left + 0) budget) true false
    go true e = sym (ap (λ (c : Bool). cond c true false) (eq-eqb (budget - left + 0) budget (omega (arith, eqb-true left 0 e))))
    go false e = sym (ap (λ (c : Bool). cond c true false) (ne_eqb (budget - left + 0) budget (λ q. eqb-false left 0 e (omega arith))))

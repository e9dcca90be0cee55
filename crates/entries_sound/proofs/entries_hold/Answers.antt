-- `entries_sound::entries_hold` meets its contract: what is left of both lists gives the whole answer.
use Prim.Native.Nat.{ℕ, ◌+◌, ◌-◌, ◌≤◌, ◌<◌}
use mathlib.Core.Bool.{true, false}
use mathlib.Core.Path.{◌≡◌, refl, sym, ap, ◌∙◌}
use mathlib.Core.List.{List, [], ◌∷◌}
use lib.ListN.{length}
use lib.Dec.{eqb}
use native.Mathlib.Omega.{arith}
use Rattle.std.specs.Prelude.{None}
use Rattle.std.proofs.lemmas.Iterator.{empty_from_Zip}
use Rattle.base.specs.Tests.{all}
use Rattle.base.proofs.TestLaws.{all-false, all_one}
use Rattle.account.specs.Sound.{amount_tests, due_tests, last_due}
use Rattle.entries_sound.proofs.ScanLaws.{amount-step, amount-none, amount-over, amount-held, amount-end, due-step, due-early, due-late}
use Rattle.entries_sound.proofs.entries_hold.Invariants.{Held}
use Rattle.entries_sound.proofs.entries_hold.Goals as goal

-- what is held and what is left of the budget
left_less : (budget left x : ℕ) → left ≤ budget → x ≤ left → (left - x ≤ budget) × (budget - (left - x) ≡ budget - left + x)
left_less budget left x h k = (omega arith, omega arith)

left_over : (budget left x : ℕ) → left ≤ budget → left < x → budget < budget - left + x
left_over budget left x h k = omega arith

held-over : (budget capacity used : ℕ) → capacity ≤ budget → budget - capacity < used → budget < capacity + used
held-over budget capacity used h k = omega arith

module _ {budget own : ℕ} {amounts dues : List ℕ} {after hi left last : ℕ} {xs ds : List ℕ} (h : Held budget own amounts dues after hi left last xs ds) where
  -- one of the two fails from here on
  amounts-fail : all (amount_tests budget (budget - left) xs) ≡ false
      → false ≡ all (all (amount_tests budget own amounts) ∷ all (due_tests (after + 1) hi dues) ∷ [])
  amounts-fail e = sym (all-false _ 0 (sym h.sums ∙ e))

  dues-fail : all (due_tests (last + 1) hi ds) ≡ false → false ≡ all (all (amount_tests budget own amounts) ∷ all (due_tests (after + 1) hi dues) ∷ [])
  dues-fail e = sym (all-false _ 1 (sym h.times ∙ e))

  -- one entry more
  next : (x d : ℕ) (ys es : List ℕ) → xs ≡ x ∷ ys → ds ≡ d ∷ es → 1 ≤ x → x ≤ left → last < d → d ≤ hi
      → Held budget own amounts dues after hi (left - x) (d - 1) ys es
  next x d ys es p q n l m u =
      let e = left_less budget left x h.within l in
      let f : d - 1 + 1 ≡ d = omega arith in
      record {
        same = omega (arith, h.same, ap length p, ap length q);
        within = e.0;
        sums =
            ap (λ (k : ℕ). all (amount_tests budget k ys)) e.1
            ∙ sym (amount-step budget (budget - left) x ys n)
            ∙ sym (ap (λ (zs : List ℕ). all (amount_tests budget (budget - left) zs)) p)
            ∙ h.sums;
        begun = omega (arith, h.begun);
        times =
            ap (λ (k : ℕ). all (due_tests k hi es)) f
            ∙ sym (due-step (last + 1) hi d es (omega arith) u)
            ∙ sym (ap (λ (zs : List ℕ). all (due_tests (last + 1) hi zs)) q)
            ∙ h.times;
      }

  -- no entry is left
  ends : xs ≡ [] → ds ≡ [] → eqb left 0 ≡ all (all (amount_tests budget own amounts) ∷ all (due_tests (after + 1) hi dues) ∷ [])
  unfolding all
  ends p q =
      let a : eqb left 0 ≡ all (amount_tests budget own amounts) =
      amount-end budget left h.within ∙ sym (ap (λ (ys : List ℕ). all (amount_tests budget (budget - left) ys)) p) ∙ h.sums in
      let d : true ≡ all (due_tests (after + 1) hi dues) = sym (ap (λ (ys : List ℕ). all (due_tests (last + 1) hi ys)) q) ∙ h.times in
      rw (← a, ← d) (sym (all_one (eqb left 0)))

pub returns-then-budget-capacity : goal.returns-then-budget-capacity
returns-then-budget-capacity c =
    let a = c.args in
    sym (all-false _ 0 (amount-held a.budget (a.capacity + a.used) a.amounts.now (omega arith)))

pub returns-then-budget-capacity-2 : goal.returns-then-budget-capacity-2
returns-then-budget-capacity-2 c =
    let a = c.args in
    sym (all-false _ 0 (amount-held a.budget (a.capacity + a.used) a.amounts.now (held-over a.budget a.capacity a.used c.if-budget-capacity.false c.if-budget-capacity-2.true)))

pub returns-then-amount-lt1 : goal.returns-then-amount-lt1
returns-then-amount-lt1 c =
    let budget = c.args.budget in
    let h = c.loop-amount.invariant in
    let p = c.in-Some.ensures.steps.0 in
    amounts-fail h (ap (λ (ys : List ℕ). all (amount_tests budget (budget - c.loop-amount.left) ys)) p ∙ amount-none budget (budget - c.loop-amount.left) _ _ c.if-amount-lt1.true)

pub returns-then-left-amount : goal.returns-then-left-amount
returns-then-left-amount c =
    let budget = c.args.budget in
    let h = c.loop-amount.invariant in
    let p = c.in-Some.ensures.steps.0 in
    amounts-fail h
    (
    ap (λ (ys : List ℕ). all (amount_tests budget (budget - c.loop-amount.left) ys)) p
    ∙ amount-over budget (budget - c.loop-amount.left) _ _ (left_over budget c.loop-amount.left _ h.within c.if-left-amount.true)
    )

pub returns-then-due-last : goal.returns-then-due-last
returns-then-due-last c =
    let hi = last_due c.args.after in
    let lo = c.loop-amount.last + 1 in
    let q = c.in-Some.ensures.steps.1 in
    dues-fail c.loop-amount.invariant
    (ap (λ (ys : List ℕ). all (due_tests lo hi ys)) q ∙ due-early lo hi _ _ (omega (arith, c.if-due-last.true)))

pub returns-then-due-after-gt-MOST_TICKS : goal.returns-then-due-after-gt-MOST_TICKS
returns-then-due-after-gt-MOST_TICKS c =
    let hi = last_due c.args.after in
    let lo = c.loop-amount.last + 1 in
    let q = c.in-Some.ensures.steps.1 in
    dues-fail c.loop-amount.invariant
    (ap (λ (ys : List ℕ). all (due_tests lo hi ys)) q ∙ due-late lo hi _ _ (omega (arith, c.if-due-after-gt-MOST_TICKS.true)))

pub loop-amount-preserved : goal.loop-amount-preserved
loop-amount-preserved c =
    let turn = c.in-Some.ensures.steps in
    next c.loop-amount.invariant _ _ _ _ turn.0 turn.1 c.if-amount-lt1.false c.if-left-amount.false c.if-due-last.false (omega arith)

pub returns : goal.returns
returns c =
    let h = c.loop-amount.invariant in
    let none = empty_from_Zip c.loop-amount.amount-iterator c.next.new.self None refl c.in-None.ensures.steps h.same in
    ends h none.0 none.1

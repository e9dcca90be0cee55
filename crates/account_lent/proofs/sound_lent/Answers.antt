-- `account_lent::sound_lent` meets its contract: the numbers, the entries, and then the slots that are not in use.
use Prim.Native.Nat.{ℕ, ◌+◌, ◌-◌, ◌≤◌}
use mathlib.Core.Bool.{Bool, true, false}
use mathlib.Core.Path.{◌≡◌, refl, sym, ap, ap₂, ◌∙◌}
use mathlib.Core.List.{List, [], ◌∷◌}
use lib.ListN.{length, take, drop, length-take, length-drop}
use lib.Seq.{take_all}
use native.Mathlib.Omega.{arith}
use borrow.Author.Tests.{eq-eqb}
use Rattle.base.specs.Tests.{all, zeros}
use Rattle.base.proofs.TestLaws.{tests, all-false, all_true, false-true}
use Rattle.records.specs.declared.Parameters.{Parameters}
use Rattle.account.specs.declared.Account.{Account}
use Rattle.account.specs.Account.{pending_dues, pending_amounts}
use Rattle.account.specs.Sound.{runs_upper, last_due, number_tests, amount_tests, due_tests, slot_tests, sound_tests, sound_at}
use Rattle.account_lent.specs.Lent.{account_of}
use Rattle.account_lent.proofs.sound_lent.Goals as goal

-- what each part was given is what the definition says
module _ (start now : ℕ) (blocked : Bool) (p : Parameters) (a : Account) (up : Bool) (eu : up ≡ runs_upper blocked p a) where
  numbers : (r : Bool) → r ≡ all (number_tests start now up p a.server a.pending.count)
      → r ≡ all (number_tests start now (runs_upper blocked p a) p a.server a.pending.count)
  numbers r e = e ∙ ap (λ (u : Bool). all (number_tests start now u p a.server a.pending.count)) eu

  module _ (n : ℕ) (en : n ≡ a.pending.count) where
    sums : (r : Bool) → r ≡ all (amount_tests p.budget (a.server.capacity + a.server.used) (take n a.pending.amounts))
        → r ≡ all (amount_tests p.budget (a.server.capacity + a.server.used) (pending_amounts a.pending))
    sums r e = e ∙ ap (λ (k : ℕ). all (amount_tests p.budget (a.server.capacity + a.server.used) (take k a.pending.amounts))) en

    times : (r : Bool) → r ≡ all (due_tests (now + 1) (last_due now) (take n a.pending.dues)) → r ≡ all (due_tests (now + 1) (last_due now) (pending_dues a.pending))
    times r e = e ∙ ap (λ (k : ℕ). all (due_tests (now + 1) (last_due now) (take k a.pending.dues))) en

    entries : (r : Bool)
        → r ≡ all (all (amount_tests p.budget (a.server.capacity + a.server.used) (take n a.pending.amounts)) ∷ all (due_tests (now + 1) (last_due now) (take n a.pending.dues)) ∷ [])
        → r ≡ all (all (amount_tests p.budget (a.server.capacity + a.server.used) (pending_amounts a.pending)) ∷ all (due_tests (now + 1) (last_due now) (pending_dues a.pending)) ∷ [])
    entries r e = e ∙ ap₂ (λ (x y : Bool). all (x ∷ y ∷ [])) (sums _ refl) (times _ refl)

-- what is left of a list from n on is what the test of its slots asks
long : (n count : ℕ) (xs : List ℕ) → n ≡ count → length xs ≡ 8 → all (zeros (take (length xs - n) (drop n xs))) ≡ all (slot_tests count xs)
unfolding all
long n count xs e l =
    ap (λ (ys : List ℕ). all (zeros ys)) (take_all (length xs - n) (drop n xs) (omega (arith, length-drop n xs)))
    ∙ ap (λ (k : ℕ). all (zeros (drop k xs))) e
    ∙ sym (simp (eq-eqb (length xs) 8 l))

-- where the second and third test do not both hold, all do not
pair-false : (t u v w x : Bool) → all (u ∷ v ∷ []) ≡ false → all (t ∷ u ∷ v ∷ w ∷ x ∷ []) ≡ false
unfolding all
pair-false true true true w x e = false-true (sym e)
pair-false true true false w x e = refl
pair-false true false v w x e = refl
pair-false false u v w x e = refl

entries-fail : (start now : ℕ) (blocked : Bool) (p : Parameters) (a : Account)
    → all (all (amount_tests p.budget (a.server.capacity + a.server.used) (pending_amounts a.pending)) ∷ all (due_tests (now + 1) (last_due now) (pending_dues a.pending)) ∷ []) ≡ false
    → all (sound_tests start now blocked p a) ≡ false
entries-fail start now blocked p a e = pair-false _ _ _ _ _ e

-- where three tests hold, the last two decide
last-two : (t u v w x : Bool) → t ≡ true → u ≡ true → v ≡ true → all (w ∷ x ∷ []) ≡ all (t ∷ u ∷ v ∷ w ∷ x ∷ [])
unfolding all
last-two t u v w x a b c = sym (simp (a, b, c))

-- ---- the first part: the numbers hold, and so the entries in use lie in the slots

record Numbers (start now : ℕ) (blocked : Bool) (p : Parameters) (a : Account) (n : ℕ) : Type 0 where
  first : all (number_tests start now (runs_upper blocked p a) p a.server a.pending.count) ≡ true
  few : n ≤ 8

numbered : (start now : ℕ) (blocked : Bool) (p : Parameters) (a : Account) (up r : Bool) (n : ℕ)
    → up ≡ runs_upper blocked p a → r ≡ all (number_tests start now up p a.server a.pending.count) → r ≡ true
    → n ≡ a.pending.count → Numbers start now blocked p a n
numbered start now blocked p a up r n eu en h w =
    let e = sym (numbers start now blocked p a up eu r en) ∙ h in
    let k = all_true (number_tests start now (runs_upper blocked p a) p a.server a.pending.count) e in
    record { first = e; few = omega (tests, k) }

pub returns-then-not-numbers_hold : goal.returns-then-not-numbers_hold
unfolding sound_at
returns-then-not-numbers_hold c =
    let u = c in
    let st = u in
    let a = st.args in
    sym
    (all-false (sound_tests a.start a.time a.blocked a.p (account_of a.s a.count a.dues.now a.amounts.now)) 0
    (sym (numbers a.start a.time a.blocked a.p (account_of a.s a.count a.dues.now a.amounts.now) _ u.runs_upper-up.ensures _ c.numbers_hold.ensures) ∙ c.if-not-numbers_hold.true))

pub slice_bounds-entries_hold-end : goal.slice_bounds-entries_hold-end
slice_bounds-entries_hold-end c =
    let w = c in
    let a = w.args in
    omega (arith, length-take w.from-n.result a.amounts.now, (numbered a.start a.time a.blocked a.p (account_of a.s a.count a.dues.now a.amounts.now) _ _ _ c.runs_upper-up.ensures c.numbers_hold.ensures c.if-not-numbers_hold.false c.from-n.ensures).few)

pub slice_bounds-entries_hold-end-2 : goal.slice_bounds-entries_hold-end-2
slice_bounds-entries_hold-end-2 c =
    let w = c in
    let a = w.args in
    omega (arith, length-take w.from-n.result a.dues.now, (numbered a.start a.time a.blocked a.p (account_of a.s a.count a.dues.now a.amounts.now) _ _ _ c.runs_upper-up.ensures c.numbers_hold.ensures c.if-not-numbers_hold.false c.from-n.ensures).few)

pub entries_hold-requires : goal.entries_hold-requires
entries_hold-requires c =
    let w = c in
    let a = w.args in
    let n = w.from-n.result in
    omega (arith, length-take n a.amounts.now, length-take n a.dues.now, (numbered a.start a.time a.blocked a.p (account_of a.s a.count a.dues.now a.amounts.now) _ _ _ c.runs_upper-up.ensures c.numbers_hold.ensures c.if-not-numbers_hold.false c.from-n.ensures).few)

pub returns-then-not-entries_hold : goal.returns-then-not-entries_hold
unfolding sound_at
returns-then-not-entries_hold c =
    let w = c in
    let u = w in
    let st = u in
    let a = st.args in
    sym
    (entries-fail a.start a.time a.blocked a.p (account_of a.s a.count a.dues.now a.amounts.now)
    (sym (entries a.start a.time a.blocked a.p (account_of a.s a.count a.dues.now a.amounts.now) _ u.runs_upper-up.ensures _ w.from-n.ensures _ c.entries_hold.ensures) ∙ c.if-not-entries_hold.true))

pub slice_bounds-clear-count : goal.slice_bounds-clear-count
slice_bounds-clear-count c =
    let a = c.args in
    omega (arith, (numbered a.start a.time a.blocked a.p (account_of a.s a.count a.dues.now a.amounts.now) _ _ _ c.runs_upper-up.ensures c.numbers_hold.ensures c.if-not-numbers_hold.false c.from-n.ensures).few)

pub slice_bounds-clear-start : goal.slice_bounds-clear-start
slice_bounds-clear-start c =
    let a = c.args in
    omega (arith, (numbered a.start a.time a.blocked a.p (account_of a.s a.count a.dues.now a.amounts.now) _ _ _ c.runs_upper-up.ensures c.numbers_hold.ensures c.if-not-numbers_hold.false c.from-n.ensures).few)

pub slice_bounds-clear-count-2 : goal.slice_bounds-clear-count-2
slice_bounds-clear-count-2 c =
    let a = c.args in
    omega (arith, (numbered a.start a.time a.blocked a.p (account_of a.s a.count a.dues.now a.amounts.now) _ _ _ c.runs_upper-up.ensures c.numbers_hold.ensures c.if-not-numbers_hold.false c.from-n.ensures).few)

pub slice_bounds-clear-start-2 : goal.slice_bounds-clear-start-2
slice_bounds-clear-start-2 c =
    let a = c.args in
    omega (arith, (numbered a.start a.time a.blocked a.p (account_of a.s a.count a.dues.now a.amounts.now) _ _ _ c.runs_upper-up.ensures c.numbers_hold.ensures c.if-not-numbers_hold.false c.from-n.ensures).few)

pub returns : goal.returns
unfolding sound_at
returns c =
    let i = c in
    let w = i in
    let u = w in
    let st = u in
    let a = st.args in
    let h = all_true _
    (sym (entries a.start a.time a.blocked a.p (account_of a.s a.count a.dues.now a.amounts.now) _ u.runs_upper-up.ensures _ w.from-n.ensures _ i.entries_hold.ensures) ∙ i.if-not-entries_hold.false) in
    c.clear.ensures
    ∙ ap₂ (λ (x y : Bool). all (x ∷ y ∷ [])) (long _ _ a.dues.now w.from-n.ensures (omega arith)) (long _ _ a.amounts.now w.from-n.ensures (omega arith))
    ∙ last-two _ _ _ _ _ (numbered a.start a.time a.blocked a.p (account_of a.s a.count a.dues.now a.amounts.now) _ _ _ c.runs_upper-up.ensures c.numbers_hold.ensures c.if-not-numbers_hold.false c.from-n.ensures).first h.0 h.1.0

-- `moments::put_entry` meets its contract.
use Prim.Native.Nat.{ℕ}
use mathlib.Core.Bool.{false}
use mathlib.Core.Path.{◌≡◌, sym, ap, ◌∙◌}
use mathlib.Core.List.{List}
use lib.Dec.{eqb}
use borrow.Author.Tests.{eq-eqb, ne_eqb}
use Rattle.base.proofs.TestLaws.{cond-false}
use Rattle.account.specs.Rules.{slot_for, inserted, slots_after}
use Rattle.rows.specs.Rows.{slots_at, with_slots}
use Rattle.rows.proofs.RowLaws.{row_same}
use Rattle.moments.proofs.put_entry.Goals as goal

pub returns-then-amount-eq0 : goal.returns-then-amount-eq0
returns-then-amount-eq0 c =
    let o = c in
    let a = o.args in
    let z = eq-eqb a.amount 0 c.if-amount-eq0.true in
    (rw z (sym (row_same a.i a.dues.now)), rw z (sym (row_same a.i a.amounts.now)), o.tell_limit.ensures)

-- it stands at the slot that its due time has among the dues
at_slot : (amount due count i x n : ℕ) (ds xs ys : List ℕ) → eqb amount 0 ≡ false → n ≡ count
    → ys ≡ with_slots i (inserted (slot_for due n ds) n x (slots_at i xs)) xs → ys ≡ with_slots i (slots_after false amount (slot_for due count ds) count x (slots_at i xs)) xs
at_slot amount due count i x n ds xs ys z w h =
    h
    ∙ ap (λ (n : ℕ). with_slots i (inserted (slot_for due n ds) n x (slots_at i xs)) xs) w
    ∙ sym (ap (λ (r : List ℕ). with_slots i r xs) (cond-false (eqb amount 0) _ _ z))

pub returns : goal.returns
returns c =
    let w = c in
    let o = w in
    let a = o.args in
    let ds = slots_at a.i a.dues.now in
    let n = ne_eqb a.amount 0 o.if-amount-eq0.false in (
      at_slot a.amount a.due a.count a.i a.due w.from.result ds a.dues.now _ n w.from.ensures c.insert_entry.ensures.0,
      at_slot a.amount a.due a.count a.i a.amount w.from.result ds a.amounts.now _ n w.from.ensures c.insert_entry.ensures.1,
      o.tell_limit.ensures,
    )

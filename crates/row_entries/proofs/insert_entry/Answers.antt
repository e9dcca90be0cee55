-- `row_entries::insert_entry` meets its contract. The invariant: the numbers after slot k are moved one slot down, and the slot is the one among the first k.
use Prim.Native.Nat.{ℕ, ◌-◌, ◌≤◌, ◌<◌}
use mathlib.Core.Path.{◌≡◌, refl, sym, ap, ◌∙◌}
use mathlib.Core.List.{List}
use lib.ListN.{get_or, length-set}
use native.Mathlib.Omega.{arith}
use native.Mathlib.Decide.{ℕ_discrete}
use Rattle.entries.specs.Entries.{slot_for, inserted}
use Rattle.entries.proofs.InsertLaws.{slot-here, slot-earlier, slot-none}
use Rattle.rows.specs.Rows.{slots_at, with_slots}
use Rattle.row_entries.proofs.InsertLaws.{moved-start, moved_before, moved-turn, moved-end}
use Rattle.row_entries.proofs.insert_entry.Goals as goal

pub loop-dues-init : goal.loop-dues-init
loop-dues-init c =
    let a = c.args in (
      omega arith,
      omega arith,
      omega arith,
      moved-start a.i a.count a.dues.now (omega arith) (omega arith) (omega arith),
      moved-start a.i a.count a.amounts.now (omega arith) (omega arith) (omega arith),
      refl,
    )

-- ---- a later due before slot k

pub overflow_sub-dues : goal.overflow_sub-dues
overflow_sub-dues c = omega (arith, (c.later_before.ensures.0 c.loop-dues-test.true).0)

pub overflow_sub-amounts : goal.overflow_sub-amounts
overflow_sub-amounts c = omega (arith, (c.later_before.ensures.0 c.loop-dues-test.true).0)

pub overflow_sub-k : goal.overflow_sub-k
overflow_sub-k c = omega (arith, (c.later_before.ensures.0 c.loop-dues-test.true).0)

pub loop-dues-smaller : goal.loop-dues-smaller
loop-dues-smaller c = omega (arith, (c.later_before.ensures.0 c.loop-dues-test.true).0)

pub loop-dues-preserved : goal.loop-dues-preserved
loop-dues-preserved c =
    let t = c in
    let u = t.later_before.ensures.0 t.loop-dues-test.true in
    let b = t in
    let a = b.args in
    let k = b.loop-dues.k in
    let v = b.loop-dues.invariant in
    let earlier =
    moved_before a.i a.count a.dues.now (omega arith) (omega arith) (omega arith) k v.0 b.loop-dues.dues v.3 u.0 in (
      omega arith,
      simp length-set v.1,
      simp length-set v.2,
      moved-turn a.i a.count a.dues.now (omega arith) (omega arith) (omega arith) k v.0 b.loop-dues.dues v.3 u.0,
      moved-turn a.i a.count a.amounts.now (omega arith) (omega arith) (omega arith) k v.0 b.loop-dues.amounts v.4 u.0,
      sym (slot-earlier a.due k (slots_at a.i a.dues.now) u.0 (omega (arith, u.1, earlier))) ∙ v.5,
    )

-- ---- the slot is found

-- it is k: before it stands none that is later
found : (d k n : ℕ) (ds : List ℕ) → (0 < k → get_or ds (k - 1) 0 ≤ d) → slot_for d k ds ≡ slot_for d n ds → k ≡ slot_for d n ds
found d k n ds f e = go (ℕ_discrete k 0)
  where
    go : Dec (k ≡ 0) → k ≡ slot_for d n ds
    go (yes z) = z ∙ slot-none d k ds z ∙ e
    go (no z) = let p : 0 < k = omega (arith, z) in sym (slot-here d k ds p (f p)) ∙ e

pub returns : goal.returns
returns c =
    let b = c in
    let a = b.args in
    let k = b.loop-dues.k in
    let v = b.loop-dues.invariant in
    let ds = slots_at a.i a.dues.now in
    let e : k ≡ slot_for a.due a.count ds =
    found a.due k a.count ds
    (λ p. omega (
      arith,
      c.later_before.ensures.1 c.loop-dues-test.false p,
      moved_before a.i a.count a.dues.now (omega arith) (omega arith) (omega arith) k v.0 b.loop-dues.dues v.3 p,
    )) v.5 in (
      moved-end a.i a.count a.dues.now (omega arith) (omega arith) (omega arith) k v.0 b.loop-dues.dues v.3 a.due
          ∙ ap (λ (m : ℕ). with_slots a.i (inserted m a.count a.due ds) a.dues.now) e,
      moved-end a.i a.count a.amounts.now (omega arith) (omega arith) (omega arith) k v.0 b.loop-dues.amounts v.4 a.amount
          ∙ ap (λ (m : ℕ). with_slots a.i (inserted m a.count a.amount (slots_at a.i a.amounts.now)) a.amounts.now) e,
    )

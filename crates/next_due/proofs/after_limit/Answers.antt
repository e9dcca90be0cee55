-- `next_due::after_limit` meets its contract.
use native.Mathlib.Omega.{arith}
use Prim.Native.Nat.{◌<◌}
use mathlib.Core.Path.{◌≡◌, ◌∙◌}
use borrow.Author.Tests.{lt-ltb, le-ltb, eq-eqb, ne_eqb}
use Rattle.due_search.specs.declared.Due.{Due}
use Rattle.due_search.proofs.DueLaws.{after_entry, entry-came}
use Rattle.next_due.proofs.after_limit.Goals as goal

pub returns-then-count-eq0 : goal.returns-then-count-eq0
returns-then-count-eq0 c counts dues n h =
    let a = c.args in
    let e : a.x ≡ after_entry a.x a.k a.count a.d = simp (eq-eqb _ _ c.if-count-eq0.true) in
    e ∙ entry-came a.x a.k a.count a.d counts dues n h

pub sooner_of-requires : goal.sooner_of-requires
sooner_of-requires c = tt

pub returns-then-d-x : goal.returns-then-d-x
returns-then-d-x c counts dues n h =
    let a = c.args in
    let z = ne_eqb _ _ c.if-count-eq0.false in
    let e : c.sooner_of.result ≡ after_entry a.x a.k a.count a.d =
    simp (z, ne_eqb a.d a.x.due (λ q. omega (arith, c.if-d-x.true))) c.sooner_of.ensures in
    e ∙ entry-came a.x a.k a.count a.d counts dues n h

pub returns-then-k-x : goal.returns-then-k-x
returns-then-k-x c counts dues n h =
    let a = c.args in
    let l : a.k < a.x.thread = omega (arith, c.if-k-x.true) in
    let e : ◌≡◌ {A = Due} (record { due = a.d; thread = a.k }) (after_entry a.x a.k a.count a.d) =
    simp (ne_eqb _ _ c.if-count-eq0.false, eq-eqb a.d a.x.due (omega (arith, c.if-d-x.false)), lt-ltb a.k a.x.thread l) in
    e ∙ entry-came a.x a.k a.count a.d counts dues n h

pub returns : goal.returns
returns c counts dues n h =
    let a = c.args in
    let e : a.x ≡ after_entry a.x a.k a.count a.d =
    simp (ne_eqb _ _ c.if-count-eq0.false, eq-eqb a.d a.x.due (omega (arith, c.if-d-x.false)), le-ltb _ _ c.if-k-x.false) in
    e ∙ entry-came a.x a.k a.count a.d counts dues n h

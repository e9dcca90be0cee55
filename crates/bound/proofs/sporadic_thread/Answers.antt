-- `bound::sporadic_thread` meets its contract.
use Prim.Native.Nat.{◌<◌}
use mathlib.Core.Path.{sym, ◌∙◌}
use native.Mathlib.Omega.{arith}
use borrow.Author.Tests.{lt-leb, le-leb, eq-eqb, ne_eqb}
use Rattle.base.specs.Tests.{all}
use Rattle.base.proofs.TestLaws.{all-false, all_one}
use Rattle.bound.specs.Most.{sporadic_thread}
use Rattle.bound.proofs.sporadic_thread.Goals as goal

pub returns-then-p-le1 : goal.returns-then-p-le1
unfolding sporadic_thread all
returns-then-p-le1 c =
    let p = c.args.p in
    simp (eq-eqb p.policy 2 c.if-p-le1.true.0, le-leb p.flag 1 c.if-p-le1.true.1, all_one) c.in_range.ensures

pub returns-else-p-le1 : goal.returns-else-p-le1
unfolding sporadic_thread
returns-else-p-le1 c =
    elim c.if-p-eq-SCHED_SPORADIC.branch [
      | goal.then-p-eq-SCHED_SPORADIC w ↦ let l : 1 < c.args.p.flag = omega arith in w.t-3-is ∙ lt-leb _ _ l ∙ sym (all-false _ 1 (lt-leb _ _ l))
      | goal.else-p-eq-SCHED_SPORADIC w ↦ w.t-3-is ∙ ne_eqb _ 2 w.if-p-eq-SCHED_SPORADIC.false ∙ sym (all-false _ 0 (ne_eqb _ 2 w.if-p-eq-SCHED_SPORADIC.false))
    ]

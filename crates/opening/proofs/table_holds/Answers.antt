-- `opening::table_holds` meets its contract.
use Prim.Native.Nat.{ℕ, ◌<◌}
use mathlib.Core.Bool.{true, ◌&&◌}
use mathlib.Core.Path.{◌≡◌, sym, ap, ◌∙◌}
use lib.Dec.{leb}
use native.Mathlib.Omega.{arith}
use borrow.Author.Count.{below_more}
use Rattle.std.proofs.lemmas.List.{get_or-take, length-take}
use Rattle.records.specs.declared.Parameters.{Parameters}
use Rattle.records.specs.Ranges.{in_range, no_parameters}
use Rattle.base.proofs.TestLaws.{at-below}
use Rattle.opening.proofs.OpenLaws.{opens, below-fails}
use Rattle.opening.proofs.table_holds.Goals as goal

pub returns-then-not-may_open : goal.returns-then-not-may_open
returns-then-not-may_open c =
    let h : c.loop-p.p-index < c.args.n = omega (arith, length-take {A = Parameters}) in
    let e = get_or-take c.args.n c.args.table c.loop-p.p-index no_parameters h in
    sym (below-fails c.args.n (opens c.args.table) c.loop-p.p-index h (ap (λ (p : Parameters). in_range 8 p && leb p.flag 1) (sym e) ∙ sym c.may_open.ensures ∙ c.if-not-may_open.true))

pub loop-p-preserved : goal.loop-p-preserved
loop-p-preserved c =
    let h : c.loop-p.p-index < c.args.n = omega (arith, length-take {A = Parameters}) in
    let e = get_or-take c.args.n c.args.table c.loop-p.p-index no_parameters h in
    below_more (λ (k : ℕ). opens c.args.table k ≡ true) c.loop-p.p-index c.loop-p.invariant
    (ap (λ (p : Parameters). in_range 8 p && leb p.flag 1) (sym e) ∙ sym c.may_open.ensures ∙ c.if-not-may_open.false)

pub returns : goal.returns
returns c = sym (at-below c.args.n (opens c.args.table) (λ k h. c.loop-p.invariant k (omega (arith, length-take {A = Parameters}))))

-- `thread_sound::present_fields` meets its contract.
use Prim.Native.Nat.{◌≤◌, ◌<◌}
use mathlib.Core.Path.{sym, ◌∙◌}
use native.Mathlib.Omega.{arith}
use borrow.Author.Tests.{eq-eqb, ne_eqb, le-leb, lt-leb}
use Rattle.base.proofs.TestLaws.{all-false}
use Rattle.state.specs.Sound.{present_fields}
use Rattle.state.proofs.TestLaws.{◌and◌, by_last}
use Rattle.thread_sound.proofs.present_fields.Goals as goal

pub returns-then-not-in_range : goal.returns-then-not-in_range
returns-then-not-in_range c = sym (all-false _ 0 (sym c.in_range.ensures ∙ c.if-not-in_range.true))

pub returns-then-t-ne0 : goal.returns-then-t-ne0
returns-then-t-ne0 c = sym (all-false _ 1 (ne_eqb _ _ c.if-t-ne0.true))

pub returns-then-t-gt1 : goal.returns-then-t-gt1
returns-then-t-gt1 c =
    let t = c.args.t in
    let h : 1 < t.blocked = omega (arith, c.if-t-gt1.true) in
    sym (all-false (present_fields t) 2 (lt-leb t.blocked 1 h))

pub returns : goal.returns
returns c =
    let t = c.args.t in
    let h : t.blocked ≤ 1 = omega (arith, c.if-t-gt1.false) in
    by_last (present_fields t) c.left_holds.ensures
    ((sym c.in_range.ensures ∙ c.if-not-in_range.false) and eq-eqb _ _ c.if-t-ne0.false and le-leb t.blocked 1 h and tt)

-- `text_numbers::numbers_at` meets its contract: the numbers found so far and those that the rest of the text would give are all.
use Prim.Native.Nat.{ℕ, ◌+◌, ◌<◌}
use Rattle.std.specs.Prelude.{Some, None}
use mathlib.Core.Path.{◌≡◌, sym, ap, ◌∙◌, subst}
use native.Mathlib.Omega.{arith}
use lib.Dec.{eqb}
use lib.ListN.{length, get_or, drop}
use Rattle.text_numbers.specs.Numbers.{end_byte, decimal_at}
use Rattle.text_numbers.proofs.NumberLaws.{left-all, left-next, left-none, left_over, left-done, not-numbers, end-some}
use Rattle.text_numbers.proofs.numbers_at.Goals as goal

pub loop-i-init : goal.loop-i-init
loop-i-init c = (omega arith, left-all _ _ _)

pub decimal_at-requires : goal.decimal_at-requires
decimal_at-requires c = subst (λ (b : ℕ). 0 < b) (sym c.end_byte-end.ensures) (end-some (eqb (c.loop-i.i + 1) (length c.args.most.now)))

pub loop-i-preserved : goal.loop-i-preserved
loop-i-preserved c =
    let a = c.args in
    let w = c.loop-i in
    let v = c.in_ok-value in
    let n : decimal_at (get_or a.most.now w.i 0) (end_byte (eqb (w.i + 1) (length a.most.now))) a.text.now w.at ≡ Some (v.value, v.next) =
    ap (λ (b : ℕ). decimal_at (get_or a.most.now w.i 0) b a.text.now w.at) (sym c.end_byte-end.ensures)
    ∙ sym c.decimal_at.ensures
    ∙ v.was in
    (omega arith, left-next a.most.now (drop a.place a.text.now) a.text.now w.values w.at w.i w.invariant.1 c.loop-i-test.true c.requires v.value v.next n)

pub returns-in_err-value : goal.returns-in_err-value
returns-in_err-value c =
    let a = c.args in
    let w = c.loop-i in
    let n : decimal_at (get_or a.most.now w.i 0) (end_byte (eqb (w.i + 1) (length a.most.now))) a.text.now w.at ≡ None =
    ap (λ (b : ℕ). decimal_at (get_or a.most.now w.i 0) b a.text.now w.at) (sym c.end_byte-end.ensures)
    ∙ sym c.decimal_at.ensures
    ∙ c.in_err-value.was in
    c.from_residual.ensures
    ∙ not-numbers a.most.now (drop a.place a.text.now)
    (left-none a.most.now (drop a.place a.text.now) a.text.now w.values w.at w.i w.invariant.1 c.loop-i-test.true c.requires n)

pub returns-then-at-text : goal.returns-then-at-text
returns-then-at-text c =
    let a = c.args in
    let w = c.loop-i in
    not-numbers a.most.now (drop a.place a.text.now)
    (left_over a.most.now (drop a.place a.text.now) a.text.now w.values w.at w.i w.invariant.1 c.loop-i-test.false w.invariant.0 c.if-at-text.true)

pub returns : goal.returns
returns c =
    let a = c.args in
    let w = c.loop-i in
    left-done a.most.now (drop a.place a.text.now) a.text.now w.values w.at w.i w.invariant.1 c.loop-i-test.false w.invariant.0 c.if-at-text.false

-- `listing::replay::put_events` meets its contract: the lines so far and those of the events that are left are all.
use Prim.Native.Nat.{suc, ◌+◌, ◌-◌}
use mathlib.Core.Path.{◌≡◌, refl, sym, ◌∙◌}
use native.Mathlib.Omega.{arith}
use borrow.Author.Tests.{not-true, not-false}
use Rattle.state.specs.Updates.{whole}
use Rattle.replay_steps.specs.FileSteps.{stepped_with}
use Rattle.replay_steps.proofs.FileLaws.{goes_on, stops-here, stays, none_left}
use Rattle.trace_records.specs.Layout.{most_events}
use Rattle.listing.proofs.PrintLaws.{printed-none, printed-next, printed-all, line-next, line-none}
use Rattle.listing.proofs.replay.put_events.Goals as goal

pub loop-i-init : goal.loop-i-init
loop-i-init c = (c.requires.0, refl, omega arith, refl, printed-none _ _ _)

pub step_at-step-requires : goal.step_at-step-requires
step_at-step-requires c = (c.loop-i.invariant.0, refl)

pub put_event-here-requires : goal.put_event-here-requires
put_event-here-requires c = (omega arith, omega (arith, c.requires.1, c.loop-i.invariant.1, c.loop-i.invariant.2))

pub loop-i-preserved : goal.loop-i-preserved
loop-i-preserved c =
    let t = c.step_at-step in
    let r = stepped_with t.result t.new.dues t.new.amounts in
    let p = c.put_event-here in
    let w = c.loop-i in
    let a = c.args in
    let s = whole w.s w.dues w.amounts in
    let k : most_events - w.i ≡ suc (most_events - (w.i + 1)) = omega arith in
    let g = goes_on s a.file.now w.offset (most_events - (w.i + 1)) r t.ensures.amounts_after (not-false _ c.if-not-step.false) in (
      t.ensures.amounts_after_2,
      p.auto.out ∙ w.invariant.1,
      omega (arith, w.invariant.2, p.ensures.upper_bound),
      sym g.state ∙ rw k at w.invariant.3,
      printed-next _ _ (omega (arith, c.requires.1, w.invariant.2)) w.invariant.4 (rw k (line-next s a.file.now w.offset (most_events - (w.i + 1)) w.i r g)) p.ensures.put,
    )

pub shape_of-out-after-loop-i : goal.shape_of-out-after-loop-i
shape_of-out-after-loop-i c = c.loop-i.invariant.1

pub returns-after-loop-i : goal.returns-after-loop-i
returns-after-loop-i c =
    let w = c.loop-i in
    let a = c.args in
    let s = whole w.s w.dues w.amounts in
    let k : most_events - w.i ≡ 0 = omega arith in
    let z = none_left s a.file.now w.offset in
    record {
      put = printed-all w.invariant.4 (rw k (line-none s a.file.now w.offset 0 w.i z));
      amounts_after = (sym z.state ∙ rw k at w.invariant.3, w.invariant.0, omega arith);
    }

pub shape_of-out-then-not-step : goal.shape_of-out-then-not-step
shape_of-out-then-not-step c = c.loop-i.invariant.1

pub returns-then-not-step : goal.returns-then-not-step
returns-then-not-step c =
    let t = c.step_at-step in
    let r = stepped_with t.result t.new.dues t.new.amounts in
    let w = c.loop-i in
    let a = c.args in
    let s = whole w.s w.dues w.amounts in
    let m = not-true _ c.if-not-step.true in
    let z = stops-here s a.file.now w.offset (most_events - w.i) r t.ensures.amounts_after m in
    record {
      put = printed-all w.invariant.4 (line-none s a.file.now w.offset (most_events - w.i) w.i z);
      amounts_after = (stays s a.file.now w.offset 0 r t.ensures.amounts_after m ∙ sym z.state ∙ w.invariant.3, t.ensures.amounts_after_2, omega arith);
    }

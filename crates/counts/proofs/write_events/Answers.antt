-- `counts::write_events` meets its contract: what has been told and what the events that are left tell add up to the whole.
use Rattle.std.proofs.Common.{ℕ, suc, ◌+◌, ◌-◌, ◌≤◌, ◌≡◌, List, length, refl, sym, ap, ◌∙◌}
use native.Mathlib.Omega.{arith}
use borrow.Author.Tests.{not-true, not-false}
use Rattle.trace_records.specs.Layout.{most_events}
use Rattle.state.specs.Updates.{whole}
use Rattle.replay_steps.proofs.FileLaws.{none_left}
use Rattle.counts_text.specs.Sums.{added}
use Rattle.counts_steps.specs.CountSteps.{counted_with, sums_from}
use Rattle.counts_steps.proofs.CountLaws.{no-sums, leads-on, ends-here, no_steps, sums-start, sums-carry, sums_same, sums-all}
use Rattle.counts.proofs.write_events.Goals as goal

pub loop-i-init : goal.loop-i-init
loop-i-init g c =
    let a = c.args in (
      c.requires.0,
      no-sums,
      refl,
      sums-start (whole a.opened a.dues.now a.amounts.now) a.file.now a.first most_events,
      refl,
    )

pub count_at-step-requires : goal.count_at-step-requires
count_at-step-requires g c =
    let i = c.loop-i.invariant in
    (i.0, omega arith, i.1, omega (arith, i.2, c.requires.1))

pub returns-then-not-step : goal.returns-then-not-step
returns-then-not-step g c =
    let w = c.loop-i in
    let i = w.invariant in
    let p = c.count_at-step in
    let s = whole w.s w.dues w.amounts in
    let z = ends-here w.i s c.args.file.now w.offset (most_events - w.i) (counted_with p.result p.new.dues p.new.amounts) p.ensures.amounts_after (not-true _ c.if-not-step.true) in
    (p.ensures.amounts_after_2.0, p.ensures.sums_after ∙ sums_same w.sums z ∙ sums-all w.sums i.3 z.sums, z.stays ∙ sym z.state ∙ i.4)

pub write-requires : goal.write-requires
write-requires g c =
    let p = c.count_at-step in
    omega (arith, p.ensures.amounts_after_2.2, p.auto.out, c.loop-i.invariant.2, c.requires.1)

pub loop-i-preserved : goal.loop-i-preserved
loop-i-preserved g c =
    let w = c.loop-i in
    let i = w.invariant in
    let p = c.count_at-step in
    let x = counted_with p.result p.new.dues p.new.amounts in
    let k : most_events - w.i ≡ suc (most_events - (w.i + 1)) = omega arith in
    let h = leads-on w.i (whole w.s w.dues w.amounts) c.args.file.now w.offset (most_events - (w.i + 1)) x p.ensures.amounts_after (not-false _ c.if-not-step.false) in (
      p.ensures.amounts_after_2.0,
      p.ensures.amounts_after_2.1,
      p.auto.out ∙ i.2,
      ap (λ (xs : List ℕ). added xs (sums_from x.state c.args.file.now x.offset (most_events - (w.i + 1)))) p.ensures.sums_after
          ∙ sums-carry w.sums i.1.all h
          ∙ rw k at i.3,
      sym h.state ∙ rw k at i.4,
    )

pub returns : goal.returns
returns g c =
    let w = c.loop-i in
    let i = w.invariant in
    let s = whole w.s w.dues w.amounts in
    let k : most_events - w.i ≡ 0 = omega arith in
    (i.0, sums-all w.sums (rw k at i.3) (no_steps s c.args.file.now w.offset), sym (none_left s c.args.file.now w.offset).state ∙ rw k at i.4)

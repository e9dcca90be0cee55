-- `share_summary::leading` meets its contract: of the threads so far the first with the most and the first with the least run time.
use Prim.Native.Nat.{ℕ}
use mathlib.Core.Bool.{cond}
use mathlib.Core.Path.{◌≡◌, refl, sym, ap, ◌∙◌}
use native.Mathlib.Numerals.{add-one}
use native.Mathlib.Omega.{arith}
use lib.Dec.{ltb}
use borrow.Author.Tests.{lt-ltb, le-ltb}
use Rattle.base.proofs.TestLaws.{cond-true, cond-false}
use Rattle.shares.specs.Shares.{total_at}
use Rattle.share_summary.specs.declared.Leader.{Leader}
use Rattle.share_summary.specs.Summaries.{most_of, least_of}
use Rattle.share_summary.specs.Private.{leader_at}
use Rattle.share_summary.proofs.SummaryLaws.{most-next, least-next}
use Rattle.share_summary.proofs.leading.Goals as goal

pub loop-i-init : goal.loop-i-init
unfolding most_of least_of
loop-i-init c = (refl, refl)

pub loop-i-preserved : goal.loop-i-preserved
loop-i-preserved c =
    let m = c.if-most-here in
    let l = c.if-here-least in
    let w = c.loop-i in
    let ts = c.args.threads.now in
    let h : Leader = record { thread = w.i; total = total_at ts c.from.result } in
    let more : m.most ≡ cond (ltb w.most.total h.total) h w.most =
    elim m.branch [
      | goal.then-most-here p ↦ p.most-is ∙ sym (cond-true _ h w.most (lt-ltb _ _ p.if-most-here.true))
      | goal.else-most-here p ↦ p.most-is ∙ sym (cond-false _ h w.most (le-ltb _ _ p.if-most-here.false))
    ] in
    let less : l.least ≡ cond (ltb h.total w.least.total) h w.least =
    elim l.branch [
      | goal.then-here-least p ↦ p.least-is ∙ sym (cond-true _ h w.least (lt-ltb _ _ p.if-here-least.true))
      | goal.else-here-least p ↦ p.least-is ∙ sym (cond-false _ h w.least (le-ltb _ _ p.if-here-least.false))
    ] in (
      rw c.from.ensures at more ∙ ap (λ (x : Leader). cond (ltb x.total (total_at ts w.i)) (leader_at ts w.i) x) w.invariant.0 ∙ most-next ts w.i ∙ ap (λ (k : ℕ). leader_at ts (most_of ts k)) (sym (add-one w.i)),
      rw c.from.ensures at less ∙ ap (λ (x : Leader). cond (ltb (total_at ts w.i) x.total) (leader_at ts w.i) x) w.invariant.1 ∙ least-next ts w.i ∙ ap (λ (k : ℕ). leader_at ts (least_of ts k)) (sym (add-one w.i)),
    )

pub returns : goal.returns
returns c =
    let w = c.loop-i in
    let a = c.args in
    let z : w.i ≡ a.n = omega arith in
    λ j. record { most = (w.invariant.0 ∙ ap (λ (k : ℕ). leader_at a.threads.now (most_of a.threads.now k)) z) j; least = (w.invariant.1 ∙ ap (λ (k : ℕ). leader_at a.threads.now (least_of a.threads.now k)) z) j }

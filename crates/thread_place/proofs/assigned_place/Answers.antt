-- `thread_place::assigned_place` meets its contract: a blocked thread has no list, and a sporadic one that is not at its upper priority the low one.
use Prim.Native.Nat.{ℕ, ◌≤◌, ◌<◌}
use native.Mathlib.Omega.{arith}
use mathlib.Core.Bool.{false}
use mathlib.Core.Path.{◌≡◌, refl, sym, ◌∙◌}
use borrow.Author.Tests.{lt-ltb, le-ltb}
use Rattle.base.proofs.TestLaws.{cond-true, cond-false}
use Rattle.sporadic.specs.Rules.{at_upper}
use Rattle.thread.specs.declared.Thread.{Thread}
use Rattle.thread.specs.Thread.{place_of}
use Rattle.records.proofs.PolicyLaws.{policy-low, policy-sporadic}
use Rattle.thread_place.proofs.assigned_place.Goals as goal

module _ (t : Thread) (count : ℕ) where
  none : {r : ℕ} → r ≡ 0 → 0 < t.blocked → r ≡ place_of t count
  none e h = e ∙ sym (cond-true _ 0 _ (lt-ltb _ _ h))

  lower : {r : ℕ} → r ≡ t.parameters.low → t.blocked ≤ 0 → 2 ≤ t.parameters.policy
      → at_upper t.parameters t.server.capacity count ≡ false → r ≡ place_of t count
  lower e b h u =
      e
      ∙ simp (le-ltb _ _ b)
      (sym (policy-sporadic t.parameters.policy _ _ _ h ∙ cond-false _ t.parameters.priority t.parameters.low u))

pub returns-then-t-gt0 : goal.returns-then-t-gt0
returns-then-t-gt0 c = let a = c.args in none a.t a.count (refl {a = 0}) c.if-t-gt0.true

pub returns-then-p-lt-SCHED_SPORADIC : goal.returns-then-p-lt-SCHED_SPORADIC
returns-then-p-lt-SCHED_SPORADIC c = simp (le-ltb _ _ c.if-t-gt0.false) (sym (policy-low _ _ _ c.if-p-lt-SCHED_SPORADIC.true))

pub returns-then-at_upper : goal.returns-then-at_upper
returns-then-at_upper c =
    let t = c.args.t in
    simp (le-ltb _ _ c.if-t-gt0.false)
    (sym
    (policy-sporadic t.parameters.policy _ _ _ (omega arith)
    ∙ cond-true _ t.parameters.priority t.parameters.low (sym c.at_upper.ensures ∙ c.if-at_upper.true)))

pub returns : goal.returns
returns c =
    let b = c in
    let a = b.args in
    lower a.t a.count (refl {a = a.t.parameters.low}) b.if-t-gt0.false (omega arith) (sym c.at_upper.ensures ∙ c.if-at_upper.false)

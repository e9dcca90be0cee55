-- `thread_sound::left_holds` meets its contract.
use Prim.Native.Nat.{ℕ}
use mathlib.Core.Bool.{Bool}
use mathlib.Core.List.{List, [], ◌∷◌}
use mathlib.Core.Path.{◌≡◌, sym, ap, ◌∙◌}
use lib.Dec.{leb, eqb}
use borrow.Author.Tests.{lt-leb, le-leb}
use Rattle.base.specs.Tests.{all}
use Rattle.records.specs.Ranges.{by_policy}
use Rattle.base.proofs.TestLaws.{all-false, all_one}
use Rattle.thread.specs.declared.Thread.{Thread}
use Rattle.state.specs.Sound.{left_tests}
use Rattle.records.proofs.PolicyLaws.{policy-not-rr}
use Rattle.thread_sound.proofs.left_holds.Goals as goal

module _ (t : Thread) where
  abbrev zero : List Bool
  zero = eqb t.left 0 ∷ []

  abbrev range : List Bool
  range = leb 1 t.left ∷ leb t.left t.parameters.budget ∷ []

  rr : t.parameters.policy ≡ 1 → left_tests t ≡ range
  rr e = ap (λ (c : ℕ). by_policy c zero range zero) e

  other : (t.parameters.policy ≡ 1 → ⊥) → left_tests t ≡ zero
  other h = policy-not-rr t.parameters.policy zero range h

pub returns-then-t-ne-SCHED_RR : goal.returns-then-t-ne-SCHED_RR
unfolding all
returns-then-t-ne-SCHED_RR c =
    let t = c.args.t in
    sym (ap all (other t c.if-t-ne-SCHED_RR.true) ∙ all_one (eqb t.left 0))

pub returns-then-t-lt1 : goal.returns-then-t-lt1
returns-then-t-lt1 c =
    let t = c.args.t in
    sym (ap all (rr t c.if-t-ne-SCHED_RR.false) ∙ all-false _ 0 (lt-leb 1 t.left c.if-t-lt1.true))

pub returns : goal.returns
unfolding all
returns c =
    let t = c.args.t in
    sym (ap all (rr t c.if-t-ne-SCHED_RR.false) ∙ simp (le-leb 1 t.left c.if-t-lt1.false, all_one))

-- What it means that a set is not refused.
use Prim.Native.Nat.{ℕ, ◌+◌, ◌-◌, ◌≤◌, ◌<◌}
use mathlib.Core.Bool.{Bool, true, false, cond, ◌&&◌, ◌||◌}
use mathlib.Core.Path.{◌≡◌, refl, sym, ◌∙◌}
use lib.Dec.{ltb, leb, eqb}
use native.Mathlib.Omega.{arith}
use borrow.Author.Tests.{ltb-false, leb-false, eqb-false}
use Rattle.base.proofs.TestLaws.{false-true}
use Rattle.records.specs.declared.Parameters.{Parameters}
use Rattle.sporadic.specs.Rules.{at_upper}
use Rattle.sporadic.specs.Carry.{budget_too_small, too_many_pending, cant_carry}

or-false : (x y : Bool) → (x || y) ≡ false → (x ≡ false) × (y ≡ false)
or-false true y e = false-true (sym e)
or-false false y e = (refl, e)

-- what is not refused: the new capacity is no difference below 0, a capacity stays one, and there is room; `up`: runnable at the upper priority
pub record Carries (up : Bool) (old new : Parameters) (capacity count : ℕ) : Type 0 where
  pub enough : old.budget ≤ capacity + new.budget
  pub left : 0 < capacity → old.budget < capacity + new.budget
  pub within : count ≤ new.max_repl
  pub room : up ≡ true → count < new.max_repl

module _ (old new : Parameters) (capacity count : ℕ) where
  carries-from : (up : Bool) → budget_too_small old new capacity ≡ false → too_many_pending up new count ≡ false → Carries up old new capacity count
  carries-from up e f =
      let b = budget (ltb new.budget old.budget) refl e in
      let r = or-false (ltb new.max_repl count) (eqb new.max_repl count && up) f in
      let w = ltb-false new.max_repl count r.0 in
      record { enough = b.0; left = b.1; within = w; room = fewer w (eqb new.max_repl count) refl r.1 }
    where
      budget : (b : Bool) → ltb new.budget old.budget ≡ b → (b && leb capacity (old.budget - new.budget)) ≡ false
          → (old.budget ≤ capacity + new.budget) × (0 < capacity → old.budget < capacity + new.budget)
      budget true q g = let l = leb-false capacity (old.budget - new.budget) g in omega arith
      budget false q g = let l = ltb-false new.budget old.budget q in omega arith

      fewer : count ≤ new.max_repl → (b : Bool) → eqb new.max_repl count ≡ b → (b && up) ≡ false → up ≡ true → count < new.max_repl
      fewer w true q g u = false-true (sym g ∙ u)
      fewer w false q g u = let n = eqb-false new.max_repl count q in omega arith

  pub carries : (blocked : Bool) → cant_carry blocked old new capacity count ≡ false → Carries (cond blocked false (at_upper old capacity count)) old new capacity count
  unfolding cant_carry
  carries blocked e =
      let up = cond blocked false (at_upper old capacity count) in
      let r = or-false (budget_too_small old new capacity) (too_many_pending up new count) e in
      carries-from up r.0 r.1

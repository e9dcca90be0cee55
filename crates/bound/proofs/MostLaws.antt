-- The stretches that are begun, by quotient and remainder; and what the parameters of a sporadic thread are.
use Prim.Native.Nat.{ℕ, ◌+◌, ◌-◌, ◌*◌, ◌/◌, ◌%◌, ◌≤◌, ◌<◌, min}
use mathlib.Core.Bool.{true}
use mathlib.Core.Path.{◌≡◌, sym, ◌∙◌}
use native.Mathlib.Omega.{arith}
use native.Mathlib.Nat.{div-add-mod', mod-lt, div-eq_of_lt-le, mul-le-mul_left}
use borrow.Author.Tests.{eqb-true}
use Rattle.base.proofs.TestLaws.{tests, all_true}
use Rattle.records.specs.declared.Parameters.{Parameters}
use Rattle.records.specs.Ranges.{fifo_in_range, rr_in_range, sporadic_in_range, in_range, most_replenishments}
use Rattle.records.proofs.PolicyLaws.{by_two}
use Rattle.bound.specs.Most.{sporadic_thread}

-- of a stretch s, in which d ticks at most are run
module _ (length s d : ℕ) (some : 0 < s) (few : d ≤ s) where
  -- the whole stretches give no more than the length
  pub whole-within : length / s * d ≤ length
  whole-within = omega (arith, mul-le-mul_left (length / s) few, div-add-mod' length s)

  -- none is begun beside them, or one
  even : length % s ≡ 0 → (length + s - 1) / s ≡ length / s
  even z = div-eq_of_lt-le s (omega (arith, div-add-mod' length s)) (omega (arith, div-add-mod' length s))

  odd : (length % s ≡ 0 → ⊥) → (length + s - 1) / s ≡ length / s + 1
  odd z = div-eq_of_lt-le s (omega (arith, div-add-mod' length s)) (omega (arith, div-add-mod' length s, mod-lt length some))

  pub most-even : length % s ≡ 0 → length / s * d ≡ min length ((length + s - 1) / s * d)
  most-even z = rw (even z) (omega (arith, whole-within))

  pub most-odd : (length % s ≡ 0 → ⊥) → d < length - length / s * d → length / s * d + d ≡ min length ((length + s - 1) / s * d)
  most-odd z l = rw (odd z) (omega arith)

  pub most-all : (length % s ≡ 0 → ⊥) → length - length / s * d ≤ d → length ≡ min length ((length + s - 1) / s * d)
  most-all z l = rw (odd z) (omega arith)

-- a budget of at least a tick, and at most the period
pub record Budget (p : Parameters) : Type 0 where
  pub some : 1 ≤ p.budget
  pub within : p.budget ≤ p.period
  pub few : p.period ≤ 1000000000

pub budget : (p : Parameters) → sporadic_thread p ≡ true → Budget p
unfolding sporadic_thread in_range sporadic_in_range
budget p e =
    let x = all_true _ e in
    let y = all_true _ x.1.1.0 in
    let z = all_true _ (sym (by_two p.policy (fifo_in_range p) (rr_in_range p) (sporadic_in_range most_replenishments p) (eqb-true p.policy 2 x.0)) ∙ y.1.1.1.0) in
    record { some = omega (tests, z); within = omega (tests, z); few = omega (tests, z) }

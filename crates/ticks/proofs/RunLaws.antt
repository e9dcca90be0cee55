-- A thread's ticks and its limit, by policy.
use Prim.Native.Nat.{ℕ, ◌+◌, ◌-◌}
use mathlib.Core.Path.{◌≡◌, ◌∙◌}
use lib.Dec.{eqb}
use native.Mathlib.Omega.{arith}
use borrow.Author.Tests.{eq-eqb, ne_eqb}
use Rattle.records.proofs.PolicyLaws.{by_one, by-more}
use Rattle.base.proofs.TestLaws.{cond-true, cond-false}
use Rattle.sporadic.specs.declared.Server.{Server}
use Rattle.sporadic.specs.Rules.{charged}
use Rattle.thread.specs.declared.Thread.{Thread}
use Rattle.ticks.specs.Running.{limit_of}

-- no ticks charge nothing
pub charged-none : (v : Server) → charged 0 v ≡ v
charged-none v = λ x. record { capacity = m v.capacity x; used = n v.used x; activation = v.activation }
  where
    m : (a : ℕ) → a - 0 ≡ a
    m a = omega arith

    n : (a : ℕ) → a + 0 ≡ a
    n a = omega arith

module _ (now p : ℕ) (t : Thread) where
  pub limit-rr : t.parameters.policy ≡ 1 → limit_of now p t ≡ now + t.left
  limit-rr z = by_one t.parameters.policy _ _ _ z

  module _ (d : t.parameters.policy ≡ 0 → ⊥) (e : t.parameters.policy ≡ 1 → ⊥) where
    pub limit-upper : p ≡ t.parameters.priority → limit_of now p t ≡ now + t.server.capacity
    limit-upper q = by-more t.parameters.policy _ _ _ d e ∙ cond-true (eqb p t.parameters.priority) _ _ (eq-eqb p t.parameters.priority q)

    pub limit-lower : (p ≡ t.parameters.priority → ⊥) → limit_of now p t ≡ 0
    limit-lower q = by-more t.parameters.policy _ _ _ d e ∙ cond-false (eqb p t.parameters.priority) _ _ (ne_eqb p t.parameters.priority q)

-- What an event does to the thread that it concerns, by its kind.
use Prim.Native.Nat.{ℕ, zero, suc, ◌<◌}
use mathlib.Core.Path.{◌≡◌, refl, sym, ap}
use native.Mathlib.Omega.{arith}
use Rattle.records.specs.declared.Parameters.{Parameters}
use Rattle.account.specs.declared.Account.{Account}
use Rattle.thread.specs.declared.Thread.{Thread}
use Rattle.events.specs.Events.{change_of}

module _ (kind now : ℕ) (p : Parameters) (t : Thread) (a : Account) where
  pub change-at : (k : ℕ) → kind ≡ k → change_of k now p t a ≡ change_of kind now p t a
  change-at k z = ap (λ (x : ℕ). change_of x now p t a) (sym z)

  -- any kind but the first four
  pub change-last : 0 < kind → (kind ≡ 1 → ⊥) → (kind ≡ 2 → ⊥) → (kind ≡ 3 → ⊥) → change_of 4 now p t a ≡ change_of kind now p t a
  unfolding change_of
  change-last = go kind
    where
      go : (k : ℕ) → 0 < k → (k ≡ 1 → ⊥) → (k ≡ 2 → ⊥) → (k ≡ 3 → ⊥) → change_of 4 now p t a ≡ change_of k now p t a
      go zero l x y z = absurd (omega arith)
      go (suc zero) l x y z = absurd (x refl)
      go (suc (suc zero)) l x y z = absurd (y refl)
      go (suc (suc (suc zero))) l x y z = absurd (z refl)
      go (suc (suc (suc (suc k)))) l x y z = refl

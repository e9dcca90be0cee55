-- Cases of a policy.
use Prim.Native.Nat.{ℕ, zero, suc, ◌≤◌, ◌<◌}
use mathlib.Core.Path.{◌≡◌, refl}
use native.Mathlib.Omega.{arith}
use Rattle.records.specs.Ranges.{by_policy}

-- for a property of the result
pub policy-elim : {A : Type 0} (P : A → Type 0) (c : ℕ) (x y z : A) → (c ≡ 0 → P x) → (c ≡ 1 → P y) → (1 < c → P z) → P (by_policy c x y z)
policy-elim P zero x y z f g h = f refl
policy-elim P (suc zero) x y z f g h = g refl
policy-elim P (suc (suc c)) x y z f g h = h (omega arith)

-- the policies that are not sporadic, and those that are not RR
pub policy-low : {A : Type 0} (c : ℕ) (x y : A) → c < 2 → by_policy c x x y ≡ x
policy-low zero x y h = refl
policy-low (suc zero) x y h = refl
policy-low (suc (suc c)) x y h = absurd (omega arith)

pub policy-sporadic : {A : Type 0} (c : ℕ) (x y z : A) → 2 ≤ c → by_policy c x y z ≡ z
policy-sporadic zero x y z h = absurd (omega arith)
policy-sporadic (suc zero) x y z h = absurd (omega arith)
policy-sporadic (suc (suc c)) x y z h = refl

pub policy-not-rr : {A : Type 0} (c : ℕ) (x y : A) → (c ≡ 1 → ⊥) → by_policy c x y x ≡ x
policy-not-rr zero x y h = refl
policy-not-rr (suc zero) x y h = absurd (h refl)
policy-not-rr (suc (suc c)) x y h = refl

-- by the policy that it is
pub by_zero : {A : Type 0} (c : ℕ) (x y z : A) → c ≡ 0 → by_policy c x y z ≡ x
by_zero zero x y z e = refl
by_zero (suc c) x y z e = absurd (omega arith)

pub by_one : {A : Type 0} (c : ℕ) (x y z : A) → c ≡ 1 → by_policy c x y z ≡ y
by_one zero x y z e = absurd (omega arith)
by_one (suc zero) x y z e = refl
by_one (suc (suc c)) x y z e = absurd (omega arith)

pub by_two : {A : Type 0} (c : ℕ) (x y z : A) → c ≡ 2 → by_policy c x y z ≡ z
by_two zero x y z e = absurd (omega arith)
by_two (suc zero) x y z e = absurd (omega arith)
by_two (suc (suc c)) x y z e = refl

pub by-more : {A : Type 0} (c : ℕ) (x y z : A) → (c ≡ 0 → ⊥) → (c ≡ 1 → ⊥) → by_policy c x y z ≡ z
by-more zero x y z d e = absurd (d refl)
by-more (suc zero) x y z d e = absurd (e refl)
by-more (suc (suc c)) x y z d e = refl

-- The earlier of two moments, by cases.
use Prim.Native.Nat.{ℕ, zero, suc, ◌≤◌, ◌<◌}
use mathlib.Core.Path.{◌≡◌, refl}
use native.Mathlib.Omega.{arith}
use Rattle.ticks.specs.Running.{earlier}

pub earlier-none : (a b : ℕ) → b ≡ 0 → earlier a b ≡ a
earlier-none zero b e = e
earlier-none (suc a) zero e = refl
earlier-none (suc a) (suc b) e = absurd (omega arith)

pub earlier-first : (a b : ℕ) → 0 < a → a ≤ b → earlier a b ≡ a
earlier-first zero b p l = absurd (omega arith)
earlier-first (suc a) zero p l = absurd (omega arith)
earlier-first (suc a) (suc b) p l = omega arith

pub earlier-second : (a b : ℕ) → 0 < b → b ≤ a → earlier a b ≡ b
earlier-second zero b p l = refl
earlier-second (suc a) zero p l = absurd (omega arith)
earlier-second (suc a) (suc b) p l = omega arith

-- it is one of the two, and the other is none or no earlier
pub earlier-other : (a b : ℕ) → (a ≡ earlier a b → ⊥) → (earlier a b ≡ b) × (0 < a → b < a)
earlier-other zero b d = (refl, λ p. absurd (omega arith))
earlier-other (suc a) zero d = absurd (d refl)
earlier-other (suc a) (suc b) d = (omega (arith, d), λ p. omega (arith, d))

pub earlier-left : (a b : ℕ) → 0 < a → (0 < earlier a b) × (earlier a b ≤ a)
earlier-left zero b h = absurd (omega arith)
earlier-left (suc a) zero h = omega arith
earlier-left (suc a) (suc b) h = omega arith

pub earlier-right : (a b : ℕ) → 0 < b → (0 < earlier a b) × (earlier a b ≤ b)
earlier-right zero b h = omega arith
earlier-right (suc a) zero h = absurd (omega arith)
earlier-right (suc a) (suc b) h = omega arith

pub earlier-above : (m a b : ℕ) → (0 < a → m < a) → (0 < b → m < b) → 0 < earlier a b → m < earlier a b
earlier-above m zero b p q h = q h
earlier-above m (suc a) zero p q h = p h
earlier-above m (suc a) (suc b) p q h = omega (arith, p (omega arith), q (omega arith))

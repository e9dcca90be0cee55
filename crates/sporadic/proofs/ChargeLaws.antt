-- Charging, tick by tick: it adds up, and moves neither the limit nor any due.
use Prim.Native.Nat.{ℕ, ◌+◌, ◌-◌, ◌≤◌}
use mathlib.Core.Path.{◌≡◌, refl}
use native.Mathlib.Omega.{arith}
use Rattle.records.specs.declared.Parameters.{Parameters}
use Rattle.sporadic.specs.declared.Server.{Server}
use Rattle.sporadic.specs.Rules.{charged, due_of}

-- i ticks and then j are i + j
pub charge-add : (i j : ℕ) (s : Server) → charged j (charged i s) ≡ charged (i + j) s
charge-add i j s = λ x. record { capacity = c x; used = u x; activation = s.activation }
  where
    c : s.capacity - i - j ≡ s.capacity - (i + j)
    c = omega arith

    u : s.used + i + j ≡ s.used + (i + j)
    u = omega arith

-- the limit stays at its instant
pub charge-limit : (now k : ℕ) (s : Server) → k ≤ s.capacity → now + k + (charged k s).capacity ≡ now + s.capacity
charge-limit now k s h = omega arith

-- what is charged comes back at the same due
pub charge-due : (k : ℕ) (p : Parameters) (s : Server) → due_of p (charged k s) ≡ due_of p s
charge-due k p s = refl

-- capacity and U keep their sum
pub charge-sum : (k : ℕ) (s : Server) → k ≤ s.capacity → (charged k s).capacity + (charged k s).used ≡ s.capacity + s.used
charge-sum k s h = omega arith

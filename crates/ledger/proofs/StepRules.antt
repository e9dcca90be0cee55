-- What a property of a thread's account and its steps has to keep, rule by rule, for it to hold over the executive's.
use Prim.Native.Nat.{ℕ, ◌+◌, ◌≤◌, ◌<◌}
use mathlib.Core.Bool.{Bool, true, false}
use mathlib.Core.Path.{◌≡◌}
use mathlib.Core.List.{List, [], ◌∷◌, ◌++◌}
use Rattle.records.specs.declared.Parameters.{Parameters}
use Rattle.sporadic.specs.declared.Server.{Server}
use Rattle.sporadic.specs.Rules.{charged, limit_effect, block_effect, wake_effect}
use Rattle.account.specs.declared.Account.{Account}
use Rattle.account.specs.Account.{is_upper}
use Rattle.account.specs.Rules.{applied, first_is_due, return_first}
use Rattle.account_laws.proofs.SoundLaws.{AccountSound, made}
use Rattle.reports.specs.Steps.{Step}
use Rattle.reports.specs.Steps.Step.{ran, limit, effect}

-- of the time now, whether the thread is blocked, its parameters, its account and its steps so far
abbrev pub Property : Type 1
Property = ℕ → Bool → Parameters → Account → List Step → Type 0

pub record StepRules (G : Property) : Type 0 where
  -- time in which the thread runs no tick at its upper priority
  pub passes : (now k : ℕ) (b : Bool) (p : Parameters) (a : Account) (xs : List Step) → G now b p a xs → G (now + k) b p a xs
  -- ticks at the upper priority
  pub charges : (start now lo k : ℕ) (p : Parameters) (a : Account) (xs : List Step) → G now false p a xs → AccountSound start now lo true p a → is_upper p a ≡ true
      → k ≤ a.server.capacity → G (now + k) false p (made (charged k a.server) a.pending) (xs ++ ran k a.server.activation ∷ [])
  -- the limit
  pub limits : (start now lo : ℕ) (p : Parameters) (a : Account) (xs : List Step) → G now false p a xs → AccountSound start now lo true p a
      → a.pending.count < p.max_repl → p.max_repl ≤ 8 → a.server.capacity ≡ 0
      → G now false p (applied (limit_effect now false p a.server) a) (xs ++ limit ∷ effect now p.period (limit_effect now false p a.server) ∷ [])
  -- the first entry comes back
  pub returns : (start now lo : ℕ) (up b : Bool) (p : Parameters) (a : Account) (xs : List Step) → G now b p a xs → AccountSound start now lo up p a
      → first_is_due now a.pending ≡ true → G now b p (applied (return_first now b p a) a) (xs ++ effect now p.period (return_first now b p a) ∷ [])
  -- a block, and a wake
  pub blocks : (start now lo : ℕ) (up : Bool) (p : Parameters) (a : Account) (xs : List Step) → G now false p a xs → AccountSound start now lo up p a
      → (up ≡ true → a.pending.count < p.max_repl) → p.max_repl ≤ 8
      → G now true p (applied (block_effect now false p a.server) a) (xs ++ effect now p.period (block_effect now false p a.server) ∷ [])
  pub wakes : (now : ℕ) (p : Parameters) (a : Account) (xs : List Step) → G now true p a xs → a.server.activation ≤ now
      → G now false p (applied (wake_effect now true p a.pending.count a.server) a) xs

-- What is kept where parameters are set and the account is carried over to them (02 E7 2 and 3): capacity follows the budget, U and the
-- entries stay, and the activation time doesn't fall.
abbrev pub CarryRule : Property → Type 0
CarryRule G =
    (now : ℕ) (b : Bool) (old new : Parameters) (a : Account) (s : Server) (xs : List Step) → G now b old a xs → s.capacity + old.budget ≡ a.server.capacity + new.budget
    → s.used ≡ a.server.used → a.server.activation ≤ s.activation → G now b new (made s a.pending) xs

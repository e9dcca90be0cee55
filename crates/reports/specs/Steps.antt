-- The steps of 01's rules (02 E3 3): what happens to a thread, in the order in which it happens. What a rule does to an account is
-- its Effect, the very one that changes the state: so the state and what is told of it can't say different things.
use Rattle.std.specs.Prelude.{ℕ, cond, List, [], ◌∷◌, eqb}
use Rattle.sporadic.specs.declared.Effect.{Effect}

pub data Step : Type 0 where
  -- 01 Passing 3: so many ticks at the upper priority, under this activation time
  ran : ℕ → ℕ → Step
  -- 01 Passing 7: the quantum has ended
  quantum : Step
  -- 01 Passing 6: the limit is reached; what the rule does comes next
  limit : Step
  -- 01 Passing 9 to 15: what a rule does to the account, at this time and with this period in force
  effect : ℕ → ℕ → Effect → Step

-- a step of thread number `thread`
pub record Happening : Type 0 where
  pub thread : ℕ
  pub step : Step

abbrev pub Log : Type 0
Log = List Happening

abbrev pub happens : ℕ → Step → Happening
happens i x = record { thread = i; step = x }

-- the steps of thread i
abbrev pub steps_of : ℕ → Log → List Step
steps_of i [] = []
steps_of i (x ∷ xs) = cond (eqb x.thread i) (x.step ∷ steps_of i xs) (steps_of i xs)

-- How much a sporadic thread can take at its upper priority, by its parameters alone. This is no sentence of the papers; `history` proves it
-- of whole sequences of events.
use Rattle.std.specs.Prelude.{ℕ, ◌+◌, ◌-◌, ◌*◌, ◌/◌, min}
use Rattle.records.specs.declared.Parameters.{Parameters}

-- a stretch is a period and a budget; in each of them at most two budgets are run
abbrev pub stretch : Parameters → ℕ
stretch p = p.period + p.budget

-- the most in so many ticks: two budgets for each stretch that is begun, and never more than the ticks
abbrev pub most_upper : Parameters → ℕ → ℕ
most_upper p length = min length ((length + stretch p - 1) / stretch p * (2 * p.budget))

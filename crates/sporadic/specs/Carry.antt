-- A set to sporadic of a thread that is sporadic already (02 E7): its server is carried over to the new parameters, or the set is
-- refused. `count` entries pend, and stay.
use Rattle.std.specs.Prelude.{ℕ, ◌+◌, ◌-◌, ◌≤◌, ◌<◌, ◌^◌, Bool, false, cond, not, ◌&&◌, ◌||◌, ltb, leb, eqb}
use Rattle.records.specs.declared.Parameters.{Parameters}
use Rattle.sporadic.specs.declared.Server.{Server}
use Rattle.sporadic.specs.Rules.{at_upper}

-- 02 E7 2: capacity grows by what the new budget is above the old, or shrinks by what it is below
abbrev pub carried_capacity : Parameters → Parameters → ℕ → ℕ
carried_capacity old new capacity = capacity + new.budget - old.budget

-- 02 E7 5: a runnable thread goes from low to its upper priority
abbrev pub goes_up : Bool → Parameters → Parameters → ℕ → Server → Bool
goes_up blocked old new count s =
    not blocked && (not (at_upper old s.capacity count) && at_upper new (carried_capacity old new s.capacity) count)

-- 02 E7 2, 3 and 5: capacity follows the budget, U stays, and the activation time is now for a thread that goes up; any other keeps its own
unfoldable pub carried_server : ℕ → Bool → Parameters → Parameters → ℕ → Server → Server
carried_server now blocked old new count s =
    record {
      capacity = carried_capacity old new s.capacity;
      used = s.used;
      activation = cond (goes_up blocked old new count s) now s.activation;
    }

-- 02 E7 9: the budget falls by at least the capacity
abbrev pub budget_too_small : Parameters → Parameters → ℕ → Bool
budget_too_small old new capacity = ltb new.budget old.budget && leb capacity (old.budget - new.budget)

-- 02 E7 9: more pend than the new max_repl, or as many for a runnable thread at its upper priority (`up`)
abbrev pub too_many_pending : Bool → Parameters → ℕ → Bool
too_many_pending up new count = ltb new.max_repl count || (eqb new.max_repl count && up)

-- 02 E7 9: when a set is refused with 15
unfoldable pub cant_carry : Bool → Parameters → Parameters → ℕ → ℕ → Bool
cant_carry blocked old new capacity count =
    budget_too_small old new capacity || too_many_pending (cond blocked false (at_upper old capacity count)) new count

-- what carrying needs: the sum of capacity and new budget fits, and is no less than the old budget
abbrev pub Carryable : Parameters → Parameters → ℕ → Type 0
Carryable old new capacity = (capacity + new.budget < 2 ^ 64) × (old.budget ≤ capacity + new.budget)

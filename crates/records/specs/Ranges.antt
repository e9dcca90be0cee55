-- The ranges of 01's section Numbers, and when parameters are in range.
use mathlib.Core.{Bool.Bool, List.[], List.◌∷◌}
use Rattle.std.specs.Prelude.{ℕ, zero, suc, ltb, leb, eqb}
use Rattle.records.specs.declared.{Parameters.Parameters, Header.Header}
use Rattle.base.specs.Tests.{all}

-- 01 Numbers 1: at most 32 threads; thread numbers start at 0
abbrev pub most_threads : ℕ
most_threads = 32

-- 01 Numbers 2: priorities are 1 to 32, and 32 is the highest
abbrev pub highest_priority : ℕ
highest_priority = 32

-- 01 Numbers 3: the longest period, budget or quantum, in ticks
abbrev pub most_ticks : ℕ
most_ticks = 1000000000

-- 01 Numbers 4: the largest max_repl
abbrev pub most_replenishments : ℕ
most_replenishments = 8

-- 01 Numbers 5: the last time, 10^15
abbrev pub last_time : ℕ
last_time = 1000000000000000

-- 01 Numbers 6: how far an accepted event may be after the time now
abbrev pub longest_step : ℕ
longest_step = 1000000

-- by the number of a policy: 0 is SCHED_FIFO, 1 SCHED_RR, and any other SCHED_SPORADIC
abbrev pub by_policy : {A : Type 0} → ℕ → A → A → A → A
by_policy zero fifo rr sporadic = fifo
by_policy (suc zero) fifo rr sporadic = rr
by_policy (suc (suc n)) fifo rr sporadic = sporadic

-- 01 Numbers 10: SCHED_FIFO uses no parameter but the priority
unfoldable pub fifo_in_range : Parameters → Bool
fifo_in_range p = all (eqb p.low 0 ∷ eqb p.max_repl 0 ∷ eqb p.budget 0 ∷ eqb p.period 0 ∷ [])

-- 01 Numbers 9 and 10: SCHED_RR has a quantum, kept in the field `budget`
unfoldable pub rr_in_range : Parameters → Bool
rr_in_range p = all (eqb p.low 0 ∷ eqb p.max_repl 0 ∷ leb 1 p.budget ∷ leb p.budget most_ticks ∷ eqb p.period 0 ∷ [])

-- 01 Numbers 8: SCHED_SPORADIC has low below priority, max_repl up to `most`, and a budget of at most the period
unfoldable pub sporadic_in_range : ℕ → Parameters → Bool
sporadic_in_range most p =
    all
    (leb 1 p.low ∷ ltb p.low p.priority
    ∷ leb 1 p.max_repl ∷ leb p.max_repl most
    ∷ leb 1 p.budget ∷ leb p.budget p.period ∷ leb p.period most_ticks
    ∷ [])

-- 01 Status 7: parameters in range. The start flag has its own test where it is judged.
unfoldable pub in_range : ℕ → Parameters → Bool
in_range most p =
    all
    (leb 1 p.priority ∷ leb p.priority highest_priority
    ∷ leb p.policy 2 ∷ by_policy p.policy (fifo_in_range p) (rr_in_range p) (sporadic_in_range most p)
    ∷ [])

-- 01 Status 7: no parameter other than 0, the start flag included
unfoldable pub all_zero : Parameters → Bool
all_zero p = all (eqb p.policy 0 ∷ eqb p.priority 0 ∷ eqb p.flag 0 ∷ fifo_in_range p ∷ [])

-- 01 State 17: parameters of zeros, what stands past the last thread of a table
abbrev pub no_parameters : Parameters
no_parameters = record { policy = 0; priority = 0; low = 0; max_repl = 0; flag = 0; budget = 0; period = 0 }

-- 01 Status 20 and 21: a header of zeros, what a refused opening and a refused read have
abbrev pub no_header : Header
no_header = record { n = 0; start = 0 }

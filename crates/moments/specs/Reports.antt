-- What happens at a moment, as steps (02 E3 3), in the order and by the Effects of `Moments`; and what is told of the passing of time.
use Rattle.std.specs.Prelude.{ℕ, zero, suc, false, cond, ◌&&◌, [], ◌∷◌, ◌++◌, get_or, eqb}
use Rattle.records.specs.Ranges.{by_policy}
use Rattle.sporadic.specs.declared.Effect.{Effect}
use Rattle.sporadic.specs.Rules.{limit_effect}
use Rattle.account.specs.Rules.{first_is_due, return_first}
use Rattle.passing.specs.Reports.{Reports, reported_to}
use Rattle.reports.specs.Steps.{Happening, Log, happens}
use Rattle.reports.specs.Steps.Step.{quantum, limit, effect}
use Rattle.reports.specs.Tallies.{Tally, no_tallies, both, tallied}
use Rattle.thread.specs.declared.Thread.{Thread}
use Rattle.thread.specs.Thread.{is_blocked}
use Rattle.state.specs.declared.State.{State}
use Rattle.state.specs.State.{thread_at, pending_at, account_at}
use Rattle.ticks.specs.Running.{level, head, idles}
use Rattle.moments.specs.Moments.{limits, first_returned, replenish_below, clock}

-- what a rule did to thread i now
abbrev pub ruled : ℕ → Effect → State → Happening
ruled i e s = happens i (effect s.now (thread_at s i).parameters.period e)

-- 01 Passing 6 and 7: the limit or the end of the quantum of thread i, which runs in list p
abbrev pub limit_log_of : ℕ → ℕ → Thread → State → Log
limit_log_of p i t s =
    by_policy t.parameters.policy []
    (cond (eqb t.left 0) (happens i quantum ∷ []) [])
    (cond (eqb p t.parameters.priority && eqb t.server.capacity 0)
    (happens i limit ∷ ruled i (limit_effect s.now false t.parameters t.server) s ∷ [])
    [])

unfoldable pub limit_log : State → Log
limit_log s = cond (idles s) [] (limit_log_of (level s) (head s) (thread_at s (head s)) s)

-- 01 Passing 8: the first of thread i's entries comes back
abbrev pub return_log : ℕ → State → Happening
return_log i s = ruled i (return_first s.now (is_blocked (thread_at s i)) (thread_at s i).parameters (account_at s i)) s

-- 01 Passing 8: thread i's entries that are due now, one after the other, at most k of them
unfoldable pub replenish_log : ℕ → ℕ → State → Log
replenish_log zero i s = []
replenish_log (suc k) i s = cond (first_is_due s.now (pending_at s i)) (return_log i s ∷ replenish_log k i (first_returned i s)) []

-- 01 Passing 8: by thread number, of the threads below n
unfoldable pub below_log : ℕ → State → Log
below_log zero s = []
below_log (suc n) s = let u = replenish_below n s in below_log n s ++ replenish_log (get_or u.counts n 0) n u

-- 01 Passing 5 to 8: what happens at a moment, in this order
abbrev pub fire_log : State → Log
fire_log s = limit_log s ++ below_log s.header.n (limits s)

-- 02 E3 2 and 3: for each thread, over the steps; ticks alone are not told
abbrev pub tallies : Reports State (ℕ → Tally)
tallies = record { none = no_tallies; plus = both; charged = λ k s. no_tallies; fired = λ s. tallied (fire_log s) }

-- 02 E3 2: what is told of the passing of time from now up to t
abbrev pub reported : State → ℕ → ℕ → Tally
reported s t = reported_to clock tallies s t

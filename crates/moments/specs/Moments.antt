-- What happens at a moment, and the passing of time.
use Rattle.std.specs.Prelude.{ℕ, zero, suc, false, cond, ◌&&◌}
use lib.{ListN.get_or, Dec.eqb}
use Rattle.records.specs.Ranges.{by_policy}
use Rattle.account.specs.Rules.{first_is_due, return_first}
use Rattle.sporadic.specs.Rules.{limit_effect}
use Rattle.ready.specs.Lists.{moved}
use Rattle.passing.specs.Time.{Clock, advance}
use Rattle.thread.specs.{declared.Thread.Thread, Thread.is_blocked, Thread.with_left}
use Rattle.state.specs.{declared.State.State, State.thread_at, State.pending_at, State.account_at, Updates.with_thread, Updates.with_lists}
use Rattle.ticks.specs.Running.{level, head, idles, charge, next}
use Rattle.moments.specs.Changes.{with_effect}

-- 01 Passing 7: the quantum has ended: the tail of its list p, with a full quantum
abbrev pub quantum_ended : ℕ → ℕ → Thread → State → State
quantum_ended p i t s = with_lists (moved i p p s.lists) (with_thread i (with_left t.parameters.budget t) s)

-- 01 Passing 6 and 7: the limit or the end of the quantum of thread i, which runs in list p
abbrev pub limits_of : ℕ → ℕ → Thread → State → State
limits_of p i t s =
    by_policy t.parameters.policy s
    (cond (eqb t.left 0) (quantum_ended p i t s) s)
    (cond (eqb p t.parameters.priority && eqb t.server.capacity 0)
    (with_effect i (limit_effect s.now false t.parameters t.server) s)
    s)

unfoldable pub limits : State → State
limits s = cond (idles s) s (limits_of (level s) (head s) (thread_at s (head s)) s)

-- 01 Passing 8: the first of thread i's entries comes back
abbrev pub first_returned : ℕ → State → State
first_returned i s = with_effect i (return_first s.now (is_blocked (thread_at s i)) (thread_at s i).parameters (account_at s i)) s

-- 01 Passing 8: thread i's entries that are due now come back, one after the other, at most k of them
unfoldable pub replenish : ℕ → ℕ → State → State
replenish zero i s = s
replenish (suc k) i s = cond (first_is_due s.now (pending_at s i)) (replenish k i (first_returned i s)) s

-- 01 Passing 8: by thread number, of the threads below n
unfoldable pub replenish_below : ℕ → State → State
replenish_below zero s = s
replenish_below (suc n) s = let u = replenish_below n s in replenish (get_or u.counts n 0) n u

-- 01 Passing 5 to 8: what happens at a moment, in this order
unfoldable pub fire : State → State
fire s = replenish_below s.header.n (limits s)

abbrev pub clock : Clock State
clock = record { now = λ s. s.now; next = next; charge = charge; fire = fire }

-- 01 Passing 1: the state at the time t
abbrev pub passed : State → ℕ → State
passed s t = advance clock s t

-- Who runs, the next moment, and what so many ticks change.
use Rattle.std.specs.Prelude.{ℕ, zero, suc, ◌+◌, ◌-◌, min, Bool, cond}
use lib.{ListN.set, Dec.eqb}
use Rattle.records.specs.Ranges.{by_policy}
use Rattle.sporadic.specs.Rules.{charged}
use Rattle.ready.specs.{Lists.head_of, Word.highest_of}
use Rattle.thread.specs.{declared.Thread.Thread, Thread.with_run}
use Rattle.state.specs.{declared.State.State, Updates.with_time, Updates.with_all_threads, State.thread_at}
use Rattle.due_search.specs.Search.{next_due}

-- 01 State 4: the priority of the highest list that holds a thread, 0 for none
abbrev pub level : State → ℕ
level s = highest_of s.word

-- 01 State 18: the thread at its head runs
abbrev pub head : State → ℕ
head s = head_of (level s) s.lists

-- nothing runs
abbrev pub idles : State → Bool
idles s = eqb (level s) 0

-- 01 Events 8: the running thread, 255 for none
abbrev pub running : State → ℕ
running s = cond (idles s) 255 (head s)

-- 01 Passing 3 and 4: k ticks of a thread that runs in list p. They are added to its total, taken from the quantum of an RR
-- thread, and moved from capacity to U where p is the upper priority of a sporadic one; at low nothing is charged
abbrev pub ran : ℕ → ℕ → Thread → Thread
ran p k t =
    with_run (t.total + k) (by_policy t.parameters.policy t.left (t.left - k) t.left)
    (by_policy t.parameters.policy t.server t.server
    (cond (eqb p t.parameters.priority) (charged k t.server) t.server))
    t

-- 01 Passing 3: k ticks go by for the running thread, or idle
abbrev pub charge : ℕ → State → State
charge k s =
    with_time (s.now + k) (s.idle + cond (idles s) k 0)
    (with_all_threads (cond (idles s) s.threads (set s.threads (head s) (ran (level s) k (thread_at s (head s))))) s)

-- the earlier of two moments, 0 for none
abbrev pub earlier : ℕ → ℕ → ℕ
earlier zero b = b
earlier (suc a) zero = suc a
earlier (suc a) (suc b) = min (suc a) (suc b)

-- 01 Passing 2: when a thread that runs in list p reaches its limit or the end of its quantum, 0 for never
abbrev pub limit_of : ℕ → ℕ → Thread → ℕ
limit_of now p t =
    by_policy t.parameters.policy 0 (now + t.left)
    (cond (eqb p t.parameters.priority) (now + t.server.capacity) 0)

abbrev pub limit : State → ℕ
limit s = cond (idles s) 0 (limit_of s.now (level s) (thread_at s (head s)))

-- 01 Passing 2: the next moment, 0 for none
abbrev pub next : State → ℕ
next s = earlier (limit s) (next_due s.counts s.dues s.header.n).due

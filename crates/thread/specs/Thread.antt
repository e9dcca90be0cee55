-- A thread made of its parts, and with one part changed (01 State 2): no other file lists all its fields. And where it stands.
use Rattle.std.specs.Prelude.{ℕ, Bool, cond, ltb}
use Rattle.records.specs.{declared.Parameters.Parameters, Ranges.by_policy, Ranges.no_parameters}
use Rattle.sporadic.specs.{declared.Server.Server, Rules.at_upper}
use Rattle.thread.specs.declared.Thread.{Thread}

abbrev pub thread_of : Parameters → ℕ → ℕ → ℕ → Server → Thread
thread_of p blocked total left v = record { parameters = p; blocked = blocked; total = total; left = left; server = v }

abbrev pub with_parameters : Parameters → Thread → Thread
with_parameters p t = thread_of p t.blocked t.total t.left t.server

-- blocked (1) or runnable (0)
abbrev pub with_blocked : ℕ → Thread → Thread
with_blocked b t = thread_of t.parameters b t.total t.left t.server

abbrev pub with_left : ℕ → Thread → Thread
with_left n t = thread_of t.parameters t.blocked t.total n t.server

abbrev pub with_server : Server → Thread → Thread
with_server v t = thread_of t.parameters t.blocked t.total t.left v

-- another run time, quantum left and server
abbrev pub with_run : ℕ → ℕ → Server → Thread → Thread
with_run total left v t = thread_of t.parameters t.blocked total left v

-- 01 Events 4 and 5: an RR thread gets a full quantum
abbrev pub full_quantum : Thread → Thread
full_quantum t = with_left (by_policy t.parameters.policy t.left t.parameters.budget t.left) t

-- 01 Events 6: everything anew with the parameters p; the thread stays blocked or runnable and keeps its run time
abbrev pub renewed : Parameters → Thread → Thread
renewed p t = with_parameters p (with_left (by_policy p.policy 0 p.budget 0) t)

-- 01 State 17: no account, no thread: what a place past N holds
abbrev pub no_server : Server
no_server = record { capacity = 0; used = 0; activation = 0 }

abbrev pub no_thread : Thread
no_thread = thread_of no_parameters 0 0 0 no_server

-- 01 State 2: whether a thread is blocked: 0 is runnable, and of a sound state any other number is 1
abbrev pub is_blocked : Thread → Bool
is_blocked t = ltb 0 t.blocked

-- 01 State 9: the assigned priority of a thread with so many replenishments pending
abbrev pub assigned : Thread → ℕ → ℕ
assigned t count =
    by_policy t.parameters.policy t.parameters.priority t.parameters.priority
    (cond (at_upper t.parameters t.server.capacity count) t.parameters.priority t.parameters.low)

-- 01 State 7: the list in which a thread stands: that of its assigned priority, and none (0) where it is blocked
abbrev pub place_of : Thread → ℕ → ℕ
place_of t count = cond (is_blocked t) 0 (assigned t count)

-- What each kind of event does to the state at its time (01 Events 2 to 6): one thread changes, with its account and its list.
use Rattle.std.specs.Prelude.{ℕ, zero, suc, leb, eqb}
use mathlib.Core.{Bool.true, Bool.false, Bool.cond, List.List}
use Rattle.records.specs.{declared.Parameters.Parameters, declared.Event.Event, Ranges.by_policy, Kinds.by_kind}
use Rattle.account.specs.{declared.Account.Account, Rules.blocking, Rules.waking, Carry.set_account}
use Rattle.ready.specs.Lists.{appended, removed, moved}
use Rattle.thread.specs.{declared.Thread.Thread, Thread.is_blocked, Thread.place_of, Thread.with_blocked, Thread.with_server, Thread.full_quantum, Thread.renewed}
use Rattle.state.specs.{declared.State.State, State.thread_at, State.account_at, Updates.with_lists, Updates.with_account}
use Rattle.ticks.specs.Running.{head}
use Rattle.events.specs.declared.Change.{Change}

-- what a rule does to a sporadic thread's account; any other has none to change
abbrev pub if_sporadic : Thread → Account → Account → Account
if_sporadic t new a = by_policy t.parameters.policy a a new

-- 01 State 7: a thread t with account a that becomes u with account b leaves the list in which it stands, and becomes the tail of the one in
-- which it then stands
abbrev pub becomes : Thread → Account → Thread → Account → Change
becomes t a u b = record { thread = u; account = b; from = place_of t a.pending.count; to = place_of (with_server b.server u) b.pending.count }

-- what an event of a kind, with the parameters p, does now to the thread that it concerns
unfoldable pub change_of : ℕ → ℕ → Parameters → Thread → Account → Change
change_of kind now p t a =
    by_kind kind
    -- 01 Events 2, clock: none
    (record { thread = t; account = a; from = 0; to = 0 })
    -- 01 Events 3, block: it leaves its list; if sporadic, U is scheduled
    (becomes t a (with_blocked 1 t) (if_sporadic t (blocking now false t.parameters a).account a))
    -- 01 Events 4, yield: the tail of its list, with a full quantum; the activation time stays
    (becomes t a (full_quantum t) a)
    -- 01 Events 5, wake: the tail of its assigned list, with a full quantum; at the upper priority a sporadic one's activation time is now
    (becomes t a (with_blocked 0 (full_quantum t)) (if_sporadic t (waking now true t.parameters a).account a))
    -- 01 Events 6, set: everything anew, but a sporadic thread that stays one keeps its account (02 E7 2); a runnable one becomes the tail
    -- of the list of the priority that is then assigned (02 E7 6)
    (becomes t a (renewed p t) (set_account now (is_blocked t) t.parameters p a))

-- thread k leaves list `from` and becomes the tail of list `to`, 0 for none
abbrev pub shifted : ℕ → ℕ → ℕ → List ℕ → List ℕ
shifted k zero zero l = l
shifted k zero (suc to) l = appended (suc to) k l
shifted k (suc from) zero l = removed (suc from) k l
shifted k (suc from) (suc to) l = moved k (suc from) (suc to) l

-- the state with a change of thread k
abbrev pub with_change : ℕ → Change → State → State
with_change k c s = with_lists (shifted k c.from c.to s.lists) (with_account k c.thread c.account s)

-- 01 Events 3 to 6: the thread that an event concerns: the running one, or the one that it names
abbrev pub concerned : State → Event → ℕ
concerned s e = cond (leb e.kind 2) (head s) e.thread

-- its change, at the time now of the state
abbrev pub event_change : State → Event → Change
event_change s e = change_of e.kind s.now e.parameters (thread_at s (concerned s e)) (account_at s (concerned s e))

-- 01 Events 2 to 6: the state once an event has happened: as it was after a clock, else with the change of the thread that the event concerns
unfoldable pub happened : State → Event → State
happened s e = cond (eqb e.kind 0) s (with_change (concerned s e) (event_change s e) s)

-- What only private functions promise: the statuses of an event in the order in which the code judges them, and its change as the code
-- puts it in place.
use Rattle.std.specs.Prelude.{ℕ, ◌+◌, ◌<◌, Option, None}
use mathlib.Core.{Bool.Bool, Bool.true, Bool.false, Bool.cond, Bool.not, List.List, List.[], List.◌∷◌, Path.◌≡◌}
use lib.{ListN.get_or, ListN.set, Dec.ltb, Dec.eqb}
use Rattle.records.specs.{declared.Event.Event, Ranges.last_time, Ranges.longest_step}
use Rattle.ready.specs.Word.{highest_of}
use Rattle.base.specs.{Status.past_last_time, Status.before_now, Status.step_too_long, Status.not_carried, Refusals.first_refusal, Refusals.given}
use Rattle.reports.specs.Tallies.{Tellable}
use Rattle.sporadic.specs.Carry.{Carryable}
use Rattle.account.specs.{declared.Pending.Pending, Rules.Schedulable}
use Rattle.rows.specs.Rows.{pending_of, with_slots}
use Rattle.thread.specs.{declared.Thread.Thread, Thread.with_server}
use Rattle.state.specs.{declared.State.State, State.thread_at}
use Rattle.ticks.specs.Running.{ran}
use Rattle.events.specs.{declared.Change.Change, Events.change_of, Answers.field_status_of, Answers.refuses_carry, Answers.state_status_of, Reports.own_back}
use Rattle.trace_reader.specs.Reader.{next_at}
use Rattle.executive.specs.declared.{changes.Left.Left, statuses.Stand.Stand}

-- 01 Status 2 to 4 and 15: by the time, 3, 1 or 2
unfoldable pub time_status : ℕ → ℕ → ℕ
time_status now time = first_refusal ((ltb last_time time, past_last_time) ∷ (ltb time now, before_now) ∷ (ltb (now + longest_step) time, step_too_long) ∷ [])

-- 01 Status 15: what is judged without the state: 4, 5 or 6 by the fields, then by the time
abbrev pub early_status : ℕ → ℕ → Event → ℕ
early_status n now e = first_refusal (given (field_status_of n e) ∷ given (time_status now e.time) ∷ [])

-- 01 Status 15: the status of an event for a sound state, but for 15; `blocked`: whether the thread it names is
abbrev pub sound_status : ℕ → ℕ → ℕ → Bool → Event → ℕ
sound_status n now word blocked e = first_refusal (given (early_status n now e) ∷ given (state_status_of e.kind (eqb (highest_of word) 0) blocked false) ∷ [])

-- an event of status k, which is answered where that is not 0, before time passes; whether 15 is still to be judged
abbrev pub stand_of : ℕ → Bool → Stand
stand_of k judging = record { status = k; done = not (eqb k 0); judging = judging; quiet = true }

-- all of it is judged; whether no moment has fallen
abbrev pub settled_of : ℕ → Bool → Stand
settled_of k quiet = record { status = k; done = not (eqb k 0); judging = false; quiet = quiet }

-- an event of which 15 is not to be judged, after moments
abbrev pub after_moments : Stand → Stand
after_moments k = record { status = k.status; done = k.done; judging = false; quiet = false }

-- 02 E7 9: 15 where a set can't carry over the account of a thread with `count` entries pending
abbrev pub carry_status : Event → Thread → ℕ → ℕ
carry_status e t count = cond (refuses_carry e t count) not_carried 0

-- of the thread that the event names, in the state at its time
abbrev pub carry_status_at : State → Event → ℕ
carry_status_at s e = carry_status e (thread_at s e.thread) (get_or s.counts e.thread 0)

-- a thread after k ticks, where thread number `head` has run in list `level`, 0 for none
abbrev pub ran_up_to : ℕ → ℕ → ℕ → ℕ → Thread → Thread
ran_up_to k level head number t = cond (eqb head number) (cond (eqb level 0) t (ran level k t)) t

-- what an event does to thread t at place i
abbrev pub change_in : Event → Thread → ℕ → List ℕ → List ℕ → List ℕ → Change
change_in e t i counts dues amounts =
    change_of e.kind e.time e.parameters t (record { server = t.server; pending = pending_of counts dues amounts i })

-- what of it is left to be put into the core
abbrev pub left_of : Change → Left
left_of c = record { thread = with_server c.account.server c.thread; from = c.from; to = c.to }

-- what it requires: room for an entry, an account that can be carried over, and room for what is told
abbrev pub Happens : Event → Thread → ℕ → List ℕ → List ℕ → Type 0
Happens e t i counts told =
    (0 < e.kind)
    × (e.kind ≡ 1 → 1 < t.parameters.policy → Schedulable t.parameters t.server (get_or counts i 0))
    × (3 < e.kind → 1 < t.parameters.policy → 1 < e.parameters.policy → Carryable t.parameters e.parameters t.server.capacity)
    × Tellable (own_back e.kind e.time t + 1) told

-- the entries of place i are q, and all others as they were
abbrev pub InPlace : ℕ → Pending → List ℕ → List ℕ → List ℕ → List ℕ → List ℕ → List ℕ → Type 0
InPlace i q counts dues amounts counts' dues' amounts' =
    (counts' ≡ set counts i q.count) × (dues' ≡ with_slots i q.dues dues) × (amounts' ≡ with_slots i q.amounts amounts)

-- the first of at most `left` events of a file from an offset on, with the offset after it, or that there is none
abbrev pub following_of : List ℕ → ℕ → ℕ → Option (Event × ℕ)
following_of file offset left = cond (eqb left 0) None (next_at file offset)

-- Opening a state from a table of threads.
use Rattle.std.specs.Prelude.{ℕ, zero, suc}
use mathlib.Core.{Bool.cond, Bool.not, Bool.◌&&◌, List.List, List.[], List.◌∷◌}
use lib.{ListN.get_or, ListN.replicate, Dec.ltb, Dec.leb, Dec.eqb}
use Rattle.records.specs.{declared.Parameters.Parameters, declared.Header.Header, Ranges.most_threads, Ranges.most_replenishments, Ranges.last_time, Ranges.in_range, Ranges.no_parameters, Ranges.no_header}
use Rattle.base.specs.{Status.wrong_thread, Status.past_last_time, Status.wrong_parameters, Tests.below, Refusals.first_refusal}
use Rattle.account.specs.Account.{new_account}
use Rattle.ready.specs.Lists.{list_bytes, appended}
use Rattle.rows.specs.Rows.{all_slots}
use Rattle.passing.specs.Sequence.{Answer, accepted}
use Rattle.state.specs.{declared.State.State, State.thread_at, Updates.with_lists, Updates.with_account, Updates.state_of}
use Rattle.thread.specs.Thread.{no_thread, renewed, with_blocked}
use Rattle.events.specs.Answers.{executive}

-- a state of so many threads, none of them there yet, at the start time
abbrev pub empty_state : Header → State
empty_state header =
    state_of header header.start 0 0 (replicate most_threads no_thread) (replicate most_threads 0) (replicate all_slots 0) (replicate all_slots 0) (replicate list_bytes 0)

-- 01 Status 20: a state of no threads and zeros
abbrev pub no_state : State
no_state = empty_state no_header

-- the parameters as a state keeps them: the start flag is spent
abbrev pub without_flag : Parameters → Parameters
without_flag p = record { policy = p.policy; priority = p.priority; low = p.low; max_repl = p.max_repl; flag = 0; budget = p.budget; period = p.period }

-- 01 Events 7: thread i is given its parameters as by a set; a runnable one (start flag 1) becomes the tail of its list
abbrev pub entered : ℕ → Parameters → State → State
entered i p s =
    with_lists (cond (eqb p.flag 0) s.lists (appended p.priority i s.lists))
    (with_account i (renewed (without_flag p) (with_blocked (cond (eqb p.flag 0) 1 0) (thread_at s i))) (new_account s.now (without_flag p)) s)

-- 01 Events 7: the first n threads of the table, in number order
unfoldable pub entered_below : ℕ → List Parameters → State → State
entered_below zero table s = s
entered_below (suc n) table s = entered n (get_or table n no_parameters) (entered_below n table s)

-- 01 Status 6, 4 and 7 at opening, in the order of 01 Status 16: 5, 3, 6
unfoldable pub open_status : Header → List Parameters → ℕ
open_status header table =
    first_refusal
    ((not (leb 1 header.n && leb header.n most_threads), wrong_thread)
    ∷ (ltb last_time header.start, past_last_time)
    ∷ (not (below header.n (λ i. in_range most_replenishments (get_or table i no_parameters) && leb (get_or table i no_parameters).flag 1)), wrong_parameters)
    ∷ [])

-- 01 Events 7, 01 Status 20: the answer to an opening
unfoldable pub opening : Header → List Parameters → Answer State
opening header table =
    let opened = accepted executive (entered_below header.n table (empty_state header)) in
    cond (eqb (open_status header table) 0) opened
    (record { status = open_status header table; running = 255; next = 0; state = no_state })

-- The answer to an event, as the machine that `passing` speaks of.
use Rattle.std.specs.Prelude.{ℕ}
use mathlib.Core.{Bool.Bool, Bool.cond, Bool.not, Bool.◌&&◌, List.[], List.◌∷◌}
use lib.{ListN.get_or, Dec.ltb, Dec.leb, Dec.eqb}
use Rattle.records.specs.{declared.Event.Event, Ranges.most_replenishments, Ranges.last_time, Ranges.longest_step, Ranges.in_range, Ranges.all_zero, Ranges.no_parameters}
use Rattle.base.specs.{Status.wrong_kind, Status.wrong_thread, Status.wrong_parameters, Status.nothing_runs, Status.not_blocked, Status.not_carried, Refusals.first_refusal}
use Rattle.passing.specs.Sequence.{Machine}
use Rattle.state.specs.{declared.State.State, State.thread_at, Sound.sound_state}
use Rattle.sporadic.specs.Carry.{cant_carry}
use Rattle.thread.specs.{declared.Thread.Thread, Thread.is_blocked}
use Rattle.ticks.specs.Running.{idles, running}
use Rattle.moments.specs.Moments.{clock}
use Rattle.events.specs.Events.{happened}

-- 01 Status 5: no such kind
abbrev pub bad_kind : Event → Bool
bad_kind e = ltb 4 e.kind

-- 01 Status 6: a thread number in kinds 0 to 2, which name none, or one that is N or more
abbrev pub bad_thread : ℕ → Event → Bool
bad_thread n e = cond (leb e.kind 2) (not (eqb e.thread 0)) (leb n e.thread)

-- 01 Status 7: parameters out of range or with a start flag in kind 4, and any at all in another kind
abbrev pub bad_parameters : Event → Bool
bad_parameters e =
    cond (eqb e.kind 4)
    (not (in_range most_replenishments e.parameters && eqb e.parameters.flag 0))
    (not (all_zero e.parameters))

-- 01 Status 5 to 7 and 15: 4, 5, 6 in this order
unfoldable pub field_status_of : ℕ → Event → ℕ
field_status_of n e = first_refusal ((bad_kind e, wrong_kind) ∷ (bad_thread n e, wrong_thread) ∷ (bad_parameters e, wrong_parameters) ∷ [])

abbrev pub field_status : State → Event → ℕ
field_status s e = field_status_of s.header.n e

-- 02 E7 2: a set to sporadic of a thread already sporadic
abbrev pub carries_over : Event → Thread → Bool
carries_over e t = eqb e.kind 4 && (ltb 1 t.parameters.policy && ltb 1 e.parameters.policy)

-- 02 E7 9: such a set of a thread with `count` entries pending, whose account can't be carried over
abbrev pub refuses_carry : Event → Thread → ℕ → Bool
refuses_carry e t count = carries_over e t && cant_carry (is_blocked t) t.parameters e.parameters t.server.capacity count

-- 01 Status 8 and 9: block or yield and nothing runs; wake of a thread that isn't blocked. 02 E7 9: then 15
unfoldable pub state_status_of : ℕ → Bool → Bool → Bool → ℕ
state_status_of kind idle blocked refused =
    first_refusal ((cond (eqb kind 1) idle (eqb kind 2 && idle), nothing_runs) ∷ (eqb kind 3 && not blocked, not_blocked) ∷ (refused, not_carried) ∷ [])

abbrev pub state_status : State → Event → ℕ
state_status s e =
    let t = thread_at s e.thread in
    state_status_of e.kind (idles s) (is_blocked t) (refuses_carry e t (get_or s.counts e.thread 0))

-- 01 Readings 6: an extra clock reading: kind 0, and every other field 0
abbrev pub reading : ℕ → Event
reading t = record { time = t; kind = 0; thread = 0; parameters = no_parameters }

abbrev pub executive : Machine State Event
executive =
    record {
      clock = clock;
      last_time = last_time;
      longest_step = longest_step;
      sound = sound_state;
      running = running;
      time = λ e. e.time;
      reading = reading;
      field_status = field_status;
      state_status = state_status;
      does = happened;
    }

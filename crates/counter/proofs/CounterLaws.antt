-- What a reading stands for, and how the event that it stands for is answered.
use Rattle.std.proofs.Common.{◌≡◌, ℕ, zero, suc, ◌+◌, ◌-◌, ◌%◌, ◌<◌, ◌≤◌, Bool, true, false, ltb, List, [], ◌∷◌, sym, refl, ap, ◌∙◌, arith, le-ltb}
use Rattle.base.specs.Status.{not_sound}
use Rattle.base.specs.Refusals.{first_refusal}
use Rattle.base.proofs.TestLaws.{tests, same_test, cond-elim, cond-false}
use Rattle.records.specs.declared.Event.{Event}
use Rattle.records.specs.Ranges.{last_time, longest_step}
use Rattle.passing.specs.Sequence.{status, answer}
use Rattle.passing.proofs.SequenceLaws.{answer-status, refused-state, unsound-status, unsound-answer, acceptable}
use Rattle.state.specs.declared.State.{State}
use Rattle.state.specs.Sound.{sound_state}
use Rattle.state.proofs.SoundLaws.{state-out}
use Rattle.events.specs.Answers.{executive, field_status_of, state_status_of}
use Rattle.events.specs.Reports.{event_numbers}
use Rattle.events.proofs.ReportLaws.{refused-tells-zeros}
use Rattle.counter.specs.declared.CounterEvent.{CounterEvent}
use Rattle.counter.specs.Counter.{elapsed_ticks, event_of, counter_answer, counter_numbers, shown, refusals, ElapsedIsDifference, SameAsFullTime, BackIsRefused, RefusedInOrder, NeverBeforeNow}
use Rattle.counter.specs.Private.{guarded_time}

-- the event at a time, whatever the reading
abbrev timed : ℕ → CounterEvent → Event
timed time e = record { time = time; kind = e.kind; thread = e.thread; parameters = e.parameters }

-- 02 E10 1
pub elapsed-is-difference : ElapsedIsDifference
elapsed-is-difference now reading ticks h = (omega arith, (omega arith, λ l e. omega arith))

-- 02 E10 2: the time comes back from its low 32 bits
full-time : (now time : ℕ) → now ≤ time → time - now ≤ 4294967295 → now + elapsed_ticks now (time % 4294967296) ≡ time
full-time now time h g = omega arith

pub same-as-full-time : SameAsFullTime
same-as-full-time s e h g =
    let same = ap (λ (x : ℕ). timed x (shown e)) (full-time s.now e.time h g) in (ap (answer executive s) same, ap (event_numbers s) same)

-- 02 E10 3
back-is-far : (now reading back : ℕ) → (reading + back) % 4294967296 ≡ now % 4294967296 → 1 ≤ back → back ≤ 4293967295 → 1000000 < elapsed_ticks now reading
back-is-far now reading back e h g = omega arith

-- a step that is too long is refused
far-is-refused : (s : State) (e : CounterEvent) → 1000000 < elapsed_ticks s.now e.reading → 0 < status executive s (event_of s.now e)
far-is-refused s e h = go (status executive s (event_of s.now e)) refl
  where
    go : (n : ℕ) → status executive s (event_of s.now e) ≡ n → 0 < n
    go zero z = absurd (omega (arith, (acceptable executive s (event_of s.now e) z).near))
    go (suc n) z = omega arith

pub back-is-refused : BackIsRefused
back-is-refused s e back m h g =
    let far = back-is-far s.now e.reading back m h g in
    let refused = far-is-refused s e far in
    (far, (omega (arith, answer-status executive s (event_of s.now e)), refused-state executive s (event_of s.now e) refused))

-- 02 E10 4: of the tests of an event's time, the one for 1 is never true, and the one for 2 is that of the elapsed ticks
never-before : (now ticks : ℕ) → ltb (now + ticks) now ≡ false
never-before now ticks = le-ltb (now + ticks) now (omega arith)

same_step : (now ticks : ℕ) → ltb (now + longest_step) (now + ticks) ≡ ltb longest_step ticks
same_step now ticks = same_test _ _ (λ e. omega (tests, e)) (λ e. omega (tests, e))

-- 9 comes first, however long the step
unsound-first : (s : State) (e : CounterEvent) → sound_state s ≡ false → first_refusal (refusals s e) ≡ not_sound
unfolding first_refusal
unsound-first s e a = simp a

pub refused-in-order : RefusedInOrder
unfolding status first_refusal
refused-in-order s e =
    let ticks = elapsed_ticks s.now e.reading in
    answer-status executive s (event_of s.now e) ∙ rw (never-before s.now ticks, same_step s.now ticks)

-- no test of a list gives the number m
abbrev Without : ℕ → List (Bool × ℕ) → Type 0
Without m [] = Unit {0}
Without m (r ∷ rs) = (r.1 ≡ m → ⊥) × Without m rs

never-given : (m : ℕ) (rs : List (Bool × ℕ)) → 0 < m → Without m rs → first_refusal rs ≡ m → ⊥
unfolding first_refusal
never-given m [] p w e = omega arith
never-given m (r ∷ rs) p w e = cond-elim (λ (n : ℕ). n ≡ m → ⊥) r.0 r.1 (first_refusal rs) (λ _. w.0) (λ _. never-given m rs p w.1) e

fields-never : (n : ℕ) (e : Event) → field_status_of n e ≡ 1 → ⊥
unfolding field_status_of
fields-never n e = never-given 1 _ (omega arith) ((λ z. omega arith), ((λ z. omega arith), ((λ z. omega arith), tt)))

state-never : (kind : ℕ) (idle blocked refused : Bool) → state_status_of kind idle blocked refused ≡ 1 → ⊥
unfolding state_status_of
state-never kind idle blocked refused = never-given 1 _ (omega arith) ((λ z. omega arith), ((λ z. omega arith), ((λ z. omega arith), tt)))

pub never-before-now : NeverBeforeNow
never-before-now s e z =
    never-given 1 (refusals s e) (omega arith)
    ((λ x. omega arith), (fields-never _ _, ((λ x. omega arith), ((λ x. omega arith), (state-never _ _ _ _, tt)))))
    (sym (refused-in-order s e) ∙ z)

-- ---- the code

-- the guarded time is as good as the one that the reading stands for
pub guarded-same : (s : State) (e : CounterEvent) (time : ℕ) → time ≡ guarded_time s.now e.reading
    → (answer executive s (timed time e) ≡ counter_answer s e) × (event_numbers s (timed time e) ≡ counter_numbers s e)
guarded-same s e time h = go (sound_state s) refl
  where
    go : (b : Bool) → sound_state s ≡ b → (answer executive s (timed time e) ≡ counter_answer s e) × (event_numbers s (timed time e) ≡ counter_numbers s e)
    go true b =
        let z = (state-out s b).sizes in
        let same = ap (λ (x : ℕ). timed x e) (h ∙ cond-false (ltb last_time s.now) _ _ (le-ltb last_time s.now (omega (tests, z)))) in
        (ap (answer executive s) same, ap (event_numbers s) same)
    go false b =
        let first = timed time e in
        let second = event_of s.now e in (
          unsound-answer executive s b first ∙ sym (unsound-answer executive s b second),
          refused-tells-zeros s first (omega (arith, unsound-status executive s b first)) ∙ sym (refused-tells-zeros s second (omega (arith, unsound-status executive s b second))),
        )

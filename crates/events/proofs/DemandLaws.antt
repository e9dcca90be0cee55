-- The executive meets the machine's laws, so extra clock readings change nothing.
use mathlib.Core.Path.{◌≡◌, refl, ap, ◌∙◌, subst⁻¹}
use Prim.Native.Nat.{ℕ}
use mathlib.Core.Bool.{true, cond, not}
use mathlib.Core.List.{[], ◌∷◌}
use lib.ListN.{take, drop}
use lib.Dec.{leb, eqb}
use native.Mathlib.Omega.{arith}
use borrow.Author.Tests.{eq-eqb, ne_eqb}
use Rattle.records.specs.declared.Header.{Header}
use Rattle.records.specs.declared.Event.{Event}
use Rattle.base.specs.Tests.{all}
use Rattle.records.specs.Ranges.{all_zero, fifo_in_range}
use Rattle.base.proofs.TestLaws.{cond-true, cond-false}
use Rattle.ready.specs.Lists.{row_at, threads}
use Rattle.ready.specs.Word.{size_at, highest_of, highest_list}
use Rattle.ready.proofs.WordLaws.{Highest, highest-leading, highest-list}
use Rattle.ready.proofs.SoundLaws.{size-threads, highest-sound}
use Rattle.passing.specs.Time.{advance}
use Rattle.base.specs.Refusals.{first_refusal}
use Rattle.passing.specs.Sequence.{Answer}
use Rattle.passing.proofs.TimeLaws.{advance-rest, advance-due, keeps, sound-advance, advance-advance}
use Rattle.passing.proofs.SequenceLaws.{acceptable, answer-accepted}
use Rattle.passing.proofs.ReadingsLaws.{MachineLaws, extra-readings}
use Rattle.state.specs.declared.State.{State}
use Rattle.state.specs.Sound.{sound_state}
use Rattle.state.specs.State.{place}
use Rattle.state.proofs.SoundLaws.{Sound, state-in, state-out}
use Rattle.ticks.specs.Running.{level, head, idles}
use Rattle.moments.specs.Moments.{fire, clock, passed}
use Rattle.moments.proofs.FireLaws.{header-fire}
use Rattle.moments.proofs.ChargeLaws.{later, no_word}
use Rattle.moments.proofs.MomentLaws.{passing}
use Rattle.events.specs.Events.{happened}
use Rattle.events.specs.Answers.{field_status_of, state_status_of, field_status, executive, bad_kind, bad_parameters}
use Rattle.events.specs.Demand.{ReadingsChangeNothing, AcceptedIsSound, OpeningIsSound, HeadRuns, TimesAddUp, NextIsLater, PassingComposes, PassesByMoments}
use Rattle.events.proofs.EventLaws.{happened-sound}
use Rattle.events.proofs.OpeningLaws.{opening-sound}

-- the fields of an event are judged by N alone
field-header : (s u : State) (e : Event) → u.header ≡ s.header → field_status u e ≡ field_status s e
unfolding field_status_of
field-header s u e q = ap (λ (h : Header). first_refusal ((bad_kind e, 4) ∷ (cond (leb e.kind 2) (not (eqb e.thread 0)) (leb h.n e.thread), 5) ∷ (bad_parameters e, 6) ∷ [])) q

-- and time leaves N as it is
pub field-passed : (s : State) (e : Event) → field_status (passed s e.time) e ≡ field_status s e
field-passed s e = field-header s (passed s e.time) e (keeps clock (λ (v : State). v.header) (λ k v. refl) header-fire s e.time)

pub lawful : MachineLaws executive
unfolding field_status_of state_status_of happened first_refusal all_zero fifo_in_range all
lawful =
    record {
      passing = passing;
      field-charge = λ k s e. refl;
      field-fire = λ s e. field-header s (fire s) e (header-fire s);
      time-reading = λ t. refl;
      field-reading = λ s t. refl;
      state-reading = λ s t. refl;
      does-reading = λ s t. refl;
    }

-- demand 3
pub readings-change-nothing : ReadingsChangeNothing
readings-change-nothing = extra-readings executive lawful

-- demand 2, in part: an accepted event leaves a sound state
pub accepted-sound : AcceptedIsSound
accepted-sound s e z =
    let a = acceptable executive s e z in
    let u = sound-advance clock passing s e.time a.sound a.after a.in_range in
    let f : field_status (advance clock s e.time) e ≡ 0 = field-passed s e ∙ a.fields in
    subst⁻¹ (λ (x : Answer State). sound_state x.state ≡ true) (answer-accepted executive s e z)
    (state-in (happened (advance clock s e.time) e) (happened-sound (advance clock s e.time) (state-out (advance clock s e.time) u) e f a.state))

pub opening-is-sound : OpeningIsSound
opening-is-sound = opening-sound

pub times-add-up : TimesAddUp
times-add-up s e = (state-out s e).timed

pub next-is-later : NextIsLater
next-is-later s e p = later s (state-out s e) p

pub passing-composes : PassingComposes
passing-composes s b c e p q r = advance-advance clock passing s b c e p q r

pub passes-by-moments : PassesByMoments
passes-by-moments s t e p q = record { none = λ z. advance-rest clock s t z; one = λ z. advance-due clock passing s t e q z }

-- the highest list from the word, and its head
pub head-runs : HeadRuns
head-runs s e =
    record {
      idle = λ z. (cond-true (idles s) 255 (head s) (eq-eqb (level s) 0 z), λ p a b. none p (top.empty p (omega (arith, is)) b));
      busy = λ d.
          let r = highest-sound (place s) s.word s.lists h.lists (λ z. d (no_word s.word z)) in (
            cond-false (idles s) 255 (head s) (ne_eqb (level s) 0 d),
            omega (arith, size-threads (place s) s.word s.lists h.lists (level s) r.held.low r.held.high, r.held.some),
            r.above,
          );
    }
  where
    h : Sound s
    h = state-out s e

    is : level s ≡ highest_list 32 (size_at s.lists)
    is = ap highest_of h.lists.agrees ∙ highest-leading s.lists

    top : Highest 32 (size_at s.lists) (highest_list 32 (size_at s.lists))
    top = highest-list 32 (size_at s.lists)

    none : (p : ℕ) → size_at s.lists p ≡ 0 → threads p s.lists ≡ []
    none p z = ap (λ (n : ℕ). take n (drop 1 (row_at p s.lists))) z

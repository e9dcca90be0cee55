-- The last of the answers to a file's events.
use Prim.Native.Nat.{ℕ, suc, ◌-◌}
use mathlib.Core.Bool.{true}
use mathlib.Core.List.{List, [], ◌∷◌}
use mathlib.Core.Path.{◌≡◌, refl, sym, ap, ◌∙◌, subst⁻¹}
use native.Mathlib.Omega.{arith}
use Rattle.records.specs.declared.Event.{Event}
use Rattle.passing.specs.Sequence.{Answer, answer, answers, end}
use Rattle.state.specs.declared.State.{State}
use Rattle.state.specs.Sound.{sound_state}
use Rattle.events.specs.Answers.{executive}
use Rattle.std.specs.Prelude.{Some, None}
use Rattle.trace_reader.specs.Reader.{next_at, events_from}
use Rattle.trace_reader.proofs.ReaderLaws.{from-event, from-none, from_end}
use Rattle.executive.specs.Steps.{last_given, answer_to}
use Rattle.replay_steps.specs.FileSteps.{answers_from, end_from, last_of}
use Rattle.replay_steps.proofs.FileLaws.{answer-sound}

-- the answer to the last of an event and those after it
last-is : (s : State) (e : Event) (es : List Event) → answer_to (last_given s e es) ≡ last_of (answer executive s e) (answers executive (answer executive s e).state es)
unfolding last_given last_of
last-is s e [] = refl
last-is s e (f ∷ fs) = last-is (answer executive s e).state f fs

last-sound : (s : State) (e : Event) (es : List Event) → sound_state s ≡ true → sound_state (answer_to (last_given s e es)).state ≡ true
unfolding last_given
last-sound s e [] a = answer-sound s e a
last-sound s e (f ∷ fs) a = last-sound (answer executive s e).state f fs (answer-sound s e a)

-- the state that it returns is the one in which all of them end
last_end : (a : Answer State) (es : List Event) → (last_of a (answers executive a.state es)).state ≡ end executive a.state es
unfolding last_of
last_end a [] = refl
last_end a (e ∷ es) = last_end (answer executive a.state e) es

pub last-state : (a : Answer State) (file : List ℕ) (offset left : ℕ) → (last_of a (answers_from a.state file offset left)).state ≡ end_from a.state file offset left
unfolding answers_from end_from
last-state a file offset left = last_end a (events_from file offset left)

module _ (a : Answer State) (s : State) (file : List ℕ) (offset left : ℕ) where
  -- there is no event
  none_is : events_from file offset left ≡ [] → a ≡ last_of a (answers_from s file offset left)
  unfolding last_of answers_from
  none_is z = sym (ap (λ (es : List Event). last_of a (answers executive s es)) z)

  pub none_left : left ≡ 0 → a ≡ last_of a (answers_from s file offset left)
  none_left z = none_is (ap (events_from file offset) z ∙ from-none file offset)

  pub none-there : next_at file offset ≡ None → a ≡ last_of a (answers_from s file offset left)
  none-there z = none_is (from_end file offset left z)

  -- or there is one
  module _ (n : left ≡ 0 → ⊥) (e : Event) (after : ℕ) (z : next_at file offset ≡ Some (e, after)) (r : Answer State) (f : r ≡ answer_to (last_given s e (events_from file after (left - 1)))) where
    pub some_is : r ≡ last_of a (answers_from s file offset left)
    unfolding last_of answers_from
    some_is =
        let k : left ≡ suc (left - 1) = omega (arith, n) in
        f
        ∙ last-is s e (events_from file after (left - 1))
        ∙ sym (ap (λ (es : List Event). last_of a (answers executive s es)) (ap (events_from file offset) k ∙ from-event file offset e after (left - 1) z))

    pub some-sound : sound_state s ≡ true → sound_state r.state ≡ true
    some-sound h = subst⁻¹ (λ (x : Answer State). sound_state x.state ≡ true) f (last-sound s e (events_from file after (left - 1)) h)

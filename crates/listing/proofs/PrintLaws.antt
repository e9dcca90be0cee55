-- Lines that are put one after another, up to the whole of them.
use Prim.Native.Nat.{ℕ, suc, ◌+◌, ◌≤◌}
use mathlib.Core.List.{List, [], ◌++◌, append_assoc, append-nil}
use mathlib.Core.Bool.{true}
use mathlib.Core.Path.{◌≡◌, refl, sym, ap, ◌∙◌, subst, subst⁻¹}
use native.Mathlib.Numerals.{add-one}
use lib.ListN.{length, get_or}
use Rattle.base.proofs.TestLaws.{tests}
use Rattle.state.specs.declared.State.{State}
use Rattle.state.specs.State.{thread_at}
use Rattle.state.specs.Sound.{sound_state}
use Rattle.state.proofs.SoundLaws.{state-out}
use Rattle.text.specs.Placed.{Put}
use Rattle.text.proofs.PlacedLaws.{nothing, after}
use Rattle.trace.specs.Lists.{joined}
use Rattle.trace.proofs.RunLaws.{joined-next}
use Rattle.replay_steps.specs.FileSteps.{FileStep, answers_from}
use Rattle.replay_steps.proofs.FileLaws.{Goes, Stops}
use Rattle.listing.specs.Lines.{event_line, thread_line, event_lines, thread_lines}

-- what has been put from an offset on, and what is still to come, are the whole
pub record Printed (o out : List ℕ) (at here : ℕ) (rest whole : List ℕ) : Type 0 where
  pub text : List ℕ
  pub put : Put o at text out here
  pub all : text ++ rest ≡ whole

pub printed-none : (o : List ℕ) (at : ℕ) (whole : List ℕ) → Printed o o at at whole whole
printed-none o at whole = record { text = []; put = nothing o at; all = refl }

pub printed-next : {o out out₂ : List ℕ} {at here next : ℕ} {rest whole : List ℕ} (line rest₂ : List ℕ)
    → here ≤ length o → Printed o out at here rest whole → rest ≡ line ++ rest₂ → Put out here line out₂ next → Printed o out₂ at next rest₂ whole
printed-next line rest₂ h p e q =
    record {
      text = p.text ++ line;
      put = after h p.put q;
      all = append_assoc p.text line rest₂ ∙ ap (λ (l : List ℕ). p.text ++ l) (sym e) ∙ p.all;
    }

pub printed-all : {o out : List ℕ} {at here : ℕ} {rest whole : List ℕ} → Printed o out at here rest whole → rest ≡ [] → Put o at whole out here
printed-all {o} {out} {at} {here} p e =
    subst (λ (v : List ℕ). Put o at v out here) (sym (append-nil p.text) ∙ ap (λ (l : List ℕ). p.text ++ l) (sym e) ∙ p.all) p.put

-- the line of an event that was answered, and those of the events after it
pub line-next : (s : State) (file : List ℕ) (offset k i : ℕ) (r : FileStep) → Goes s file offset k r
    → event_lines i (answers_from s file offset (suc k))
    ≡ event_line i r.answer.status r.answer.running r.answer.next ++ event_lines (i + 1) (answers_from r.answer.state file r.offset k)
unfolding event_lines
line-next s file offset k i r g = rw (add-one, g.answers)

pub line-none : (s : State) (file : List ℕ) (offset k i : ℕ) → Stops s file offset k → event_lines i (answers_from s file offset k) ≡ []
unfolding event_lines
line-none s file offset k i g = rw g.answers

-- a sound state has at most 32 threads
pub few : (s : State) → sound_state s ≡ true → s.header.n ≤ 32
few s a = omega (tests, (state-out s a).sizes)

-- no thread's line, and one more
pub threads-none : (s : State) (o : List ℕ) (at : ℕ) → Put o at (thread_lines s 0) o at
unfolding thread_lines joined
threads-none s o at = nothing o at

pub threads-next : {o out out₂ : List ℕ} {at here next : ℕ} (s : State) (i : ℕ) → here ≤ length o → Put o at (thread_lines s i) out here
    → Put out here (thread_line i (thread_at s i).server.capacity (get_or s.counts i 0) (thread_at s i).total) out₂ next
    → Put o at (thread_lines s (i + 1)) out₂ next
unfolding thread_lines
threads-next {o} {out} {out₂} {at} {here} {next} s i h p q =
    subst⁻¹ (λ (v : List ℕ). Put o at v out₂ next)
    (joined-next (λ (j : ℕ). thread_line j (thread_at s j).server.capacity (get_or s.counts j 0) (thread_at s j).total) i)
    (after h p q)

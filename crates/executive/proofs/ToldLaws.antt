-- The numbers that an event tells, from turn to turn of its loop: nothing before time passes, then those of the moments up to its
-- time, and at the end those of its own effect too.
use Prim.Native.Nat.{ℕ, zero, suc, ◌+◌, ◌≤◌, ◌<◌}
use mathlib.Core.Bool.{false}
use mathlib.Core.Path.{◌≡◌, refl, sym, ap, ap₂, ◌∙◌, subst⁻¹}
use mathlib.Core.List.{List}
use lib.ListN.{replicate}
use native.Mathlib.Omega.{arith}
use Rattle.records.specs.declared.Event.{Event}
use Rattle.records.specs.Ranges.{by_policy}
use Rattle.sporadic.specs.Rules.{block_effect}
use Rattle.passing.specs.Time.{due_by}
use Rattle.passing.specs.Sequence.{status}
use Rattle.reports.specs.Tallies.{Tally, back_tally, both, tallied, numbers, more_of, Tellable}
use Rattle.reports.proofs.TallyLaws.{both-none}
use Rattle.reports.proofs.NumberLaws.{more-of}
use Rattle.thread.specs.declared.Thread.{Thread}
use Rattle.state.specs.declared.State.{State}
use Rattle.state.specs.State.{thread_at}
use Rattle.state.proofs.SoundLaws.{Sound}
use Rattle.ticks.specs.Running.{next}
use Rattle.moments.specs.Moments.{passed}
use Rattle.moments.specs.Reports.{reported}
use Rattle.moments.proofs.TurnLaws.{start}
use Rattle.moments.proofs.ToldLaws.{tell-start, tell-done, reported-tellable}
use Rattle.events.specs.Events.{concerned}
use Rattle.events.specs.Answers.{executive}
use Rattle.events.specs.Reports.{own_log_of, own_back, event_numbers}
use Rattle.events.proofs.ReportLaws.{used-most, block_back, only-blocks-tell, both_told}

-- ---- an event's own effect

-- U at most
own-most : (kind time : ℕ) (t : Thread) → own_back kind time t ≤ t.server.used
own-most zero time t = omega arith
own-most (suc zero) time t = go t.parameters.policy
  where
    go : (p : ℕ) → by_policy p 0 0 (block_effect time false t.parameters t.server).back ≤ t.server.used
    go zero = omega arith
    go (suc zero) = omega arith
    go (suc (suc p)) = block_back time t.parameters t.server
own-most (suc (suc zero)) time t = omega arith
own-most (suc (suc (suc zero))) time t = omega arith
own-most (suc (suc (suc (suc k)))) time t = omega arith

-- ---- between the turns

pub record Told (s₀ : State) (t : ℕ) (s : State) (told : List ℕ) : Type 0 where
  -- before its time: the state as it was given, and zeros
  pub early : s.now < t → (s ≡ s₀) × (told ≡ replicate 128 0)
  -- where no moment is due by then: the moments up to it
  pub all : due_by (next s) t ≡ false → told ≡ numbers (reported s₀ t)
  -- time goes to the same state
  pub same : passed s t ≡ passed s₀ t
  -- and there is room for more
  pub room : (n : ℕ) → n ≤ 1000000000000000000 → Tellable n (numbers (reported s₀ t))

pub told-start : (s : State) (t : ℕ) → Sound s → s.now ≤ t → t ≤ s.now + 1000000 → t ≤ 1000000000000000 → Told s t s (replicate 128 0)
told-start s t h by near top =
    record {
      early = λ l. (refl, refl);
      all = λ d. tell-done s s t (replicate 128 0) (start s t h by) (tell-start s t h) d;
      same = refl;
      room = reported-tellable s t h by near top;
    }

-- time has passed
pub told-passed : (s₀ s u : State) (t : ℕ) (told told' : List ℕ) → Told s₀ t s told → s.now < t → u.now ≡ t → passed u t ≡ passed s t
    → told' ≡ numbers (reported s t) → Told s₀ t u told'
told-passed s₀ s u t told told' h l at p e =
    record {
      early = λ q. absurd (omega arith);
      all = λ d. e ∙ ap (λ (x : State). numbers (reported x t)) (h.early l).0;
      same = p ∙ h.same;
      room = h.room;
    }

-- ---- at the event's time: u is the state there

module _ (s₀ : State) (e : Event) (z : status executive s₀ e ≡ 0) (s : State) (told : List ℕ) (h : Told s₀ e.time s told) (d : due_by (next s) e.time ≡ false) where
  -- a clock reading does nothing
  pub told-clock : e.kind ≡ 0 → told ≡ event_numbers s₀ e
  told-clock k =
      h.all d
      ∙ sym
      (both_told s₀ e z
      ∙ ap (λ (n : ℕ). numbers (both (reported s₀ e.time) (tallied (own_log_of n (concerned u₀ e) (thread_at u₀ (concerned u₀ e)) u₀)))) k
      ∙ ap numbers (both-none (reported s₀ e.time)))
    where
      u₀ : State
      u₀ = passed s₀ e.time

  module _ (u : State) (f : u ≡ passed s e.time) (now : u.now ≡ e.time) (j : ℕ) (who : j ≡ concerned u e) (small : j < 32) where
    is-passed : u ≡ passed s₀ e.time
    is-passed = f ∙ h.same

    -- there is room for what its effect brings back
    pub own-requires : Sound u → (back : ℕ) → back ≡ own_back e.kind e.time (thread_at u j) → Tellable (back + 1) told
    own-requires g back q =
        subst⁻¹ (Tellable (back + 1)) (h.all d) (h.room (back + 1) (omega (arith, q, own-most e.kind e.time (thread_at u j), used-most u g j)))

    pub told-own : (back : ℕ) → back ≡ own_back e.kind e.time (thread_at u j) → more_of j (back_tally back) told ≡ event_numbers s₀ e
    told-own back q =
        ap₂ (λ (b : ℕ) (xs : List ℕ). more_of j (back_tally b) xs) (q ∙ ap (λ (n : ℕ). own_back e.kind n (thread_at u j)) (sym now)) (h.all d)
        ∙ more-of j (back_tally (own_back e.kind u.now (thread_at u j))) (reported s₀ e.time) small
        ∙ ap (λ (g : ℕ → Tally). numbers (both (reported s₀ e.time) g)) (sym (only-blocks-tell e.kind j (thread_at u j) u))
        ∙ ap (λ (i : ℕ). numbers (both (reported s₀ e.time) (tallied (own_log_of e.kind i (thread_at u i) u)))) who
        ∙ ap (λ (x : State). numbers (both (reported s₀ e.time) (tallied (own_log_of e.kind (concerned x e) (thread_at x (concerned x e)) x)))) is-passed
        ∙ sym (both_told s₀ e z)

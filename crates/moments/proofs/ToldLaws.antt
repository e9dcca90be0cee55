-- The 128 numbers, as a loop over the moments adds them up: what is told so far and what the rest will tell is what the whole tells.
use Prim.Native.Nat.{ℕ, ◌+◌, ◌-◌, ◌≤◌, ◌<◌}
use mathlib.Core.Bool.{false}
use mathlib.Core.Path.{◌≡◌, sym, ap, ◌∙◌, subst⁻¹}
use mathlib.Core.List.{List, []}
use lib.ListN.{length, get_or, replicate}
use native.Mathlib.Omega.{arith}
use Rattle.sporadic.specs.declared.Effect.{Effect}
use Rattle.sporadic.specs.Rules.{limit_effect}
use Rattle.account.specs.Rules.{return_first}
use Rattle.passing.specs.Time.{due_by}
use Rattle.reports.specs.Steps.{Log}
use Rattle.reports.specs.Tallies.{Tally, tally, plus, returned, of_thread, no_tallies, both, tallied, numbers, more_of, Tellable}
use Rattle.reports.proofs.TallyLaws.{none_both, both-none, both-both, of-thread-plus, AtMost, left-most, most-more}
use Rattle.reports.proofs.NumberLaws.{numbers-length, no-numbers, numbers-most, more-of}
use Rattle.thread.specs.Thread.{is_blocked}
use Rattle.state.specs.declared.State.{State}
use Rattle.state.specs.State.{thread_at, account_at}
use Rattle.state.proofs.SoundLaws.{Sound}
use Rattle.ticks.specs.Running.{head, charge, limit, next}
use Rattle.moments.specs.Moments.{limits, first_returned}
use Rattle.moments.specs.Reports.{limit_log, reported}
use Rattle.moments.proofs.ChargeLaws.{limit-later}
use Rattle.moments.proofs.StepLaws.{quantum-chosen, limit-chosen}
use Rattle.moments.proofs.TurnLaws.{first_of, Mid, first_small, Going}
use Rattle.moments.proofs.ReportLaws.{rest, rest_back, rest-start, rest-done, rest-limit, charged-rest}
use Rattle.moments.proofs.ReportBounds.{reported-most}

pub record Telling (s₀ : State) (t : ℕ) (s : State) (told : List ℕ) : Type 0 where
  pub sofar : ℕ → Tally
  pub numbered : told ≡ numbers sofar
  pub whole : both sofar (rest s t) ≡ reported s₀ t

-- it begins with zeros
pub tell-start : (s : State) (t : ℕ) → Sound s → Telling s t s (replicate 128 0)
tell-start s t h = record { sofar = no_tallies; numbered = sym no-numbers; whole = none_both (rest s t) ∙ rest-start s t h }

-- a turn tells so much more of one thread
tell-more : (s₀ s u : State) (t i : ℕ) (x : Tally) (told : List ℕ) → Telling s₀ t s told → i < 32 → rest s t ≡ both (of_thread i x) (rest u t)
    → Telling s₀ t u (more_of i x told)
tell-more s₀ s u t i x told h l e =
    record {
      sofar = both h.sofar (of_thread i x);
      numbered = ap (more_of i x) h.numbered ∙ more-of i x h.sofar l;
      whole = both-both h.sofar (of_thread i x) (rest u t) ∙ ap (both h.sofar) (sym e) ∙ h.whole;
    }

-- it ends with the whole
pub tell-done : (s₀ s : State) (t : ℕ) (told : List ℕ) → Going s₀ t s → Telling s₀ t s told → due_by (next s) t ≡ false → told ≡ numbers (reported s₀ t)
tell-done s₀ s t told g h e =
    h.numbered ∙ ap numbers (sym (both-none h.sofar) ∙ ap (both h.sofar) (sym (rest-done s₀ s t g e)) ∙ h.whole)

module _ (s₀ s : State) (t : ℕ) (told : List ℕ) (g : Going s₀ t s) (h : Telling s₀ t s told) (p : 0 < next s) (l : next s ≤ t) (top : t ≤ 1000000000000000) where
  abbrev u : State
  u = charge (next s - s.now) s

  module _ (e : limit s ≡ next s) (small : head s < 32) where
    after : s.now ≤ next s
    after = omega (arith, limit-later (λ i. s.now - 1) s g.mid (omega arith))

    -- the end of a quantum
    pub tell-quantum : (thread_at s (head s)).parameters.policy ≡ 1 → Telling s₀ t (limits u) (more_of (head s) (tally 0 1 0 0) told)
    unfolding limit_log
    tell-quantum z =
        tell-more s₀ s (limits u) t (head s) (tally 0 1 0 0) told h small
        (rest-limit s₀ s t g p l top e
        ∙ ap (λ (xs : Log). both (tallied xs) (rest (limits u) t)) (quantum-chosen (λ i. s.now - 1) s g.mid p e after [] _ _ z)
        ∙ ap (λ (f : ℕ → Tally). both f (rest (limits u) t)) (both-none (of_thread (head s) (tally 0 1 0 0))))

    -- a limit, and what comes back at once
    abbrev limited : Effect
    limited = limit_effect u.now false (thread_at u (head s)).parameters (thread_at u (head s)).server

    pub tell-limit : ((thread_at s (head s)).parameters.policy ≡ 1 → ⊥) → Telling s₀ t (limits u) (more_of (head s) (plus (tally 1 0 0 0) (returned limited)) told)
    unfolding limit_log
    tell-limit d =
        tell-more s₀ s (limits u) t (head s) (plus (tally 1 0 0 0) (returned limited)) told h small
        (rest-limit s₀ s t g p l top e
        ∙ ap (λ (xs : Log). both (tallied xs) (rest (limits u) t)) (limit-chosen (λ i. s.now - 1) s g.mid p e after d [] _ _)
        ∙ ap (λ (f : ℕ → Tally). both (both (of_thread (head s) (tally 1 0 0 0)) f) (rest (limits u) t)) (both-none (of_thread (head s) (returned limited)))
        ∙ ap (λ (f : ℕ → Tally). both f (rest (limits u) t)) (of-thread-plus (head s) (tally 1 0 0 0) (returned limited)))

  -- ticks up to a due alone tell nothing
  pub tell-charged : (limit s ≡ next s → ⊥) → Telling s₀ t u told
  tell-charged e =
      record {
        sofar = h.sofar;
        numbered = h.numbered;
        whole = ap (both h.sofar) (sym (charged-rest s₀ s t g p l top e)) ∙ h.whole;
      }

-- the first entry that is due now
module _ (s₀ s : State) (t : ℕ) (told : List ℕ) (m : Mid s) (h : Telling s₀ t s told) (d : (first_of s).thread ≡ 32 → ⊥) (e : (first_of s).due ≤ s.now) where
  abbrev back : Effect
  back = return_first s.now (is_blocked (thread_at s (first_of s).thread)) (thread_at s (first_of s).thread).parameters (account_at s (first_of s).thread)

  pub tell-back : Telling s₀ t (first_returned (first_of s).thread s) (more_of (first_of s).thread (returned back) told)
  tell-back =
      let i = (first_of s).thread in
      tell-more s₀ s (first_returned i s) t i (returned back) told h (first_small s m d e)
      (rest_back s m t d e ∙ ap (λ (f : ℕ → Tally). both f (rest (first_returned i s) t)) (both-none (of_thread i (returned back))))

-- ---- no sum wraps

-- what is told so far is no more than the whole, of which no number is above 2000256 times the largest budget: the next turn's fits
module _ (s₀ : State) (t : ℕ) (sound : Sound s₀) (by : s₀.now ≤ t) (near : t ≤ s₀.now + 1000000) (top : t ≤ 1000000000000000) where
  pub reported-fits : (k : ℕ) → get_or (numbers (reported s₀ t)) k 0 ≤ 2000256000000000
  reported-fits k =
      numbers-most 32 2000256000000000 (reported s₀ t)
      (λ i l. most-more 2000256 2000256000000000 2000256000000000 2000256000000000 (reported s₀ t i) (omega arith) (omega arith) (reported-most s₀ t i sound by near top)) k

  pub told-fits : (s : State) (told : List ℕ) → Telling s₀ t s told → (k : ℕ) → get_or told k 0 ≤ 2000256000000000
  told-fits s told h k =
      subst⁻¹ (λ (xs : List ℕ). get_or xs k 0 ≤ 2000256000000000) h.numbered
      (numbers-most 32 2000256000000000 h.sofar
      (λ i l. left-most 2000256000000000 2000256000000000 (h.sofar i) (rest s t i)
      (subst⁻¹ (λ (f : ℕ → Tally). AtMost 2000256000000000 2000256000000000 (f i)) h.whole
      (most-more 2000256 2000256000000000 2000256000000000 2000256000000000 (reported s₀ t i) (omega arith) (omega arith) (reported-most s₀ t i sound by near top)))) k)

  -- so there is room for what a turn or a block tells
  pub told-tellable : (s : State) (told : List ℕ) → Telling s₀ t s told → (n : ℕ) → n ≤ 1000000000000000000 → Tellable n told
  told-tellable s told h n l = (ap (λ (xs : List ℕ). length xs) h.numbered ∙ numbers-length 32 h.sofar, λ k. omega (arith, told-fits s told h k))

  pub reported-tellable : (n : ℕ) → n ≤ 1000000000000000000 → Tellable n (numbers (reported s₀ t))
  reported-tellable n l = (numbers-length 32 (reported s₀ t), λ k. omega (arith, reported-fits k))

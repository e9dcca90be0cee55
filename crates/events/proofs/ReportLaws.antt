-- What events tell adds up over whole sequences, and no number of it is large.
use Prim.Native.Nat.{ℕ, zero, suc, ◌≤◌}
use mathlib.Core.Bool.{Bool, true, false, cond}
use mathlib.Core.Path.{◌≡◌, refl, sym, ap, ◌∙◌, subst⁻¹}
use mathlib.Core.List.{[], ◌∷◌}
use lib.ListN.{get_or-eq_default}
use lib.Dec.{ltb, eqb}
use native.Mathlib.Omega.{arith}
use native.Mathlib.Decide.{ℕ_discrete}
use borrow.Author.Tests.{ltb-true}
use Rattle.base.proofs.TestLaws.{tests}
use Rattle.records.specs.declared.Parameters.{Parameters}
use Rattle.records.specs.declared.Event.{Event}
use Rattle.records.specs.Ranges.{by_policy}
use Rattle.records.proofs.PolicyLaws.{policy-elim}
use Rattle.sporadic.specs.declared.Server.{Server}
use Rattle.sporadic.specs.declared.Effect.{Effect}
use Rattle.sporadic.specs.Rules.{block_effect}
use Rattle.sporadic.proofs.EffectLaws.{schedule-elim}
use Rattle.passing.specs.Sequence.{status}
use Rattle.passing.proofs.TimeLaws.{sound-advance}
use Rattle.passing.proofs.SequenceLaws.{acceptable}
use Rattle.passing.proofs.ReportLaws.{reports-add-up, report-accepted, report-refused}
use Rattle.reports.specs.Steps.{Log}
use Rattle.reports.specs.Tallies.{Tally, nothing, back_tally, returned, of_thread, no_tallies, both, tallied, numbers}
use Rattle.reports.proofs.TallyLaws.{AtMost, plus-most, most-more, none-most, both-none}
use Rattle.reports.proofs.NumberLaws.{no-numbers, numbers-most}
use Rattle.thread.specs.declared.Thread.{Thread}
use Rattle.thread.specs.Thread.{no_thread}
use Rattle.state.specs.declared.State.{State}
use Rattle.state.specs.State.{thread_at, pending_at}
use Rattle.state.proofs.SoundLaws.{ThreadSound, Sound, state-out}
use Rattle.state.proofs.SoundLaws.ThreadSound.{absent, fifo, rr, sporadic}
use Rattle.moments.specs.Moments.{clock, passed}
use Rattle.moments.specs.Reports.{ruled, tallies, reported}
use Rattle.moments.proofs.MomentLaws.{passing}
use Rattle.moments.proofs.ReportLaws.{tally-laws}
use Rattle.moments.proofs.ReportBounds.{returned-most, one_told, reported-most}
use Rattle.events.specs.Events.{concerned}
use Rattle.events.specs.Answers.{executive}
use Rattle.events.specs.Reports.{own_log_of, OnlyBlocksTell, own_tallies, event_tallies, TalliesAddUp, RefusedTellsZeros, NumbersFit, event_numbers}
use Rattle.events.proofs.DemandLaws.{lawful}

-- 02 E3 4
pub tallies-add-up : TalliesAddUp
tallies-add-up = reports-add-up executive tallies own_tallies lawful tally-laws (λ s t. refl)

-- 02 E3 5
pub refused-tells-zeros : RefusedTellsZeros
refused-tells-zeros s e p = ap numbers (report-refused executive tallies own_tallies s e (λ z. omega arith)) ∙ no-numbers

-- ---- an event's own effect

none_of : (i : ℕ) → no_tallies ≡ of_thread i nothing
none_of i = λ x j. sym (same (eqb i j)) x
  where
    same : (b : Bool) → cond b nothing nothing ≡ nothing
    same true = refl
    same false = refl

pub only-blocks-tell : OnlyBlocksTell
only-blocks-tell zero i t s = none_of i
only-blocks-tell (suc zero) i t s = go t.parameters.policy
  where
    e : Effect
    e = block_effect s.now false t.parameters t.server

    go : (p : ℕ) → tallied (by_policy p [] [] (ruled i e s ∷ [])) ≡ of_thread i (back_tally (by_policy p 0 0 e.back))
    go zero = none_of i
    go (suc zero) = none_of i
    go (suc (suc p)) = both-none (of_thread i (returned e))
only-blocks-tell (suc (suc zero)) i t s = none_of i
only-blocks-tell (suc (suc (suc zero))) i t s = none_of i
only-blocks-tell (suc (suc (suc (suc k)))) i t s = none_of i

-- ---- no number is large

-- U of a thread is at most its budget; past the threads there is none
pub used-most : (s : State) → Sound s → (j : ℕ) → (thread_at s j).server.used ≤ 1000000000
used-most s h j = go (ltb j 32) refl
  where
    each : ThreadSound s.header.start s.now s.now (ltb j s.header.n) (thread_at s j) (pending_at s j) → (thread_at s j).server.used ≤ 1000000000
    each (absent n t q) = omega (arith, ap (λ (x : Thread). x.server.used) t)
    each (fifo n z g a v q) = omega (arith, ap (λ (x : Server). x.used) v)
    each (rr n z g a v q) = omega (arith, ap (λ (x : Server). x.used) v)
    each (sporadic n z g a v) = omega (tests, g, v.sums.0)

    go : (b : Bool) → ltb j 32 ≡ b → (thread_at s j).server.used ≤ 1000000000
    go true e = each (h.each j (ltb-true j 32 e))
    go false e = omega (arith, ap (λ (x : Thread). x.server.used) (get_or-eq_default s.threads no_thread {n = j} (omega (tests, h.sizes, e))))

pub block_back : (now : ℕ) (p : Parameters) (v : Server) → (block_effect now false p v).back ≤ v.used
block_back now p v = schedule-elim now p v (λ (e : Effect). e.back ≤ v.used) (λ u. omega arith) (λ u d. omega arith) (λ u d. omega arith)

own-most : (kind i j : ℕ) (t : Thread) (s : State) → t.server.used ≤ 1000000000 → AtMost 1 1000000000 (tallied (own_log_of kind i t s) j)
own-most kind i j t s l = go kind
  where
    none : AtMost 1 1000000000 (tallied [] j)
    none = none-most 1 1000000000

    block : AtMost 1 1000000000 (tallied (own_log_of 1 i t s) j)
    block =
        policy-elim (λ (xs : Log). AtMost 1 1000000000 (tallied xs j)) t.parameters.policy _ _ _ (λ c. none-most 1 1000000000) (λ c. none-most 1 1000000000)
        (λ c. one_told i 1000000000 j (returned (block_effect s.now false t.parameters t.server))
        (returned-most (block_effect s.now false t.parameters t.server) 1000000000 (omega (arith, block_back s.now t.parameters t.server))))

    go : (k : ℕ) → AtMost 1 1000000000 (tallied (own_log_of k i t s) j)
    go zero = none
    go (suc zero) = block
    go (suc (suc zero)) = none
    go (suc (suc (suc zero))) = none
    go (suc (suc (suc (suc k)))) = none

event-most : (s : State) (e : Event) (j : ℕ) → AtMost 2000257 2000257000000000 (event_tallies s e j)
event-most s e j = go (ℕ_discrete (status executive s e) 0)
  where
    go : Dec (status executive s e ≡ 0) → AtMost 2000257 2000257000000000 (event_tallies s e j)
    go (yes z) =
        let a = acceptable executive s e z in
        let u = passed s e.time in
        let h = state-out u (sound-advance clock passing s e.time a.sound a.after a.in_range) in
        subst⁻¹ (λ (f : ℕ → Tally). AtMost 2000257 2000257000000000 (f j)) (report-accepted executive tallies own_tallies s e z)
        (plus-most 2000256 2000256000000000 1 1000000000 (reported s e.time j) (own_tallies u e j)
        (reported-most s e.time j (state-out s a.sound) a.after a.near a.in_range)
        (own-most e.kind (concerned u e) j (thread_at u (concerned u e)) u (used-most u h (concerned u e))))
    go (no z) =
        subst⁻¹ (λ (f : ℕ → Tally). AtMost 2000257 2000257000000000 (f j)) (report-refused executive tallies own_tallies s e z) (none-most 2000257 2000257000000000)

pub numbers_fit : NumbersFit
numbers_fit = (
  omega arith,
  λ s e k. numbers-most 32 2000257000000000 (event_tallies s e)
      (λ j l. most-more 2000257 2000257000000000 2000257000000000 2000257000000000 (event_tallies s e j) (omega arith) (omega arith) (event-most s e j)) k,
)

-- ---- what an accepted event tells, for code that adds it up: the numbers of the moments, and those of its own effect

module _ (s : State) (e : Event) (z : status executive s e ≡ 0) where
  abbrev u : State
  u = passed s e.time

  pub both_told : event_numbers s e ≡ numbers (both (reported s e.time) (own_tallies u e))
  both_told = ap numbers (report-accepted executive tallies own_tallies s e z)

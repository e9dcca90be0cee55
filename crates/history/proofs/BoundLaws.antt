-- At most two budgets in each stretch, over the executive's events.
use Prim.Native.Nat.{ℕ, ◌+◌, ◌-◌, ◌*◌, ◌/◌, ◌≤◌, ◌<◌}
use mathlib.Core.Bool.{true}
use mathlib.Core.Path.{◌≡◌, ap, ◌∙◌, subst, subst⁻¹}
use mathlib.Core.List.{List, []}
use lib.Dec.{ltb}
use native.Mathlib.Omega.{arith}
use native.Mathlib.Nat.{div-add-mod', mod-lt}
use Rattle.base.proofs.TestLaws.{tests, All, true-all, cond-true}
use Rattle.records.specs.declared.Parameters.{Parameters}
use Rattle.records.specs.declared.Event.{Event}
use Rattle.records.specs.Ranges.{in_range, fifo_in_range, rr_in_range, sporadic_in_range}
use Rattle.records.proofs.PolicyLaws.{by_two}
use Rattle.passing.specs.Sequence.{end}
use Rattle.ledger.proofs.BoundLaws.{Bounded, bound-rules, bound-begins, bounded, Elapsed, elapsed-rules}
use Rattle.thread.specs.Thread.{is_blocked}
use Rattle.state.specs.declared.State.{State}
use Rattle.state.specs.State.{thread_at, pending_at, account_at}
use Rattle.state.proofs.SoundLaws.{Sound, SporadicTests, state-out}
use Rattle.events.specs.Answers.{executive}
use Rattle.history.specs.History.{history_of}
use Rattle.ledger.specs.Bound.{stretch, most_upper}
use Rattle.bound.specs.declared.Most.{Most}
use Rattle.bound.specs.Most.{sporadic_thread, most_of}
use Rattle.history.specs.Bound.{upper_ticks, Watched, TwiceEachStretch, TwiceEachPeriod, TwiceInAPeriod, NeverMore}
use Rattle.history.proofs.SeenLaws.{Own, own}
use Rattle.history.proofs.EventLaws.{never-seen}

module _ (i : ℕ) (s : State) (es : List Event) (w : Watched i s es) where
  sound : Sound s
  sound = state-out s w.sound

  small : i < 32
  small = omega (tests, sound.sizes, w.present)

  mine : Own s.header.start s.now s.now (thread_at s i) (pending_at s i)
  mine = own s.header.start s.now s.now (ltb i s.header.n) (thread_at s i) (pending_at s i) (sound.each i small) w.policy

  -- a tick takes a tick
  elapsed : upper_ticks i s es ≤ (end executive s es).now - s.now
  elapsed = omega (arith, (never-seen (Elapsed s.now) (elapsed-rules s.now) i small es s [] w.sound (w.policy, omega arith) w.never).0.1)

  by-stretches : (n : ℕ) → (end executive s es).now ≤ s.now + n * stretch (thread_at s i).parameters → upper_ticks i s es ≤ n * (2 * (thread_at s i).parameters.budget)
  by-stretches n e =
      let p = (thread_at s i).parameters in
      let q = never-seen (Bounded p s.now) (bound-rules p s.now) i small es s [] w.sound (w.policy, bound-begins s.now (is_blocked (thread_at s i)) p (account_at s i)) w.never in
      let u = end executive s es in
      let k : (thread_at u i).parameters ≡ p = q.0.1.same in
      subst (λ (x : Parameters). upper_ticks i s es ≤ n * (2 * x.budget)) k
      (bounded p s.now u.now n (is_blocked (thread_at u i)) (thread_at u i).parameters (account_at u i) (history_of i s es) q.0.1
      (omega (tests, mine.ranges, ap (λ (x : Parameters). x.period) k)) (rw k e))

pub twice-each-stretch : TwiceEachStretch
twice-each-stretch n i s es w e = let r = by-stretches i s es w n e in omega (arith, r)

pub twice-each-period : TwiceEachPeriod
twice-each-period n i s es w e = let r = by-stretches i s es w n (omega (arith, e)) in omega (arith, r)

pub twice-in-a-period : TwiceInAPeriod
twice-in-a-period i s es w e = let r = by-stretches i s es w 1 (omega (arith, e)) in omega (arith, r)

-- the stretches that are begun take up the whole length
begun-whole : (length m : ℕ) → 0 < m → length ≤ (length + m - 1) / m * m
begun-whole length m p = omega (arith, div-add-mod' (length + m - 1) m, mod-lt (length + m - 1) p)

-- the parameters of a sporadic thread of a sound state are accepted
accepted : (p : Parameters) (blocked : ℕ) → p.policy ≡ 2 → All (SporadicTests p blocked) → sporadic_thread p ≡ true
unfolding sporadic_thread in_range sporadic_in_range
accepted p blocked z h =
    let r : sporadic_in_range 8 p ≡ true = true-all _ (omega (tests, h)) in
    let q : in_range 8 p ≡ true =
    true-all _ (omega (tests, h), (omega (tests, h), (omega (tests, z), (by_two p.policy (fifo_in_range p) (rr_in_range p) (sporadic_in_range 8 p) z ∙ r, tt)))) in
    true-all _ (omega (tests, z), (omega (tests, h), (q, tt)))

pub never-more : NeverMore
unfolding most_of
never-more length i s es w e =
    let p = (thread_at s i).parameters in
    let k = (mine i s es w).ranges in
    let m : 0 < stretch p = omega (tests, k) in
    let r = by-stretches i s es w ((length + stretch p - 1) / stretch p) (omega (arith, e, begun-whole length (stretch p) m)) in
    let a : most_of p length ≡ record { status = 0; ticks = most_upper p length } = cond-true (sporadic_thread p) _ _ (accepted p (thread_at s i).blocked w.policy k) in
    (ap (λ (x : Most). x.status) a, subst⁻¹ (λ (x : Most). upper_ticks i s es ≤ x.ticks) a (omega (arith, r, elapsed i s es w, e)))

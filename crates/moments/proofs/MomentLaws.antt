-- The seven laws of the passing of time, at the executive's state.
use Prim.Native.Nat.{ℕ, zero, suc, ◌+◌, ◌-◌, ◌≤◌, ◌<◌}
use mathlib.Core.Bool.{Bool, true, false, cond}
use mathlib.Core.Path.{◌≡◌, refl, sym, ap, ◌∙◌, subst, subst⁻¹}
use lib.ListN.{get_or}
use lib.Dec.{ltb, eqb}
use native.Mathlib.Omega.{arith}
use native.Mathlib.Decide.{ℕ_discrete}
use Rattle.records.specs.declared.Header.{Header}
use Rattle.records.specs.Ranges.{by_policy}
use Rattle.base.proofs.TestLaws.{cond-true, cond-false, false-true}
use Rattle.passing.specs.Time.{moment}
use Rattle.passing.proofs.TimeLaws.{Laws}
use Rattle.thread.specs.declared.Thread.{Thread}
use Rattle.state.specs.declared.State.{State}
use Rattle.rows.specs.Rows.{slots_at}
use Rattle.state.specs.State.{thread_at, pending_at}
use Rattle.state.specs.Sound.{sound_state}
use Rattle.state.proofs.SoundLaws.{ThreadSound, SoundFrom, Sound, state-in, state-out}
use Rattle.state.proofs.SoundLaws.ThreadSound.{absent, fifo, rr, sporadic}
use Rattle.ticks.proofs.EarlierLaws.{earlier-left}
use Rattle.ticks.specs.Running.{level, head, idles, charge, limit_of, limit, next}
use Rattle.due_search.specs.Search.{next_due}
use Rattle.moments.specs.Moments.{limits, replenish_below, fire, clock}
use Rattle.moments.proofs.ChangeLaws.{with_bound}
use Rattle.moments.proofs.ChargeLaws.{runs, Within, runner-lasts, charge-add, next-charge, later, dues-after, charged-sound}
use Rattle.moments.proofs.LimitLaws.{ran_state, charge-runs, limits-none, quantum-sound, limit-sound}
use Rattle.moments.proofs.FireLaws.{bounds-same, keeps-limits, now-fire, settle-sound}

within-at : (c : ℕ) (b : Bool) (now k left cap : ℕ) → 0 < by_policy c 1 left (cond b cap 1)
    → (0 < by_policy c 0 (now + left) (cond b (now + cap) 0) → now + k < by_policy c 0 (now + left) (cond b (now + cap) 0))
    → (c ≡ 1 → k < left) × (c ≡ 2 → b ≡ true → k < cap)
within-at zero b now k left cap l h = (λ e. absurd (omega arith), λ e f. absurd (omega arith))
within-at (suc zero) b now k left cap l h = (λ e. omega (arith, h (omega arith)), λ e f. absurd (omega arith))
within-at (suc (suc c)) true now k left cap l h = (λ e. absurd (omega arith), λ e f. omega (arith, h (omega arith)))
within-at (suc (suc c)) false now k left cap l h = (λ e. absurd (omega arith), λ e f. false-true f)

-- ticks before the limit leave something of what the running thread runs on
pub within-limit : (lo : ℕ → ℕ) (k : ℕ) (s : State) → SoundFrom lo s → (0 < limit s → s.now + k < limit s) → idles s ≡ false → Within (level s) k (thread_at s (head s))
within-limit lo k s h q e =
    let t = thread_at s (head s) in
    let v = within-at t.parameters.policy (eqb (level s) t.parameters.priority) s.now k t.left t.server.capacity (runner-lasts lo s h e) (rw e at q) in
    record { quantum = v.0; capacity = v.1 }

pub sound-charge : (k : ℕ) (s : State) → Sound s → (0 < next s → s.now + k < next s) → s.now + k ≤ 1000000000000000 → Sound (charge k s)
sound-charge k s h q l =
    charged-sound (λ i. s.now) (λ i. s.now + k) k s h (dues-after (λ i. s.now) s (s.now + k) h q)
    (within-limit (λ i. s.now) k s h (λ p. let r = earlier-left (limit s) (next_due s.counts s.dues s.header.n).due p in omega (arith, q r.0))) l

-- ---- a moment

-- the bounds at the moment: dues are at or after it
unfoldable pub before : State → ℕ → ℕ
before s i = next s - 1

-- once limits are dealt with, what is due comes back
fired : (s u : State) → SoundFrom (before s) (limits u) → u.now ≡ next s → Sound (fire u)
unfolding before fire
fired s u h e =
    let n = keeps-limits (λ (v : State). v.now) (λ i o v. refl) (λ p i v. refl) u in
    subst (λ (x : Header). Sound (replenish_below x.n (limits u))) (keeps-limits (λ (v : State). v.header) (λ i o v. refl) (λ p i v. refl) u)
    (settle-sound (λ i. next s - 1) (limits u) h)

module _ (s : State) (h : Sound s) (p : 0 < next s) (top : next s ≤ 1000000000000000) where
  k : ℕ
  k = next s - s.now

  at_next : s.now + k ≡ next s
  unfolding k
  at_next = omega (arith, later s h p)

  dues : (i : ℕ) → i < 32 → 0 < get_or s.counts i 0 → before s i < get_or (slots_at i s.dues) 0 0
  unfolding before
  dues = dues-after (λ i. s.now) s (next s - 1) h (λ q. omega arith)

  -- no limit at this moment
  moment-due : (0 < limit s → next s < limit s) → SoundFrom (before s) (charge k s)
  moment-due q =
      charged-sound (λ i. s.now) (before s) k s h dues (within-limit (λ i. s.now) k s h (λ d. omega (arith, q d, at_next))) (omega (arith, at_next))

  -- a limit or the end of a quantum
  module _ (e : idles s ≡ false) (q : limit_of s.now (level s) (thread_at s (head s)) ≡ next s) where
    back : SoundFrom (with_bound (before s) (head s) (before s (head s))) (limits (ran_state k s)) → SoundFrom (before s) (limits (charge k s))
    unfolding before
    back x =
        subst⁻¹ (λ (u : State). SoundFrom (before s) (limits u)) (charge-runs k s e)
        (bounds-same (with_bound (before s) (head s) (before s (head s))) (before s) (limits (ran_state k s)) x (λ i m. go (eqb i (head s)) (before s (head s)) (before s i) refl))
      where
        go : (b : Bool) (x y : ℕ) → x ≡ y → y ≡ cond b x y
        go true x y c = sym c
        go false x y c = refl

    -- the limit by the running thread's policy
    by : (c : ℕ) → (thread_at s (head s)).parameters.policy ≡ c
        → by_policy c 0 (s.now + (thread_at s (head s)).left) (cond (eqb (level s) (thread_at s (head s)).parameters.priority) (s.now + (thread_at s (head s)).server.capacity) 0) ≡ next s
    by c z =
        ap (λ (x : ℕ). by_policy x 0 (s.now + (thread_at s (head s)).left) (cond (eqb (level s) (thread_at s (head s)).parameters.priority) (s.now + (thread_at s (head s)).server.capacity) 0)) (sym z)
        ∙ q

    fits : s.now + k ≤ 1000000000000000
    fits = omega (arith, at_next)

    low : before s (head s) ≤ s.now + k
    unfolding before
    low = omega (arith, at_next)

    ends : (x : ℕ) → s.now + x ≡ next s → x ≡ k
    ends x c = omega (arith, at_next)

    at : ThreadSound s.header.start s.now s.now (ltb (head s) s.header.n) (thread_at s (head s)) (pending_at s (head s)) → SoundFrom (before s) (limits (charge k s))
    at (absent n t f) = absurd (omega (arith, by 0 (ap (λ (x : Thread). x.parameters.policy) t)))
    at (fifo n z g l v f) = absurd (omega (arith, by 0 z))
    at (rr n z g l v f) = back (quantum-sound (λ i. s.now) (before s) k s h e dues fits n z g v f (ends (thread_at s (head s)).left (by 1 z)))
    at (sporadic n z g l v) = up (eqb (level s) (thread_at s (head s)).parameters.priority) refl (by 2 z)
      where
        up : (b : Bool) → eqb (level s) (thread_at s (head s)).parameters.priority ≡ b
            → cond (eqb (level s) (thread_at s (head s)).parameters.priority) (s.now + (thread_at s (head s)).server.capacity) 0 ≡ next s → SoundFrom (before s) (limits (charge k s))
        up true u c =
            back
            (limit-sound (λ i. s.now) (before s) k s h e dues fits n z g l v u
            (ends (thread_at s (head s)).server.capacity (sym (cond-true (eqb (level s) (thread_at s (head s)).parameters.priority) _ _ u) ∙ c)) low)
        up false u c = absurd (omega (arith, sym (cond-false (eqb (level s) (thread_at s (head s)).parameters.priority) (s.now + (thread_at s (head s)).server.capacity) 0 u) ∙ c))

  moment-limit : limit s ≡ next s → SoundFrom (before s) (limits (charge k s))
  moment-limit q = go (idles s) refl
    where
      go : (b : Bool) → idles s ≡ b → SoundFrom (before s) (limits (charge k s))
      go true e = absurd (omega (arith, sym (cond-true (idles s) 0 (limit_of s.now (level s) (thread_at s (head s))) e) ∙ q))
      go false e =
          let r = runs (λ i. s.now) s h e in
          at e (sym (cond-false (idles s) 0 (limit_of s.now (level s) (thread_at s (head s))) e) ∙ q) (h.each (head s) r.small)

  -- once limits are dealt with, dues are at or after now
  pub limits-sound : SoundFrom (before s) (limits (charge (next s - s.now) s))
  unfolding k
  limits-sound = go (ℕ_discrete (limit s) (next s))
    where
      go : Dec (limit s ≡ next s) → SoundFrom (before s) (limits (charge (next s - s.now) s))
      go (yes q) = moment-limit q
      go (no q) =
          let u = moment-due (λ d. let r = earlier-left (limit s) (next_due s.counts s.dues s.header.n).due d in omega (arith, q)) in
          subst⁻¹ (SoundFrom (before s)) (limits-none (before s) (charge (next s - s.now) s) u) u

  pub sound-moment : Sound (moment clock s)
  unfolding k
  sound-moment = fired s (charge (next s - s.now) s) limits-sound at_next

-- from these follows that to b and then to c is to c, and demand 3 in the crate above
pub passing : Laws clock (λ s. sound_state s ≡ true) 1000000000000000
passing =
    record {
      later = λ s h p. later s (state-out s h) p;
      now-charge = λ k s. refl;
      now-fire = now-fire;
      charge-add = λ i j s h. charge-add (λ i. s.now) i j s (state-out s h);
      next-charge = λ k s h p. next-charge (λ i. s.now) k s (state-out s h) p;
      sound-charge = λ k s h p l. state-in (charge k s) (sound-charge k s (state-out s h) p l);
      sound-moment = λ s h p l. state-in (moment clock s) (sound-moment s (state-out s h) p l);
    }

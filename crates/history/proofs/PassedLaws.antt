-- The same over the moments, up to any time.
use Prim.Native.Nat.{ℕ, zero, suc, ◌+◌, ◌-◌, ◌≤◌, ◌<◌}
use mathlib.Core.Bool.{Bool, true, false, cond, ◌&&◌}
use mathlib.Core.Path.{◌≡◌, refl, sym, ap, ◌∙◌, subst, subst⁻¹}
use mathlib.Core.List.{List, [], ◌++◌, append-nil, append_assoc}
use lib.ListN.{length, get_or, length-set}
use lib.Seq.{get_or-set_same}
use lib.Dec.{ltb, eqb}
use native.Mathlib.Omega.{arith}
use Rattle.base.proofs.TestLaws.{tests, All, cond-true, cond-false}
use Rattle.records.proofs.PolicyLaws.{by_two}
use Rattle.sporadic.specs.declared.Server.{Server}
use Rattle.sporadic.specs.Rules.{charged}
use Rattle.account.specs.declared.Pending.{Pending}
use Rattle.account.specs.Account.{is_upper}
use Rattle.account_laws.proofs.SoundLaws.{AccountSound, made, charge-sound, upper-room}
use Rattle.passing.specs.Time.{Clock, due_by, charge_to, moment, by_moments}
use Rattle.passing.specs.Reports.{Reported, reporting, reported_to}
use Rattle.passing.proofs.TimeLaws.{due-true, due-false}
use Rattle.passing.proofs.ReportLaws.{reporting-state}
use Rattle.reports.specs.Steps.{Step, Log, steps_of}
use Rattle.ledger.proofs.StepRules.{Property, StepRules}
use Rattle.thread.specs.declared.Thread.{Thread}
use Rattle.thread.specs.Thread.{is_blocked, no_thread}
use Rattle.state.specs.declared.State.{State}
use Rattle.state.specs.State.{thread_at, pending_at, account_at}
use Rattle.state.proofs.SoundLaws.{ThreadSound, Sound, size_tests, state-in, state-out}
use Rattle.state.proofs.SoundLaws.ThreadSound.{absent, fifo, rr, sporadic}
use Rattle.ticks.specs.Running.{level, head, idles, ran, charge, limit_of, limit, next}
use Rattle.due_search.specs.Search.{next_due}
use Rattle.ticks.proofs.EarlierLaws.{earlier-left}
use Rattle.moments.specs.Moments.{limits, replenish_below, fire, clock, passed}
use Rattle.moments.specs.Reports.{limit_log, below_log, fire_log}
use Rattle.moments.proofs.ChargeLaws.{runs, upper-at, later, first-bound, dues-after, ran-upper}
use Rattle.moments.proofs.MomentLaws.{before, limits-sound, passing}
use Rattle.history.specs.History.{charge_log, logs}
use Rattle.history.proofs.SeenLaws.{steps-more, Seen, Own, own, below-seen, Spent, limits-seen, charge-seen}

charged-sizes : (k : ℕ) (s : State) → All (size_tests s) → s.now + k ≤ 1000000000000000 → All (size_tests (charge k s))
charged-sizes k s z l = go (idles s) refl
  where
    go : (b : Bool) → idles s ≡ b → All (size_tests (charge k s))
    go true e = rw e (omega (tests, z))
    go false e = rw (e, length-set s.threads (head s) (ran (level s) k (thread_at s (head s)))) (omega (tests, z))

charged-thread : (k i : ℕ) (s : State) → i < length s.threads → idles s ≡ false → head s ≡ i → thread_at (charge k s) i ≡ ran (level s) k (thread_at s i)
charged-thread k i s l e d = rw (e, d) (get_or-set_same s.threads i (ran (level s) k (thread_at s i)) no_thread l)

and_left : (a b : Bool) → (a && b) ≡ true → a ≡ true
and_left true b e = refl
and_left false b e = e

-- ---- the thread that runs, at its upper priority

at_most_two : (start now lo : ℕ) (b : Bool) (t : Thread) (q : Pending) → ThreadSound start now lo b t q → 1 < t.parameters.policy → t.parameters.policy ≡ 2
at_most_two start now lo b t q (absent n e f) l = absurd (omega (arith, l, ap (λ (x : Thread). x.parameters.policy) e))
at_most_two start now lo b t q (fifo n z k a v f) l = absurd (omega (arith, l, z))
at_most_two start now lo b t q (rr n z k a v f) l = absurd (omega (arith, l, z))
at_most_two start now lo b t q (sporadic n z k a v) l = z

module _ (s : State) (h : Sound s) (e : idles s ≡ false) (c : 1 < (thread_at s (head s)).parameters.policy) (u : eqb (level s) (thread_at s (head s)).parameters.priority ≡ true) where
  small : head s < 32
  small = (runs (λ j. s.now) s h e).small

  two : (thread_at s (head s)).parameters.policy ≡ 2
  two = at_most_two s.header.start s.now s.now (ltb (head s) s.header.n) (thread_at s (head s)) (pending_at s (head s)) (h.each (head s) small) c

  its : Own s.header.start s.now s.now (thread_at s (head s)) (pending_at s (head s))
  its = own s.header.start s.now s.now (ltb (head s) s.header.n) (thread_at s (head s)) (pending_at s (head s)) (h.each (head s) small) two

  runs_up : is_upper (thread_at s (head s)).parameters (account_at s (head s)) ≡ true
  runs_up = upper-at (level s) (thread_at s (head s)) (pending_at s (head s)) two (omega (tests, its.ranges)) (runs (λ j. s.now) s h e).stands u

  -- so there is room for U
  few : get_or s.counts (head s) 0 < 8
  few = omega (tests, its.ranges, (upper-room (thread_at s (head s)).parameters (account_at s (head s)) runs_up).1)

module _ (G : Property) (L : StepRules G) where
  module _ (i : ℕ) (l : i < 32) (s : State) (h : Sound s) (xs : List Step) (q : Seen G i s xs) where
    mine : Own s.header.start s.now s.now (thread_at s i) (pending_at s i)
    mine = own s.header.start s.now s.now (ltb i s.header.n) (thread_at s i) (pending_at s i) (h.each i l) q.0

    -- it runs at its upper priority
    module _ (e : idles s ≡ false) (d : head s ≡ i) (u : eqb (level s) (thread_at s i).parameters.priority ≡ true) where
      upper : (is_blocked (thread_at s i) ≡ false) × (is_upper (thread_at s i).parameters (account_at s i) ≡ true)
      upper =
          let there : (j : ℕ) → j ≡ i → (1 < (thread_at s j).parameters.policy) × (eqb (level s) (thread_at s j).parameters.priority ≡ true)
          = λ j d. (omega (arith, ap (λ (j : ℕ). (thread_at s j).parameters.policy) d, q.0), ap (λ (j : ℕ). eqb (level s) (thread_at s j).parameters.priority) d ∙ u) in (
            ap (λ (j : ℕ). is_blocked (thread_at s j)) (sym d) ∙ (runs (λ j. s.now) s h e).awake,
            ap (λ (j : ℕ). is_upper (thread_at s j).parameters (account_at s j)) (sym d) ∙ runs_up s h e (there (head s) d).0 (there (head s) d).1,
          )

      sound : AccountSound s.header.start s.now s.now true (thread_at s i).parameters (account_at s i)
      sound =
          subst (λ (x : Bool). AccountSound s.header.start s.now s.now x (thread_at s i).parameters (account_at s i))
          (cond-false (is_blocked (thread_at s i)) false _ upper.0 ∙ upper.1) mine.account

      room : (0 < (thread_at s i).server.capacity) × (get_or s.counts i 0 < (thread_at s i).parameters.max_repl)
      room = upper-room (thread_at s i).parameters (account_at s i) upper.1

      limit_is : limit s ≡ s.now + (thread_at s i).server.capacity
      limit_is =
          cond-false (idles s) 0 _ e
          ∙ ap (λ (j : ℕ). limit_of s.now (level s) (thread_at s j)) d
          ∙ by_two (thread_at s i).parameters.policy 0 _ _ q.0
          ∙ cond-true (eqb (level s) (thread_at s i).parameters.priority) _ _ u

      -- ticks up to the next moment are within the capacity
      within : (k : ℕ) → (0 < next s → s.now + k ≤ next s) → k ≤ (thread_at s i).server.capacity
      within k f =
          let y = earlier-left (limit s) (next_due s.counts s.dues s.header.n).due (omega (arith, limit_is, room.0)) in
          omega (arith, f y.0, y.1, limit_is)

    -- so many ticks, up to the next moment at most
    ticks-seen : (k : ℕ) → (0 < next s → s.now + k ≤ next s) → Seen G i (charge k s) (xs ++ steps_of i (charge_log k s))
    ticks-seen k f = charge-seen G L i k s h.sizes l xs q (λ e d u. ((upper e d u).0, (upper e d u).1, sound e d u, within e d u k f))

    -- ---- a moment

    module _ (some : 0 < next s) (top : next s ≤ 1000000000000000) where
      abbrev v : State
      v = charge (next s - s.now) s

      at_next : s.now + (next s - s.now) ≡ next s
      at_next = omega (arith, later s h some)

      spent : idles v ≡ false → head v ≡ i → (eqb (level v) (thread_at v i).parameters.priority && eqb (thread_at v i).server.capacity 0) ≡ true → Spent G L i (next s - 1) v
      spent e d b =
          subst⁻¹ (λ (x : Thread). (is_blocked x ≡ false) × AccountSound s.header.start (s.now + (next s - s.now)) (next s - 1) true x.parameters (made x.server (pending_at s i))
          × (get_or s.counts i 0 < x.parameters.max_repl) × (x.parameters.max_repl ≤ 8)) there (
            (upper e d u).0,
            subst⁻¹ (λ (y : Server). AccountSound s.header.start (s.now + (next s - s.now)) (next s - 1) true (thread_at s i).parameters (made y (pending_at s i)))
                (ran-upper (level s) (next s - s.now) (thread_at s i) q.0 u) used,
            (room e d u).1,
            omega (tests, mine.ranges),
          )
        where
          there : thread_at (charge (next s - s.now) s) i ≡ ran (level s) (next s - s.now) (thread_at s i)
          there = charged-thread (next s - s.now) i s (omega (tests, h.sizes)) e d

          u : eqb (level s) (thread_at s i).parameters.priority ≡ true
          u = ap (λ (x : Thread). eqb (level s) x.parameters.priority) (sym there) ∙ and_left _ _ b

          used : AccountSound s.header.start (s.now + (next s - s.now)) (next s - 1) true (thread_at s i).parameters (made (charged (next s - s.now) (thread_at s i).server) (pending_at s i))
          used =
              charge-sound s.header.start s.now s.now (thread_at s i).parameters (account_at s i) (next s - s.now) (next s - 1)
              (sound e d u)
              (within e d u (next s - s.now) (λ z. omega (arith, at_next)))
              (first-bound (pending_at s i) (next s - 1) (dues-after (λ j. s.now) s (next s - 1) h (λ z. omega arith) i l))

      -- whichever thread reaches its limit
      limit-room : idles v ≡ false → 1 < (thread_at v (head v)).parameters.policy → (eqb (level v) (thread_at v (head v)).parameters.priority && eqb (thread_at v (head v)).server.capacity 0) ≡ true
          → get_or v.counts (head v) 0 < 8
      limit-room e c b =
          few s h e (omega (arith, c, ap (λ (x : Thread). x.parameters.policy) there)) (ap (λ (x : Thread). eqb (level s) x.parameters.priority) (sym there) ∙ and_left _ _ b)
        where
          there : thread_at (charge (next s - s.now) s) (head s) ≡ ran (level s) (next s - s.now) (thread_at s (head s))
          there = charged-thread (next s - s.now) (head s) s (omega (tests, h.sizes, (runs (λ j. s.now) s h e).small)) e refl

      moment-seen : Seen G i (moment clock s) ((xs ++ steps_of i (charge_log (next s - s.now) s)) ++ steps_of i (fire_log v))
      unfolding fire before
      moment-seen =
          let ys = xs ++ steps_of i (charge_log (next s - s.now) s) in
          subst (Seen G i (replenish_below s.header.n (limits v)))
          (append_assoc ys (steps_of i (limit_log v)) (steps_of i (below_log s.header.n (limits v)))
          ∙ ap (λ (zs : List Step). ys ++ zs) (sym (steps-more i (limit_log v) (below_log s.header.n (limits v)))))
          (below-seen G L i l s.header.n (omega (tests, h.sizes)) (before s) (limits v) (limits-sound s h some top) (ys ++ steps_of i (limit_log v))
          (limits-seen G L i (next s - 1) l v (charged-sizes (next s - s.now) s h.sizes (omega (arith, at_next))) ys
          (ticks-seen (next s - s.now) (λ z. omega (arith, at_next))) (λ e. (runs (λ j. s.now) s h e).small) limit-room spent))

  -- ---- the passing of time

  module _ (i : ℕ) (l : i < 32) (pre : List Step) (t : ℕ) (top : t ≤ 1000000000000000) where
    abbrev D : Clock (Reported State Log)
    D = reporting clock logs

    abbrev SeenAt : Reported State Log → Type 0
    SeenAt u = Seen G i u.state (pre ++ steps_of i u.report)

    more : (s : State) (xs ys : Log) → Seen G i s ((pre ++ steps_of i xs) ++ steps_of i ys) → Seen G i s (pre ++ steps_of i (xs ++ ys))
    more s xs ys h =
        subst (Seen G i s) (append_assoc pre (steps_of i xs) (steps_of i ys) ∙ ap (λ (zs : List Step). pre ++ zs) (sym (steps-more i xs ys))) h

    rest-seen : (u : Reported State Log) → Sound u.state → SeenAt u → (0 < next u.state → u.state.now + (t - u.state.now) ≤ next u.state) → SeenAt (charge_to D u t)
    rest-seen u h q f =
        more (charge (t - u.state.now) u.state) u.report (charge_log (t - u.state.now) u.state)
        (ticks-seen i l u.state h (pre ++ steps_of i u.report) q (t - u.state.now) f)

    step-seen : (u : Reported State Log) → Sound u.state → SeenAt u → 0 < next u.state → next u.state ≤ t → SeenAt (moment D u)
    step-seen u h q p m =
        let c = charge_log (next u.state - u.state.now) u.state in
        let f = fire_log (charge (next u.state - u.state.now) u.state) in
        more (moment clock u.state) (u.report ++ c) f
        (subst (λ (zs : List Step). Seen G i (moment clock u.state) (zs ++ steps_of i f))
        (append_assoc pre (steps_of i u.report) (steps_of i c) ∙ ap (λ (zs : List Step). pre ++ zs) (sym (steps-more i u.report c)))
        (moment-seen i l u.state h (pre ++ steps_of i u.report) q p (omega arith)))

    moments-seen : (k : ℕ) (u : Reported State Log) → Sound u.state → u.state.now ≤ t → t - u.state.now ≤ k → SeenAt u → SeenAt (by_moments D k u t)
    unfolding by_moments
    moments-seen zero u h n f q = rest-seen u h q (λ p. omega (arith, later u.state h p))
    moments-seen (suc k) u h n f q =
        choose (due_by (next u.state) t) refl
        (λ e.
        let d = due-true (next u.state) t e in
        let a = later u.state h d.0 in
        let m = state-out (moment clock u.state) (passing.sound-moment u.state (state-in u.state h) d.0 (omega arith)) in
        let o : (moment clock u.state).now ≡ next u.state = passing.now-fire _ ∙ omega arith in
        moments-seen k (moment D u) m (omega (arith, o)) (omega (arith, o)) (step-seen u h q d.0 d.1))
      where
        choose : (b : Bool) → due_by (next u.state) t ≡ b → (due_by (next u.state) t ≡ true → SeenAt (by_moments D k (moment D u) t))
            → SeenAt (cond b (by_moments D k (moment D u) t) (charge_to D u t))
        choose true e r = r e
        choose false e r = rest-seen u h q (λ p. omega (arith, due-false (next u.state) t e p))

    pub passed-seen : (s : State) → Sound s → s.now ≤ t → Seen G i s pre → Seen G i (passed s t) (pre ++ steps_of i (reported_to clock logs s t))
    passed-seen s h n q =
        subst (λ (x : State). Seen G i x (pre ++ steps_of i (reported_to clock logs s t))) (reporting-state clock logs (record { state = s; report = [] }) t)
        (moments-seen (t - s.now) (record { state = s; report = [] }) h n (omega arith) (rw (append-nil pre) q))

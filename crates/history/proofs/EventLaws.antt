-- The same over events, and over sequences of them.
use Prim.Native.Nat.{ℕ, zero, suc, ◌≤◌, ◌<◌}
use mathlib.Core.Bool.{Bool, true, false, cond, ◌&&◌}
use mathlib.Core.Path.{◌≡◌, refl, sym, ap, ◌∙◌, subst, subst⁻¹}
use mathlib.Core.List.{List, [], ◌∷◌, ◌++◌, append-nil, append_assoc}
use lib.ListN.{get_or}
use lib.Dec.{ltb, leb, eqb}
use native.Mathlib.Omega.{arith}
use native.Mathlib.Decide.{ℕ_discrete}
use borrow.Author.Tests.{eqb-true, eqb-false, ltb-true, ltb-false, not-false}
use Rattle.base.proofs.TestLaws.{tests, cond-elim, cond-false}
use Rattle.records.specs.declared.Event.{Event}
use Rattle.records.specs.Ranges.{in_range}
use Rattle.records.proofs.PolicyLaws.{by_two}
use Rattle.sporadic.specs.Rules.{block_effect, wake_effect}
use Rattle.sporadic.specs.Carry.{goes_up, carried_server, cant_carry}
use Rattle.sporadic.proofs.CarryLaws.{carries as not_refused}
use Rattle.account.specs.declared.Account.{Account}
use Rattle.account.specs.Rules.{applied, blocking}
use Rattle.account.specs.Carry.{carried}
use Rattle.account.specs.Sound.{runs_upper}
use Rattle.account_laws.proofs.SoundLaws.{made, upper-room}
use Rattle.passing.specs.Sequence.{status, answer, end}
use Rattle.passing.specs.Reports.{report, reported_to}
use Rattle.passing.proofs.TimeLaws.{sound-advance}
use Rattle.passing.proofs.SequenceLaws.{acceptable, answer-accepted, refused-state}
use Rattle.passing.proofs.ReportLaws.{report-accepted, report-refused}
use Rattle.reports.specs.Steps.{Step, Log, steps_of}
use Rattle.reports.specs.Steps.Step.{effect}
use Rattle.ledger.proofs.StepRules.{Property, StepRules, CarryRule}
use Rattle.thread.specs.declared.Thread.{Thread}
use Rattle.thread.specs.Thread.{is_blocked, with_server}
use Rattle.state.specs.declared.State.{State}
use Rattle.state.specs.State.{thread_at, pending_at, account_at}
use Rattle.state.specs.Sound.{sound_state}
use Rattle.state.proofs.SoundLaws.{Sound, range-out, state-out}
use Rattle.ticks.specs.Running.{head}
use Rattle.moments.specs.Moments.{clock, passed}
use Rattle.moments.specs.Reports.{ruled}
use Rattle.moments.proofs.ChargeLaws.{runs}
use Rattle.moments.proofs.MomentLaws.{passing}
use Rattle.events.specs.declared.Change.{Change}
use Rattle.events.specs.Events.{change_of, shifted, with_change, concerned, event_change, happened}
use Rattle.events.specs.Answers.{field_status, state_status, executive}
use Rattle.events.specs.Reports.{own_log_of, own_log}
use Rattle.events.proofs.FitLaws.{carries-if}
use Rattle.events.proofs.EventLaws.{and_both, fields, state, change-right}
use Rattle.events.proofs.DemandLaws.{field-passed, accepted-sound}
use Rattle.history.specs.History.{logs, history, history_of, carries, EachSet, NeverSet}
use Rattle.history.proofs.SeenLaws.{steps-more, their-step, mine-step, SeenOf, Seen, mine, theirs, Own, own}
use Rattle.history.proofs.PassedLaws.{passed-seen}

-- the event concerns another thread: nothing is told of thread i
quiet-log : (kind i j : ℕ) (t : Thread) (s : State) → (j ≡ i → ⊥) → steps_of i (own_log_of kind j t s) ≡ []
quiet-log zero i j t s d = refl
quiet-log (suc zero) i j t s d =
    Rattle.records.proofs.PolicyLaws.policy-elim (λ (xs : Log). steps_of i xs ≡ []) t.parameters.policy _ _ _ (λ c. refl) (λ c. refl)
    (λ c. their-step i j _ [] d)
quiet-log (suc (suc zero)) i j t s d = refl
quiet-log (suc (suc (suc zero))) i j t s d = refl
quiet-log (suc (suc (suc (suc k)))) i j t s d = refl

module _ (G : Property) (L : StepRules G) where
  module _ (i : ℕ) (l : i < 32) (s : State) (h : Sound s) (xs : List Step) (q : Seen G i s xs) where
    abbrev t : Thread
    t = thread_at s i

    abbrev a : Account
    a = account_at s i

    its : Own s.header.start s.now s.now (thread_at s i) (pending_at s i)
    its = own s.header.start s.now s.now (ltb i s.header.n) (thread_at s i) (pending_at s i) (h.each i l) q.0

    -- the thread after a change, with what is told of it
    abbrev After : Change → List Step → Type 0
    After c ys = SeenOf G s.now (with_server c.account.server c.thread) c.account.pending ys

    -- U is scheduled
    blocks : is_blocked (thread_at s i) ≡ false → (p : _) → After (change_of 1 s.now p t a) (xs ++ steps_of i (own_log_of 1 i t s))
    unfolding change_of
    blocks w p = (
      q.0,
      subst⁻¹ (λ (ys : Log). G s.now true t.parameters (blocked a) (xs ++ steps_of i ys)) (by_two {A = Log} t.parameters.policy [] [] _ q.0)
          (subst⁻¹ (λ (b : Account). G s.now true t.parameters b (xs ++ steps_of i (ruled i (block_effect s.now false t.parameters t.server) s ∷ [])))
          (by_two {A = Account} t.parameters.policy a a (applied (block_effect s.now false t.parameters t.server) a) q.0)
          (subst⁻¹ (λ (ys : List Step). G s.now true t.parameters (applied (block_effect s.now false t.parameters t.server) a) (xs ++ ys))
          (mine-step i (effect s.now t.parameters.period (block_effect s.now false t.parameters t.server)) [])
          (L.blocks s.header.start s.now s.now (runs_upper (is_blocked t) t.parameters a) t.parameters a xs
          (subst (λ (b : Bool). G s.now b t.parameters a xs) w q.1) its.account
          (λ u. (upper-room t.parameters a (sym (cond-false (is_blocked t) false _ w) ∙ u)).1) (omega (tests, its.ranges))))),
    )
      where
        blocked : Account → Account
        blocked b = Rattle.events.specs.Events.if_sporadic (thread_at s i) (blocking s.now false (thread_at s i).parameters b).account b

    wakes : is_blocked (thread_at s i) ≡ true → (p : _) → After (change_of 3 s.now p t a) (xs ++ [])
    unfolding change_of
    wakes w p = (
      q.0,
      rw (append-nil xs)
          (subst⁻¹ (λ (b : Account). G s.now false t.parameters b xs)
          (by_two {A = Account} t.parameters.policy a a (applied (wake_effect s.now true t.parameters a.pending.count t.server) a) q.0)
          (L.wakes s.now t.parameters a xs (subst (λ (b : Bool). G s.now b t.parameters a xs) w q.1) (omega (tests, its.account.numbers)))),
    )

    yields : (p : _) → After (change_of 2 s.now p t a) (xs ++ [])
    unfolding change_of
    yields p = (q.0, rw (append-nil xs) q.1)

    -- ---- any event, with what is known of a set of thread i

    module _ (e : Event) (f : field_status s e ≡ 0) (g : state_status s e ≡ 0) (n : e.kind ≡ 4 → e.thread ≡ i → After (change_of 4 s.now e.parameters t a) (xs ++ [])) where
      -- the thread that it concerns, by its kind
      who : ℕ → ℕ
      who k = cond (leb k 2) (head s) e.thread

      own-change : (k : ℕ) → e.kind ≡ k → 0 < k → who k ≡ i → After (change_of k s.now e.parameters t a) (xs ++ steps_of i (own_log_of k i t s))
      unfolding who
      own-change zero z p d = absurd (omega arith)
      own-change (suc zero) z p d =
          blocks (ap (λ (j : ℕ). is_blocked (thread_at s j)) (sym d) ∙ (runs (λ j. s.now) s h (state s h e f g 1 z).0).awake) e.parameters
      own-change (suc (suc zero)) z p d = yields e.parameters
      own-change (suc (suc (suc zero))) z p d =
          wakes (ap (λ (j : ℕ). is_blocked (thread_at s j)) (sym d) ∙ not-false (is_blocked (thread_at s e.thread)) (state s h e f g 3 z).1) e.parameters
      own-change (suc (suc (suc (suc zero)))) z p d = n z d
      own-change (suc (suc (suc (suc (suc k))))) z p d =
          absurd (omega (arith, ltb-false 4 (suc (suc (suc (suc (suc k))))) (fields s h e f g (suc (suc (suc (suc (suc k))))) z).0))

      changed-seen : 0 < e.kind → Seen G i (with_change (concerned s e) (event_change s e) s) (xs ++ steps_of i (own_log s e))
      unfolding who
      changed-seen p = go (ℕ_discrete (concerned s e) i)
        where
          go : Dec (concerned s e ≡ i) → Seen G i (with_change (concerned s e) (event_change s e) s) (xs ++ steps_of i (own_log s e))
          go (yes d) =
              let r = change-right s h e f g p in
              let c = event_change s e in
              mine G i (concerned s e) r.small s h.sizes c.thread c.account (r.fits.dues, r.fits.amounts) (shifted (concerned s e) c.from c.to s.lists)
              (xs ++ steps_of i (own_log s e)) d
              (subst⁻¹ (λ (j : ℕ). After (change_of e.kind s.now e.parameters (thread_at s j) (account_at s j)) (xs ++ steps_of i (own_log_of e.kind j (thread_at s j) s))) d
              (own-change e.kind refl p d))
          go (no d) =
              let r = change-right s h e f g p in
              let c = event_change s e in
              subst⁻¹ (λ (ys : List Step). Seen G i (with_change (concerned s e) c s) (xs ++ ys)) (quiet-log e.kind i (concerned s e) (thread_at s (concerned s e)) s d)
              (rw (append-nil xs)
              (theirs G i (concerned s e) r.small s h.sizes c.thread c.account (r.fits.dues, r.fits.amounts) (shifted (concerned s e) c.from c.to s.lists) xs d q))

      pub happened-seen : Seen G i (happened s e) (xs ++ steps_of i (own_log s e))
      unfolding happened
      happened-seen =
          cond-elim (λ (u : State). Seen G i u (xs ++ steps_of i (own_log s e))) (eqb e.kind 0) _ _
          (λ z. subst⁻¹ (λ (k : ℕ). Seen G i s (xs ++ steps_of i (own_log_of k (concerned s e) (thread_at s (concerned s e)) s))) (eqb-true e.kind 0 z) (rw (append-nil xs) q))
          (λ z. changed-seen (omega (arith, eqb-false e.kind 0 z)))

  -- ---- a set that carries over

  module _ (C : CarryRule G) (i : ℕ) (l : i < 32) (s : State) (h : Sound s) (e : Event) (f : field_status s e ≡ 0) (g : state_status s e ≡ 0) (xs : List Step) (q : Seen G i s xs) where
    -- its account, as the set leaves it
    abbrev kept : Account
    kept = carried s.now (is_blocked (thread_at s i)) (thread_at s i).parameters e.parameters (account_at s i)

    carried_keeps : cant_carry (is_blocked (thread_at s i)) (thread_at s i).parameters e.parameters (thread_at s i).server.capacity (get_or s.counts i 0) ≡ false
        → G s.now (is_blocked (thread_at s i)) e.parameters (made kept.server kept.pending) xs
    unfolding carried carried_server
    carried_keeps c =
        let t = thread_at s i in
        let o = own s.header.start s.now s.now (ltb i s.header.n) t (pending_at s i) (h.each i l) q.0 in
        C s.now (is_blocked t) t.parameters e.parameters (account_at s i) _ xs q.1
        (omega (arith, (not_refused t.parameters e.parameters t.server.capacity (get_or s.counts i 0) (is_blocked t) c).enough)) refl
        (cond-elim (λ (x : ℕ). t.server.activation ≤ x) (goes_up (is_blocked t) t.parameters e.parameters (get_or s.counts i 0) t.server) s.now t.server.activation
        (λ u. omega (tests, o.account.numbers)) (λ u. omega arith))

    pub carry-seen : 1 < e.parameters.policy → e.kind ≡ 4 → e.thread ≡ i → After i l s h xs q (change_of 4 s.now e.parameters (thread_at s i) (account_at s i)) (xs ++ [])
    unfolding change_of
    carry-seen p z d = (
      two,
      rw (append-nil xs)
          (subst⁻¹ (λ (b : Account). G s.now (is_blocked (thread_at s i)) e.parameters (made b.server b.pending) xs)
          (by_two {A = Account} (thread_at s i).parameters.policy _ _ _ q.0 ∙ by_two {A = Account} e.parameters.policy _ _ _ two)
          (carried_keeps allowed)),
    )
      where
        -- in range
        two : e.parameters.policy ≡ 2
        two =
            let r = and_both (in_range 8 e.parameters) (eqb e.parameters.flag 0) (not-false (in_range 8 e.parameters && eqb e.parameters.flag 0) (fields s h e f g 4 z).2) in
            omega (arith, (range-out e.parameters r.0).2)

        allowed : cant_carry (is_blocked (thread_at s i)) (thread_at s i).parameters e.parameters (thread_at s i).server.capacity (get_or s.counts i 0) ≡ false
        allowed =
            subst (λ (j : ℕ). cant_carry (is_blocked (thread_at s j)) (thread_at s j).parameters e.parameters (thread_at s j).server.capacity (get_or s.counts j 0) ≡ false) d
            (carries-if (thread_at s e.thread).parameters.policy e.parameters.policy _
            (omega (arith, ap (λ (j : ℕ). (thread_at s j).parameters.policy) d, q.0)) p (state s h e f g 4 z).2)

  -- ---- events and sequences

  -- the sets of thread i that P allows keep the property
  abbrev pub SetsKeep : (State → Event → Type 0) → ℕ → Type 0
  SetsKeep P i =
      (s : State) (e : Event) → P s e → e.kind ≡ 4 → e.thread ≡ i → (u : State) → Sound u → field_status u e ≡ 0 → state_status u e ≡ 0 → (xs : List Step) → Seen G i u xs
      → let c = change_of 4 u.now e.parameters (thread_at u i) (account_at u i) in
      SeenOf G u.now (with_server c.account.server c.thread) c.account.pending (xs ++ [])

  module _ (P : State → Event → Type 0) (i : ℕ) (l : i < 32) (k : SetsKeep P i) where
    event-seen : (s : State) (e : Event) (xs : List Step) → status executive s e ≡ 0 → Seen G i s xs → (e.kind ≡ 4 → e.thread ≡ i → P s e)
        → Seen G i (answer executive s e).state (xs ++ steps_of i (report executive logs own_log s e))
    event-seen s e xs z q n =
        let a = acceptable executive s e z in
        let u = passed s e.time in
        let h = state-out u (sound-advance clock passing s e.time a.sound a.after a.in_range) in
        let before = reported_to clock logs s e.time in
        rw (answer-accepted executive s e z, report-accepted executive logs own_log s e z)
        (subst (Seen G i (happened u e))
        (append_assoc xs (steps_of i before) (steps_of i (own_log u e)) ∙ ap (λ (ys : List Step). xs ++ ys) (sym (steps-more i before (own_log u e))))
        (happened-seen i l u h (xs ++ steps_of i before)
        (passed-seen G L i l xs e.time a.in_range s (state-out s a.sound) a.after q) e (field-passed s e ∙ a.fields) a.state
        (λ y d. k s e (n y d) y d u h (field-passed s e ∙ a.fields) a.state (xs ++ steps_of i before)
        (passed-seen G L i l xs e.time a.in_range s (state-out s a.sound) a.after q))))

    sequence-seen : (es : List Event) (s : State) (xs : List Step) → sound_state s ≡ true → Seen G i s xs → EachSet P i s es
        → Seen G i (end executive s es) (xs ++ history_of i s es) × (sound_state (end executive s es) ≡ true)
    sequence-seen [] s xs h q n = (rw (append-nil xs) q, h)
    sequence-seen (e ∷ es) s xs h q n =
        go (ℕ_discrete (status executive s e) 0)
        (λ z. sequence-seen es (answer executive s e).state (xs ++ steps_of i (report executive logs own_log s e)) (accepted-sound s e z) (event-seen s e xs z q (n.0 z)) n.1)
        (λ z. sequence-seen es (answer executive s e).state xs (rw (refused-state executive s e z) h) (rw (refused-state executive s e z) q) n.1)
      where
        Goal : List Step → Type 0
        Goal ys = Seen G i (end executive (answer executive s e).state es) ys × (sound_state (end executive (answer executive s e).state es) ≡ true)

        go : Dec (status executive s e ≡ 0)
            → (status executive s e ≡ 0 → Goal ((xs ++ steps_of i (report executive logs own_log s e)) ++ history_of i (answer executive s e).state es))
            → (0 < status executive s e → Goal (xs ++ history_of i (answer executive s e).state es))
            → Goal (xs ++ steps_of i (report executive logs own_log s e ++ history (answer executive s e).state es))
        go (yes z) f g =
            subst Goal
            (append_assoc xs (steps_of i (report executive logs own_log s e)) (history_of i (answer executive s e).state es)
            ∙ ap (λ (ys : List Step). xs ++ ys) (sym (steps-more i (report executive logs own_log s e) (history (answer executive s e).state es))))
            (f z)
        go (no z) f g =
            subst⁻¹ (λ (ys : Log). Goal (xs ++ steps_of i (ys ++ history (answer executive s e).state es))) (report-refused executive logs own_log s e z) (g (omega (arith, z)))

  -- ---- none is accepted, or each carries over

  module _ (i : ℕ) (l : i < 32) where
    carries-keep : CarryRule G → SetsKeep (λ u e. carries u e ≡ true) i
    carries-keep C s e c z d u h f g xs q =
        let was = ltb 1 (thread_at s e.thread).parameters.policy in
        let is = ltb 1 e.parameters.policy in
        carry-seen C i l u h e f g xs q (ltb-true 1 e.parameters.policy (and_both was is (and_both (eqb e.kind 4) (was && is) c).1).1) z d

    pub never-seen : (es : List Event) (s : State) (xs : List Step) → sound_state s ≡ true → Seen G i s xs → NeverSet i s es
        → Seen G i (end executive s es) (xs ++ history_of i s es) × (sound_state (end executive s es) ≡ true)
    never-seen es s xs h q n = sequence-seen (λ u e. ⊥) i l (λ s e n z d u h f g xs q. absurd n) es s xs h q n

    pub carried-seen : CarryRule G → (es : List Event) (s : State) (xs : List Step) → sound_state s ≡ true → Seen G i s xs → EachSet (λ u e. carries u e ≡ true) i s es
        → Seen G i (end executive s es) (xs ++ history_of i s es) × (sound_state (end executive s es) ≡ true)
    carried-seen C es s xs h q n = sequence-seen (λ u e. carries u e ≡ true) i l (carries-keep C) es s xs h q n

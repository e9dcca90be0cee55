-- A property of the account of thread i and of its steps, as ticks pass and rules are applied: once, for any property that the rules keep.
use Prim.Native.Nat.{ℕ, zero, suc, ◌+◌, ◌≤◌, ◌<◌}
use mathlib.Core.Bool.{Bool, true, false, cond, ◌&&◌}
use mathlib.Core.Path.{◌≡◌, refl, sym, ap, ◌∙◌, subst, subst⁻¹}
use mathlib.Core.List.{List, [], ◌∷◌, ◌++◌, append-nil, append_assoc}
use lib.ListN.{length, get_or}
use lib.Seq.{get_or-set_same, get_or-set_other}
use lib.Dec.{ltb, eqb}
use native.Mathlib.Omega.{arith}
use native.Mathlib.Decide.{ℕ_discrete}
use borrow.Author.Tests.{eq-eqb, ne_eqb, eqb-true}
use Rattle.base.proofs.TestLaws.{tests, All, cond-elim, cond-true, cond-false, false-true}
use Rattle.records.specs.Ranges.{by_policy}
use Rattle.records.proofs.PolicyLaws.{by_two, policy-elim}
use Rattle.sporadic.specs.declared.Effect.{Effect}
use Rattle.sporadic.specs.Rules.{charged, limit_effect}
use Rattle.sporadic.proofs.EffectLaws.{limit-keeps}
use Rattle.entries.proofs.InsertLaws.{slot-for}
use Rattle.account.specs.declared.Pending.{Pending}
use Rattle.account.specs.declared.Account.{Account}
use Rattle.account.specs.Account.{is_upper}
use Rattle.account.specs.Rules.{slot_for, Room, applied, first_is_due, return_first}
use Rattle.account.specs.Sound.{runs_upper}
use Rattle.account.proofs.EntryLaws.{slots_length}
use Rattle.account.proofs.RoomLaws.{return-room}
use Rattle.account.proofs.ReturnLaws.{due-some}
use Rattle.account_laws.proofs.SoundLaws.{AccountSound, made}
use Rattle.ready.specs.Lists.{moved}
use Rattle.rows.proofs.RowLaws.{row-length}
use Rattle.reports.specs.Steps.{Step, Log, happens, steps_of}
use Rattle.reports.specs.Steps.Step.{ran as ran_step, limit as limit_step, quantum as quantum_step, effect}
use Rattle.ledger.proofs.StepRules.{Property, StepRules}
use Rattle.thread.specs.declared.Thread.{Thread}
use Rattle.thread.specs.Thread.{is_blocked, no_thread, with_server, with_left}
use Rattle.state.specs.declared.State.{State}
use Rattle.state.specs.State.{thread_at, pending_at, account_at}
use Rattle.state.specs.Updates.{with_lists, with_account}
use Rattle.state.proofs.SoundLaws.{ThreadSound, SoundFrom, SporadicTests, size_tests}
use Rattle.state.proofs.SoundLaws.ThreadSound.{absent, fifo, rr, sporadic}
use Rattle.ticks.specs.Running.{level, head, idles, ran, charge}
use Rattle.moments.specs.Changes.{sent_to, with_effect}
use Rattle.moments.specs.Moments.{quantum_ended, limits_of, limits, first_returned, replenish, replenish_below}
use Rattle.moments.specs.Reports.{ruled, limit_log_of, limit_log, return_log, replenish_log, below_log}
use Rattle.moments.proofs.ChangeLaws.{thread-new, thread-other, pending-new, pending-other, thread-account}
use Rattle.moments.proofs.ChargeLaws.{ran-upper, ran-low}
use Rattle.moments.proofs.FireLaws.{first-returned-sound, turns, below-sound}
use Rattle.history.specs.History.{ran_log, charge_log}

-- ---- logs

pub steps-more : (i : ℕ) (xs ys : Log) → steps_of i (xs ++ ys) ≡ steps_of i xs ++ steps_of i ys
steps-more i [] ys = refl
steps-more i (x ∷ xs) ys = go (eqb x.thread i) (steps-more i xs ys)
  where
    go : (b : Bool) → steps_of i (xs ++ ys) ≡ steps_of i xs ++ steps_of i ys
        → cond b (x.step ∷ steps_of i (xs ++ ys)) (steps_of i (xs ++ ys)) ≡ cond b (x.step ∷ steps_of i xs) (steps_of i xs) ++ steps_of i ys
    go true e = ap (λ (l : List Step). x.step ∷ l) e
    go false e = e

-- of one thread alone
pub mine-step : (i : ℕ) (x : Step) (ys : Log) → steps_of i (happens i x ∷ ys) ≡ x ∷ steps_of i ys
mine-step i x ys = cond-true (eqb i i) _ _ (eq-eqb i i refl)

pub their-step : (i j : ℕ) (x : Step) (ys : Log) → (j ≡ i → ⊥) → steps_of i (happens j x ∷ ys) ≡ steps_of i ys
their-step i j x ys d = cond-false (eqb j i) _ _ (ne_eqb j i d)

-- ---- rows keep their lengths

abbrev pub Rows : Pending → Type 0
Rows q = (length q.dues ≡ 8) × (length q.amounts ≡ 8)

pub rows_at : (s : State) → All (size_tests s) → (j : ℕ) → j < 32 → Rows (pending_at s j)
rows_at s z j l = (row-length j s.dues l (omega (tests, z)), row-length j s.amounts l (omega (tests, z)))

rows-effect : (e : Effect) (a : Account) → Room e.first e.amount a.pending.count → Rows a.pending → Rows (applied e a).pending
rows-effect e a m r =
    let n = a.pending.count in
    let k = slot_for e.due n a.pending.dues in
    let w = (slot-for e.due n a.pending.dues).within in (
      slots_length e.first e.amount k n e.due a.pending.dues (omega (arith, r.0)) (λ f x. (w, omega (arith, m.1 f x, r.0))) ∙ r.0,
      slots_length e.first e.amount k n e.amount a.pending.amounts (omega (arith, r.1)) (λ f x. (w, omega (arith, m.1 f x, r.1))) ∙ r.1,
    )

module _ (G : Property) where
  -- of a sporadic thread with these entries
  abbrev pub SeenOf : ℕ → Thread → Pending → List Step → Type 0
  SeenOf now t q xs = (t.parameters.policy ≡ 2) × G now (is_blocked t) t.parameters (made t.server q) xs

  abbrev pub Seen : ℕ → State → List Step → Type 0
  Seen i s xs = SeenOf s.now (thread_at s i) (pending_at s i) xs

  -- another thread and account at place j
  module _ (i j : ℕ) (lj : j < 32) (s : State) (z : All (size_tests s)) (t : Thread) (a : Account) (r : Rows a.pending) (l : List ℕ) where
    pub mine : (xs : List Step) → j ≡ i → SeenOf s.now (with_server a.server t) a.pending xs → Seen i (with_lists l (with_account j t a s)) xs
    mine xs e h =
        subst (λ (k : ℕ). Seen k (with_lists l (with_account j t a s)) xs) e
        (rw (thread-new s j lj t a z r.0 r.1, pending-new s j lj t a z r.0 r.1) h)

    pub theirs : (xs : List Step) → (j ≡ i → ⊥) → Seen i s xs → Seen i (with_lists l (with_account j t a s)) xs
    theirs xs e h = rw (thread-other s j lj t a z r.0 r.1 i (λ q. e (sym q)), pending-other s j lj t a z r.0 r.1 i (λ q. e (sym q))) h

  -- what a rule did to thread j
  module _ (i j : ℕ) (lj : j < 32) (s : State) (z : All (size_tests s)) (e : Effect) (m : Room e.first e.amount (get_or s.counts j 0)) where
    rows : Rows (applied e (account_at s j)).pending
    rows = rows-effect e (account_at s j) m (rows_at s z j lj)

    abbrev lists : List ℕ
    lists = sent_to e.place j (thread_at s j).parameters s.lists

    own-effect : (xs : List Step) → j ≡ i → SeenOf s.now (with_server (applied e (account_at s j)).server (thread_at s j)) (applied e (account_at s j)).pending xs
        → Seen i (with_effect j e s) xs
    own-effect xs d h = mine i j lj s z (thread_at s j) (applied e (account_at s j)) rows lists xs d h

    other-effect : (xs : List Step) → (j ≡ i → ⊥) → Seen i s xs → Seen i (with_effect j e s) xs
    other-effect xs d h = theirs i j lj s z (thread_at s j) (applied e (account_at s j)) rows lists xs d h

  none_more : (i : ℕ) (s : State) (xs : List Step) → Seen i s xs → Seen i s (xs ++ [])
  none_more i s xs h = rw (append-nil xs) h

-- ---- a sporadic thread of a sound state

pub record Own (start now lo : ℕ) (t : Thread) (q : Pending) : Type 0 where
  pub ranges : All (SporadicTests t.parameters t.blocked)
  pub account : AccountSound start now lo (runs_upper (is_blocked t) t.parameters (made t.server q)) t.parameters (made t.server q)

pub own : (start now lo : ℕ) (b : Bool) (t : Thread) (q : Pending) → ThreadSound start now lo b t q → t.parameters.policy ≡ 2 → Own start now lo t q
own start now lo b t q (absent n e f) c = absurd (omega (arith, c, ap (λ (x : Thread). x.parameters.policy) e))
own start now lo b t q (fifo n z k a v f) c = absurd (omega (arith, c, z))
own start now lo b t q (rr n z k a v f) c = absurd (omega (arith, c, z))
own start now lo b t q (sporadic n z k a v) c = record { ranges = k; account = v }

-- the Effect of the first entry of thread j
abbrev back_of : ℕ → State → Effect
back_of j s = return_first s.now (is_blocked (thread_at s j)) (thread_at s j).parameters (account_at s j)

and_right : (a b : Bool) → (a && b) ≡ true → b ≡ true
and_right true b e = e
and_right false b e = false-true e

module _ (G : Property) (L : StepRules G) where
  -- ---- an entry comes back

  module _ (i : ℕ) (l : i < 32) (lo : ℕ → ℕ) where
    -- the first of thread j
    first-seen : (j : ℕ) → j < 32 → (s : State) → SoundFrom lo s → first_is_due s.now (pending_at s j) ≡ true → (xs : List Step) → Seen G i s xs
        → Seen G i (first_returned j s) (xs ++ steps_of i (return_log j s ∷ []))
    first-seen j lj s h e xs q = go (ℕ_discrete j i)
      where
        here : j ≡ i → G s.now (is_blocked (thread_at s j)) (thread_at s j).parameters (applied (back_of j s) (account_at s j))
            (xs ++ effect s.now (thread_at s j).parameters.period (back_of j s) ∷ [])
        here d =
            let c = subst⁻¹ (λ (k : ℕ). Seen G k s xs) d q in
            let o = own s.header.start s.now (lo j) (ltb j s.header.n) (thread_at s j) (pending_at s j) (h.each j lj) c.0 in
            L.returns s.header.start s.now (lo j) (runs_upper (is_blocked (thread_at s j)) (thread_at s j).parameters (account_at s j)) (is_blocked (thread_at s j))
            (thread_at s j).parameters (account_at s j) xs c.1 o.account e

        room : Room (back_of j s).first (back_of j s).amount (get_or s.counts j 0)
        room = return-room s.now (thread_at s j).parameters (thread_at s j).server (is_blocked (thread_at s j)) (get_or s.counts j 0) (get_or (pending_at s j).amounts 0 0)

        go : Dec (j ≡ i) → Seen G i (first_returned j s) (xs ++ steps_of i (return_log j s ∷ []))
        go (yes d) =
            subst⁻¹ (λ (ys : List Step). Seen G i (first_returned j s) (xs ++ ys))
            (ap (λ (k : ℕ). steps_of k (return_log j s ∷ [])) (sym d) ∙ mine-step j (effect s.now (thread_at s j).parameters.period (back_of j s)) [])
            (own-effect G i j lj s h.sizes (back_of j s) room (xs ++ effect s.now (thread_at s j).parameters.period (back_of j s) ∷ []) d
            ((subst⁻¹ (λ (k : ℕ). Seen G k s xs) d q).0, here d))
        go (no d) =
            subst⁻¹ (λ (ys : List Step). Seen G i (first_returned j s) (xs ++ ys)) (their-step i j (effect s.now (thread_at s j).parameters.period (back_of j s)) [] d)
            (none_more G i (first_returned j s) xs (other-effect G i j lj s h.sizes (back_of j s) room xs d q))

    -- all of thread j that are due
    replenish-seen : (k j : ℕ) → j < 32 → (s : State) → SoundFrom lo s → (xs : List Step) → Seen G i s xs
        → Seen G i (replenish k j s) (xs ++ steps_of i (replenish_log k j s))
    unfolding replenish replenish_log
    replenish-seen zero j lj s h xs q = none_more G i s xs q
    replenish-seen (suc k) j lj s h xs q =
        go (first_is_due s.now (pending_at s j)) refl
        (λ e. replenish-seen k j lj (first_returned j s) (first-returned-sound lo s h j lj (due-some s.now (pending_at s j) e))
        (xs ++ steps_of i (return_log j s ∷ [])) (first-seen j lj s h e xs q))
      where
        go : (b : Bool) → first_is_due s.now (pending_at s j) ≡ b
            → (first_is_due s.now (pending_at s j) ≡ true → Seen G i (replenish k j (first_returned j s)) ((xs ++ steps_of i (return_log j s ∷ [])) ++ steps_of i (replenish_log k j (first_returned j s))))
            → Seen G i (cond b (replenish k j (first_returned j s)) s) (xs ++ steps_of i (cond b (return_log j s ∷ replenish_log k j (first_returned j s)) []))
        go true e f =
            subst⁻¹ (λ (ys : List Step). Seen G i (replenish k j (first_returned j s)) ys)
            (ap (λ (ys : List Step). xs ++ ys) (steps-more i (return_log j s ∷ []) (replenish_log k j (first_returned j s)))
            ∙ sym (append_assoc xs (steps_of i (return_log j s ∷ [])) (steps_of i (replenish_log k j (first_returned j s)))))
            (f e)
        go false e f = none_more G i s xs q

  -- by thread number
  pub below-seen : (i : ℕ) → i < 32 → (n : ℕ) → n ≤ 32 → (lo : ℕ → ℕ) (s : State) → SoundFrom lo s → (xs : List Step) → Seen G i s xs
      → Seen G i (replenish_below n s) (xs ++ steps_of i (below_log n s))
  unfolding replenish_below below_log
  below-seen i l zero m lo s h xs q = none_more G i s xs q
  below-seen i l (suc n) m lo s h xs q =
      let u = replenish_below n s in
      subst⁻¹ (λ (ys : List Step). Seen G i (replenish (get_or u.counts n 0) n u) ys)
      (ap (λ (ys : List Step). xs ++ ys) (steps-more i (below_log n s) (replenish_log (get_or u.counts n 0) n u))
      ∙ sym (append_assoc xs (steps_of i (below_log n s)) (steps_of i (replenish_log (get_or u.counts n 0) n u))))
      (replenish-seen i l (turns s.now n lo) (get_or u.counts n 0) n (omega arith) u (below-sound lo n s (omega arith) h) (xs ++ steps_of i (below_log n s))
      (below-seen i l n (omega arith) lo s h xs q))

  -- ---- the limit and the end of a quantum

  -- what a limit of thread i needs
  abbrev pub Spent : ℕ → ℕ → State → Type 0
  Spent i lo s =
      (is_blocked (thread_at s i) ≡ false)
      × AccountSound s.header.start s.now lo true (thread_at s i).parameters (account_at s i)
      × (get_or s.counts i 0 < (thread_at s i).parameters.max_repl) × ((thread_at s i).parameters.max_repl ≤ 8)

  module _ (i lo : ℕ) (l : i < 32) (s : State) (z : All (size_tests s)) (xs : List Step) (q : Seen G i s xs) where
    abbrev limited : ℕ → Effect
    limited j = limit_effect s.now false (thread_at s j).parameters (thread_at s j).server

    -- there is room for U
    spent-room : (j : ℕ) → get_or s.counts j 0 < 8 → Room (limited j).first (limited j).amount (get_or s.counts j 0)
    spent-room j c =
        (λ f. false-true (sym (limit-keeps s.now (thread_at s j).parameters (thread_at s j).server false) ∙ f), λ f x. c)

    -- of thread i
    own-limit : (thread_at s i).server.capacity ≡ 0 → Spent i lo s
        → Seen G i (with_effect i (limited i) s) (xs ++ limit_step ∷ effect s.now (thread_at s i).parameters.period (limited i) ∷ [])
    own-limit c y =
        own-effect G i i l s z (limited i) (spent-room i (omega (arith, y.2, y.3))) _ refl (
          q.0,
          subst⁻¹ (λ (b : Bool). G s.now b (thread_at s i).parameters (applied (limited i) (account_at s i)) (xs ++ limit_step ∷ effect s.now (thread_at s i).parameters.period (limited i) ∷ [])) y.0
              (L.limits s.header.start s.now lo (thread_at s i).parameters (account_at s i) xs
              (subst (λ (b : Bool). G s.now b (thread_at s i).parameters (account_at s i) xs) y.0 q.1) y.1 y.2 y.3 c),
        )

    -- of a running thread j
    at-thread : (j : ℕ) → j < 32
        → (1 < (thread_at s j).parameters.policy → (eqb (level s) (thread_at s j).parameters.priority && eqb (thread_at s j).server.capacity 0) ≡ true → get_or s.counts j 0 < 8)
        → (j ≡ i → (eqb (level s) (thread_at s i).parameters.priority && eqb (thread_at s i).server.capacity 0) ≡ true → Spent i lo s)
        → Seen G i (limits_of (level s) j (thread_at s j) s) (xs ++ steps_of i (limit_log_of (level s) j (thread_at s j) s))
    at-thread j lj r f = go (ℕ_discrete j i)
      where
        here : Seen G i (limits_of (level s) i (thread_at s i) s) (xs ++ steps_of i (limit_log_of (level s) i (thread_at s i) s))
            → j ≡ i → Seen G i (limits_of (level s) j (thread_at s j) s) (xs ++ steps_of i (limit_log_of (level s) j (thread_at s j) s))
        here h d = subst⁻¹ (λ (k : ℕ). Seen G i (limits_of (level s) k (thread_at s k) s) (xs ++ steps_of i (limit_log_of (level s) k (thread_at s k) s))) d h

        mine-too : j ≡ i → (b : Bool) → (eqb (level s) (thread_at s i).parameters.priority && eqb (thread_at s i).server.capacity 0) ≡ b
            → Seen G i (cond b (with_effect i (limit_effect s.now false (thread_at s i).parameters (thread_at s i).server) s) s)
            (xs ++ steps_of i (cond b (happens i limit_step ∷ ruled i (limit_effect s.now false (thread_at s i).parameters (thread_at s i).server) s ∷ []) []))
        mine-too d true e =
            subst⁻¹ (λ (ys : List Step). Seen G i (with_effect i (limited i) s) (xs ++ ys))
            (mine-step i limit_step (ruled i (limited i) s ∷ []) ∙ ap (λ (ys : List Step). limit_step ∷ ys) (mine-step i (effect s.now (thread_at s i).parameters.period (limited i)) []))
            (own-limit (eqb-true (thread_at s i).server.capacity 0 (and_right (eqb (level s) (thread_at s i).parameters.priority) (eqb (thread_at s i).server.capacity 0) e)) (f d e))
        mine-too d false e = none_more G i s xs q

        go : Dec (j ≡ i) → Seen G i (limits_of (level s) j (thread_at s j) s) (xs ++ steps_of i (limit_log_of (level s) j (thread_at s j) s))
        go (yes d) =
            here
            (subst⁻¹ (λ (u : State). Seen G i u (xs ++ steps_of i (limit_log_of (level s) i (thread_at s i) s))) (by_two {A = State} (thread_at s i).parameters.policy _ _ _ q.0)
            (subst⁻¹ (λ (ys : Log). Seen G i (cond (eqb (level s) (thread_at s i).parameters.priority && eqb (thread_at s i).server.capacity 0) (with_effect i (limited i) s) s) (xs ++ steps_of i ys))
            (by_two {A = Log} (thread_at s i).parameters.policy _ _ _ q.0)
            (mine-too d (eqb (level s) (thread_at s i).parameters.priority && eqb (thread_at s i).server.capacity 0) refl)))
            d
        go (no d) = others (thread_at s j).parameters.policy refl (eqb (thread_at s j).left 0) (eqb (level s) (thread_at s j).parameters.priority && eqb (thread_at s j).server.capacity 0) refl
          where
            quiet : Seen G i s (xs ++ [])
            quiet = none_more G i s xs q

            ended : Seen G i (quantum_ended (level s) j (thread_at s j) s) (xs ++ steps_of i (happens j quantum_step ∷ []))
            ended =
                subst⁻¹ (λ (ys : List Step). Seen G i (quantum_ended (level s) j (thread_at s j) s) (xs ++ ys)) (their-step i j quantum_step [] d)
                (none_more G i (quantum_ended (level s) j (thread_at s j) s) xs
                (subst⁻¹ (λ (u : State). Seen G i (with_lists (moved j (level s) (level s) s.lists) u) xs) (thread-account j (with_left (thread_at s j).parameters.budget (thread_at s j)) s)
                (theirs G i j lj s z (with_left (thread_at s j).parameters.budget (thread_at s j)) (account_at s j) (rows_at s z j lj) (moved j (level s) (level s) s.lists) xs d q)))

            reached : get_or s.counts j 0 < 8 → Seen G i (with_effect j (limit_effect s.now false (thread_at s j).parameters (thread_at s j).server) s)
                (xs ++ steps_of i (happens j limit_step ∷ ruled j (limit_effect s.now false (thread_at s j).parameters (thread_at s j).server) s ∷ []))
            reached c =
                subst⁻¹ (λ (ys : List Step). Seen G i (with_effect j (limited j) s) (xs ++ ys))
                (their-step i j limit_step (ruled j (limited j) s ∷ []) d ∙ their-step i j (effect s.now (thread_at s j).parameters.period (limited j)) [] d)
                (none_more G i (with_effect j (limited j) s) xs (other-effect G i j lj s z (limited j) (spent-room j c) xs d q))

            others : (c : ℕ) → (thread_at s j).parameters.policy ≡ c → (a b : Bool) → (eqb (level s) (thread_at s j).parameters.priority && eqb (thread_at s j).server.capacity 0) ≡ b
                → Seen G i (by_policy c s (cond a (quantum_ended (level s) j (thread_at s j) s) s) (cond b (with_effect j (limit_effect s.now false (thread_at s j).parameters (thread_at s j).server) s) s))
                (xs ++ steps_of i (by_policy c [] (cond a (happens j quantum_step ∷ []) [])
                (cond b (happens j limit_step ∷ ruled j (limit_effect s.now false (thread_at s j).parameters (thread_at s j).server) s ∷ []) [])))
            others zero y a b e = quiet
            others (suc zero) y true b e = ended
            others (suc zero) y false b e = quiet
            others (suc (suc c)) y a true e = reached (r (omega (arith, y)) e)
            others (suc (suc c)) y a false e = quiet

    pub limits-seen : (idles s ≡ false → head s < 32)
        → (idles s ≡ false → 1 < (thread_at s (head s)).parameters.policy → (eqb (level s) (thread_at s (head s)).parameters.priority && eqb (thread_at s (head s)).server.capacity 0) ≡ true
        → get_or s.counts (head s) 0 < 8)
        → (idles s ≡ false → head s ≡ i → (eqb (level s) (thread_at s i).parameters.priority && eqb (thread_at s i).server.capacity 0) ≡ true → Spent i lo s)
        → Seen G i (limits s) (xs ++ steps_of i (limit_log s))
    unfolding limits limit_log
    limits-seen small r f = go (idles s) refl
      where
        go : (b : Bool) → idles s ≡ b
            → Seen G i (cond b s (limits_of (level s) (head s) (thread_at s (head s)) s)) (xs ++ steps_of i (cond b [] (limit_log_of (level s) (head s) (thread_at s (head s)) s)))
        go true e = none_more G i s xs q
        go false e = at-thread (head s) (small e) (r e) (f e)

  -- ---- ticks

  module _ (i k : ℕ) (s : State) (z : All (size_tests s)) (l : i < 32) (xs : List Step) (q : Seen G i s xs) where
    -- it runs at its upper priority, within its capacity
    abbrev pub Runnable : Type 0
    Runnable =
        (is_blocked (thread_at s i) ≡ false) × (is_upper (thread_at s i).parameters (account_at s i) ≡ true)
        × AccountSound s.header.start s.now s.now true (thread_at s i).parameters (account_at s i) × (k ≤ (thread_at s i).server.capacity)

    waits : G (s.now + k) (is_blocked (thread_at s i)) (thread_at s i).parameters (account_at s i) xs
    waits = L.passes s.now k (is_blocked (thread_at s i)) (thread_at s i).parameters (account_at s i) xs q.1

    own-ticks : (p : ℕ) → (eqb p (thread_at s i).parameters.priority ≡ true → Runnable)
        → SeenOf G (s.now + k) (ran p k (thread_at s i)) (pending_at s i) (xs ++ steps_of i (ran_log k p i (thread_at s i)))
    own-ticks p f = (
      q.0,
      subst⁻¹ (λ (ys : Log). G (s.now + k) (is_blocked (thread_at s i)) (thread_at s i).parameters (made (ran p k (thread_at s i)).server (pending_at s i)) (xs ++ steps_of i ys))
          (by_two {A = Log} (thread_at s i).parameters.policy [] [] _ q.0) (go (eqb p (thread_at s i).parameters.priority) refl),
    )
      where
        upper : Runnable → G (s.now + k) (is_blocked (thread_at s i)) (thread_at s i).parameters (made (charged k (thread_at s i).server) (pending_at s i)) (xs ++ ran_step k (thread_at s i).server.activation ∷ [])
        upper y =
            subst⁻¹ (λ (b : Bool). G (s.now + k) b (thread_at s i).parameters (made (charged k (thread_at s i).server) (pending_at s i)) (xs ++ ran_step k (thread_at s i).server.activation ∷ [])) y.0
            (L.charges s.header.start s.now s.now k (thread_at s i).parameters (account_at s i) xs
            (subst (λ (b : Bool). G s.now b (thread_at s i).parameters (account_at s i) xs) y.0 q.1) y.2 y.1 y.3)

        go : (u : Bool) → eqb p (thread_at s i).parameters.priority ≡ u
            → G (s.now + k) (is_blocked (thread_at s i)) (thread_at s i).parameters (made (ran p k (thread_at s i)).server (pending_at s i))
            (xs ++ steps_of i (cond (eqb p (thread_at s i).parameters.priority) (happens i (ran_step k (thread_at s i).server.activation) ∷ []) []))
        go true u = rw (ran-upper p k (thread_at s i) q.0 u, u, eq-eqb i i refl) (upper (f u))
        go false u = rw (ran-low p k (thread_at s i) q.0 u, u, append-nil xs) waits

    pub charge-seen : (idles s ≡ false → head s ≡ i → eqb (level s) (thread_at s i).parameters.priority ≡ true → Runnable)
        → Seen G i (charge k s) (xs ++ steps_of i (charge_log k s))
    charge-seen f = go (idles s) refl (ℕ_discrete (head s) i)
      where
        theirs-none : (head s ≡ i → ⊥) → steps_of i (ran_log k (level s) (head s) (thread_at s (head s))) ≡ []
        theirs-none d =
            policy-elim (λ (ys : Log). steps_of i ys ≡ []) (thread_at s (head s)).parameters.policy _ _ _ (λ c. refl) (λ c. refl)
            (λ c. cond-elim (λ (ys : Log). steps_of i ys ≡ []) (eqb (level s) (thread_at s (head s)).parameters.priority) _ _ (λ e. their-step i (head s) _ [] d) (λ e. refl))

        go : (b : Bool) → idles s ≡ b → Dec (head s ≡ i) → Seen G i (charge k s) (xs ++ steps_of i (charge_log k s))
        go true e d = rw (e, append-nil xs) (q.0, waits)
        go false e (no d) =
            rw (e, theirs-none d, append-nil xs, get_or-set_other s.threads (head s) i (ran (level s) k (thread_at s (head s))) no_thread (λ q. d (sym q))) (q.0, waits)
        go false e (yes d) = rw (e, d, get_or-set_same s.threads i (ran (level s) k (thread_at s i)) no_thread (omega (tests, z))) (own-ticks (level s) (f e d))

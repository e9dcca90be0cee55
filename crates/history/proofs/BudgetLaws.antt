-- Where a history begins, and the budget seen from it (02 E6).
use Prim.Native.Nat.{ℕ, zero, suc, ◌-◌, ◌≤◌, ◌<◌}
use mathlib.Core.Bool.{Bool, true, false, cond, ◌&&◌}
use mathlib.Core.Path.{◌≡◌, refl, sym, ap, ◌∙◌, subst, subst⁻¹}
use mathlib.Core.List.{List, [], map}
use lib.ListN.{get_or, set, get_or-map}
use lib.Seq.{map-set_same}
use lib.Dec.{ltb, leb, eqb}
use native.Mathlib.Omega.{arith}
use native.Mathlib.Decide.{ℕ_discrete}
use borrow.Author.Tests.{eq-eqb, ne_eqb, lt-ltb, leb-true, ltb-false, not-false}
use Rattle.base.proofs.RefusalLaws.{passed as not_refused}
use Rattle.base.proofs.TestLaws.{tests, All, cond-elim, cond-false, below_at}
use Rattle.records.specs.declared.Parameters.{Parameters}
use Rattle.records.specs.declared.Header.{Header}
use Rattle.records.specs.declared.Event.{Event}
use Rattle.records.specs.Ranges.{no_parameters, in_range}
use Rattle.records.proofs.PolicyLaws.{by_zero, by_one, by_two, policy-elim}
use Rattle.account.specs.declared.Account.{Account}
use Rattle.account.specs.Account.{fresh_account, no_account, new_account}
use Rattle.account.specs.Carry.{set_account}
use Rattle.ready.specs.Lists.{appended}
use Rattle.passing.specs.Sequence.{status, accepted, answer, end}
use Rattle.passing.proofs.TimeLaws.{keeps, sound-advance}
use Rattle.passing.proofs.SequenceLaws.{acceptable, answer-accepted}
use Rattle.ledger.proofs.AgreeLaws.{Agrees, Agreed, agree-rules, agree-carried, fresh-agrees}
use Rattle.thread.specs.declared.Thread.{Thread}
use Rattle.thread.specs.Thread.{is_blocked, no_thread, with_server, with_blocked, renewed}
use Rattle.state.specs.declared.State.{State}
use Rattle.state.specs.State.{thread_at, pending_at, account_at}
use Rattle.ticks.specs.Running.{level, head, idles, ran, charge}
use Rattle.state.specs.Sound.{sound_state}
use Rattle.state.proofs.SoundLaws.{size_tests, state-out}
use Rattle.moments.specs.Moments.{clock, passed}
use Rattle.moments.proofs.FireLaws.{keeps-fire}
use Rattle.moments.proofs.MomentLaws.{passing}
use Rattle.events.specs.Events.{change_of, shifted, with_change, concerned, event_change, happened}
use Rattle.events.specs.Answers.{executive}
use Rattle.events.specs.Opening.{empty_state, no_state, without_flag, entered, entered_below, open_status, opening}
use Rattle.events.proofs.EventLaws.{and_both, change-right}
use Rattle.events.proofs.OpeningLaws.{below-entered, header-entered, opening-sound}
use Rattle.events.proofs.DemandLaws.{field-passed, accepted-sound}
use Rattle.history.specs.History.{carries, Begins, BudgetFromHistory}
use Rattle.history.specs.History.Begins.{opened, set as after_set}
use Rattle.history.proofs.SeenLaws.{Rows, SeenOf, Seen, mine, theirs, own}
use Rattle.history.proofs.EventLaws.{carried-seen}

-- ---- time leaves the parameters as they are

abbrev all_parameters : State → List Parameters
all_parameters s = map (λ (t : Thread). t.parameters) s.threads

-- another thread with the same parameters
same-parameters : (i : ℕ) (t : Thread) (s : State) → t.parameters ≡ (thread_at s i).parameters → map (λ (t : Thread). t.parameters) (set s.threads i t) ≡ all_parameters s
same-parameters i t s e = map-set_same (λ (t : Thread). t.parameters) s.threads i t no_thread e

charge-parameters : (k : ℕ) (s : State) → all_parameters (charge k s) ≡ all_parameters s
charge-parameters k s =
    cond-elim (λ (ts : List Thread). map (λ (t : Thread). t.parameters) ts ≡ all_parameters s) (idles s) _ _ (λ e. refl)
    (λ e. same-parameters (head s) (ran (level s) k (thread_at s (head s))) s refl)

parameters-passed : (s : State) (t i : ℕ) → (thread_at (passed s t) i).parameters ≡ (thread_at s i).parameters
parameters-passed s t i =
    sym (get_or-map (λ (t : Thread). t.parameters) (passed s t).threads i no_thread)
    ∙ ap (λ (ps : List Parameters). get_or ps i no_parameters)
    (keeps clock all_parameters charge-parameters (keeps-fire all_parameters (λ i e u. same-parameters i _ u refl) (λ p i u. same-parameters i _ u refl)) s t)
    ∙ get_or-map (λ (t : Thread). t.parameters) s.threads i no_thread

-- ---- after a set that doesn't carry over

-- of a thread that isn't sporadic: its account is made anew
set-anew : (now : ℕ) (b : Bool) (old p : Parameters) (a : Account) → old.policy ≤ 1 → set_account now b old p a ≡ new_account now p
set-anew now b old p a l = go old.policy refl
  where
    go : (c : ℕ) → old.policy ≡ c → set_account now b old p a ≡ new_account now p
    go zero e = by_zero {A = Account} old.policy _ _ _ e
    go (suc zero) e = by_one {A = Account} old.policy _ _ _ e
    go (suc (suc c)) e = absurd (omega (arith, l, e))

fresh-seen : (now : ℕ) (p : Parameters) (t : Thread) → p.policy ≡ 2 → SeenOf Agreed now (with_server (new_account now p).server (renewed p t)) (new_account now p).pending []
fresh-seen now p t z = (z, subst⁻¹ (λ (a : Account). Agrees p a []) (by_two {A = Account} p.policy no_account no_account (fresh_account now p) z) (fresh-agrees now p))

and-left-false : (b : Bool) → (b && true) ≡ false → b ≡ false
and-left-false true e = e
and-left-false false e = e

module _ (i : ℕ) (e : Event) (k : e.kind ≡ 4) (d : e.thread ≡ i) (c : e.parameters.policy ≡ 2) where
  -- a set concerns the thread that it names
  names : (s : State) → concerned s e ≡ e.thread
  names s = ap (λ (x : ℕ). cond (leb x 2) (head s) e.thread) k

  -- the thread that it finds isn't sporadic
  wasn't : (u : State) → carries u e ≡ false → (thread_at u e.thread).parameters.policy ≤ 1
  wasn't u w =
      let p = (thread_at u e.thread).parameters.policy in
      let x : (ltb 1 p && true) ≡ false = rw (eq-eqb e.kind 4 k, lt-ltb 1 e.parameters.policy (omega (arith, c))) at w in
      ltb-false 1 p (and-left-false (ltb 1 p) x)

  set-fresh : (s : State) → (thread_at s (concerned s e)).parameters.policy ≤ 1
      → SeenOf Agreed s.now (with_server (event_change s e).account.server (event_change s e).thread) (event_change s e).account.pending []
  unfolding change_of
  set-fresh s l =
      let j = concerned s e in
      subst⁻¹ (λ (x : ℕ). SeenOf Agreed s.now
      (with_server (change_of x s.now e.parameters (thread_at s (concerned s e)) (account_at s (concerned s e))).account.server
      (change_of x s.now e.parameters (thread_at s (concerned s e)) (account_at s (concerned s e))).thread)
      (change_of x s.now e.parameters (thread_at s (concerned s e)) (account_at s (concerned s e))).account.pending []) k
      (subst⁻¹ (λ (b : Account). SeenOf Agreed s.now (with_server b.server (renewed e.parameters (thread_at s j))) b.pending [])
      (set-anew s.now (is_blocked (thread_at s j)) (thread_at s j).parameters e.parameters (account_at s j) l)
      (fresh-seen s.now e.parameters (thread_at s j) c))

  set-begins : (u : State) → status executive u e ≡ 0 → carries u e ≡ false → (i < 32) × Seen Agreed i (answer executive u e).state []
  unfolding happened
  set-begins u z w =
      let a = acceptable executive u e z in
      let v = passed u e.time in
      let h = state-out v (sound-advance clock passing u e.time a.sound a.after a.in_range) in
      let r = change-right v h e (field-passed u e ∙ a.fields) a.state (omega arith) in
      let x = event_change v e in
      let l : (thread_at v (concerned v e)).parameters.policy ≤ 1 = rw (names v, parameters-passed u e.time e.thread) (wasn't u w) in (
        omega (arith, r.small, names v),
        rw (answer-accepted executive u e z)
            (subst⁻¹ (λ (w : State). Seen Agreed i w []) (cond-false (eqb e.kind 0) v (with_change (concerned v e) x v) (ne_eqb e.kind 0 (λ y. omega arith)))
            (mine Agreed i (concerned v e) r.small v h.sizes x.thread x.account (r.fits.dues, r.fits.amounts) (shifted (concerned v e) x.from x.to v.lists) []
            (names v ∙ d) (set-fresh v l))),
      )

-- ---- after an opening

rows_new : (now : ℕ) (p : Parameters) → Rows (new_account now p).pending
rows_new now p = policy-elim (λ (a : Account). Rows a.pending) p.policy _ _ _ (λ e. (refl, refl)) (λ e. (refl, refl)) (λ e. (refl, refl))

-- what an accepted opening was given
record Accepted (header : Header) (table : List Parameters) : Type 0 where
  some : 1 ≤ header.n
  most : header.n ≤ 32
  start : header.start ≤ 1000000000000000
  ranges : (i : ℕ) → i < header.n → in_range 8 (get_or table i no_parameters) ≡ true

accepted-opening : (header : Header) (table : List Parameters) → open_status header table ≡ 0 → Accepted header table
unfolding open_status
accepted-opening header table z =
    let n = header.n in
    let a = not_refused _ 4 _ z in
    let b = not_refused _ 2 _ a.1 in
    let c = not_refused _ 5 _ b.1 in
    let r = and_both (leb 1 n) (leb n 32) (not-false _ a.0) in
    record {
      some = leb-true 1 n r.0;
      most = leb-true n 32 r.1;
      start = ltb-false 1000000000000000 header.start b.0;
      ranges = λ i m. (and_both (in_range 8 (get_or table i no_parameters)) (leb (get_or table i no_parameters).flag 1)
          (below_at n (λ i. in_range 8 (get_or table i no_parameters) && leb (get_or table i no_parameters).flag 1) (not-false _ c.0) i m)).0;
    }

module _ (header : Header) (table : List Parameters) (o : Accepted header table) where
  abbrev state : ℕ → State
  state k = entered_below k table (empty_state header)

  sizes : (k : ℕ) → k ≤ header.n → All (size_tests (state k))
  sizes k l =
      let h = below-entered header o.start table k (omega (arith, o.most)) (λ i m. o.ranges i (omega arith)) in
      let n = ap (λ (x : Header). x.n) (header-entered table k (empty_state header)) in
      omega (tests, h.sizes, n, o.some, o.most)

  entered-seen : (i k : ℕ) → i < k → k ≤ header.n → (get_or table i no_parameters).policy ≡ 2 → Seen Agreed i (state k) []
  unfolding entered_below
  entered-seen i zero m l c = absurd (omega arith)
  entered-seen i (suc k) m l c = go (ℕ_discrete k i) (λ d. entered-seen i k (omega (arith, d)) (omega arith) c)
    where
      go : Dec (k ≡ i) → ((k ≡ i → ⊥) → Seen Agreed i (entered_below k table (empty_state header)) [])
          → Seen Agreed i (entered k (get_or table k no_parameters) (entered_below k table (empty_state header))) []
      go (yes d) r =
          let s = entered_below k table (empty_state header) in
          let p = get_or table k no_parameters in
          mine Agreed i k (omega (arith, o.most)) s (sizes k (omega arith)) (renewed (without_flag p) (with_blocked (cond (eqb p.flag 0) 1 0) (thread_at s k)))
          (new_account s.now (without_flag p)) (rows_new s.now (without_flag p)) (cond (eqb p.flag 0) s.lists (appended p.priority k s.lists)) [] d
          (fresh-seen s.now (without_flag p) (with_blocked (cond (eqb p.flag 0) 1 0) (thread_at s k)) (ap (λ (j : ℕ). (get_or table j no_parameters).policy) d ∙ c))
      go (no d) r =
          let s = entered_below k table (empty_state header) in
          let p = get_or table k no_parameters in
          theirs Agreed i k (omega (arith, o.most)) s (sizes k (omega arith)) (renewed (without_flag p) (with_blocked (cond (eqb p.flag 0) 1 0) (thread_at s k)))
          (new_account s.now (without_flag p)) (rows_new s.now (without_flag p)) (cond (eqb p.flag 0) s.lists (appended p.priority k s.lists)) [] d (r d)

module _ (header : Header) (table : List Parameters) where
  open-status : (opening header table).status ≡ 0 → open_status header table ≡ 0
  unfolding opening
  open-status z = go (ℕ_discrete (open_status header table) 0) z
    where
      go : Dec (open_status header table ≡ 0)
          → (cond (eqb (open_status header table) 0) (accepted executive (entered_below header.n table (empty_state header)))
          (record { status = open_status header table; running = 255; next = 0; state = no_state })).status ≡ 0
          → open_status header table ≡ 0
      go (yes e) f = e
      go (no e) f = absurd (e (rw (ne_eqb (open_status header table) 0 e) at f))

  opened-state : open_status header table ≡ 0 → (opening header table).state ≡ entered_below header.n table (empty_state header)
  unfolding opening
  opened-state z = rw z

begins : (i : ℕ) (s : State) → Begins i s → (i < 32) × Seen Agreed i s [] × (sound_state s ≡ true)
begins i s (after_set u e z f k d c w) = let r = set-begins i e k d c u z w in rw (← f) (r.0, r.1, accepted-sound u e z)
begins i s (opened header table z f m c) =
    let y = open-status header table z in
    let o = accepted-opening header table y in
    rw (← f) (
      omega (arith, o.most),
      subst⁻¹ (λ (u : State). Seen Agreed i u []) (opened-state header table y) (entered-seen header table o i header.n m (omega arith) c),
      opening-sound header table z,
    )

-- ---- the budget

-- 02 E6, E7 8
pub budget-from-history : BudgetFromHistory
budget-from-history i s es b n =
    let r = begins i s b in
    let q = carried-seen Agreed agree-rules i r.0 agree-carried es s [] r.2 r.1 n in
    let u = end executive s es in
    let h = state-out u q.1 in
    let o = own u.header.start u.now u.now (ltb i u.header.n) (thread_at u i) (pending_at u i) (h.each i r.0) q.0.0 in
    record { ran = omega (tests, q.0.1.flow, o.account.sums.0); late = q.0.1.matches.late }

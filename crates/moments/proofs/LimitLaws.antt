-- The limit and the end of a quantum, at their instant.
use Prim.Native.Nat.{ℕ, ◌+◌, ◌-◌, ◌≤◌, ◌<◌}
use mathlib.Core.Bool.{Bool, true, false, cond, ◌&&◌}
use mathlib.Core.Path.{◌≡◌, refl, sym, ap, ◌∙◌, subst, subst⁻¹}
use mathlib.Core.List.{List}
use lib.ListN.{length, get_or, set, length-set}
use lib.Seq.{get_or-set_same, get_or-set_other, set-set}
use lib.Dec.{ltb, eqb}
use native.Mathlib.Omega.{arith}
use native.Mathlib.Decide.{ℕ_discrete}
use borrow.Author.Tests.{eqb-true, eq-eqb, ne_eqb}
use Rattle.records.specs.declared.Parameters.{Parameters}
use Rattle.records.specs.Ranges.{by_policy}
use Rattle.base.proofs.TestLaws.{tests, All, cond-true, cond-false}
use Rattle.sporadic.specs.declared.Server.{Server}
use Rattle.account.specs.declared.Pending.{Pending}
use Rattle.account.specs.declared.Account.{Account}
use Rattle.sporadic.specs.declared.Effect.{Effect}
use Rattle.sporadic.specs.declared.Place.{Place}
use Rattle.sporadic.specs.declared.Place.TheVariants.{Low, LowThenUpper}
use Rattle.account.specs.Account.{is_upper}
use Rattle.account.specs.Rules.{applied}
use Rattle.sporadic.specs.Rules.{charged, limit_effect}
use Rattle.account.specs.Sound.{runs_upper}
use Rattle.account_laws.proofs.SoundLaws.{AccountSound, charge-sound, upper-room, Sent, limit-sent}
use Rattle.ready.specs.Lists.{moved}
use Rattle.ready.specs.Word.{occupancy}
use Rattle.ready.proofs.Soundness.{ListsSound}
use Rattle.ready.proofs.SoundLaws.{with_place, sound-same, move-sound}
use Rattle.thread.specs.declared.Thread.{Thread}
use Rattle.state.specs.declared.State.{State}
use Rattle.rows.specs.Rows.{slots_at}
use Rattle.state.specs.State.{thread_at, pending_at, account_at, place}
use Rattle.thread.specs.Thread.{is_blocked, no_server, no_thread, assigned, place_of, with_left, with_server}
use Rattle.rows.proofs.RowLaws.{row-length}
use Rattle.state.proofs.SoundLaws.{no_pending, ThreadSound, SoundFrom, size_tests, RrTests, SporadicTests}
use Rattle.state.proofs.SoundLaws.ThreadSound.{absent, fifo, rr, sporadic}
use Rattle.ticks.specs.Running.{level, head, idles, ran, charge}
use Rattle.records.proofs.PolicyLaws.{by_zero, by_one, by_two}
use Rattle.moments.specs.Changes.{sent_to, with_effect}
use Rattle.moments.specs.Moments.{limits_of, limits}
use Rattle.moments.proofs.ChangeLaws.{with_bound, totals-set, changed-at, thread-account}
use Rattle.moments.proofs.ChargeLaws.{Runs, runs, upper-at, ran-upper, first-bound, wait-thread}
use Rattle.state.specs.Updates.{with_lists, with_account, state_of}

-- ---- nothing happens where nothing is used up

and_yes : (a b : Bool) → a ≡ true → b ≡ true → (a && b) ≡ true
and_yes true b p q = q
and_yes false b p q = p

and_no : (a b : Bool) → (a ≡ true → b ≡ false) → (a && b) ≡ false
and_no true b f = f refl
and_no false b f = refl

low-lt : (p : Parameters) (blocked : ℕ) → All (SporadicTests p blocked) → p.low < p.priority
low-lt p blocked g = omega (tests, g)

no-limit : (list : ℕ) (t : Thread) (q : Pending) → t.parameters.policy ≡ 2 → All (SporadicTests t.parameters t.blocked) → assigned t q.count ≡ list
    → (eqb list t.parameters.priority && eqb t.server.capacity 0) ≡ false
no-limit list t q z g a =
    and_no (eqb list t.parameters.priority) (eqb t.server.capacity 0)
    (λ e. ne_eqb t.server.capacity 0 (λ c.
    omega (arith, (upper-room t.parameters (record { server = t.server; pending = q }) (upper-at list t q z (low-lt t.parameters t.blocked g) a e)).0)))

-- what is chosen at a moment for the running thread t in its list: x where nothing happens to it, y at the end of its quantum, z at its limit
abbrev pub chosen_for : {A : Type 0} → A → A → A → ℕ → Thread → A
chosen_for x y z list t = by_policy t.parameters.policy x (cond (eqb t.left 0) y x) (cond (eqb list t.parameters.priority && eqb t.server.capacity 0) z x)

abbrev pub chosen : {A : Type 0} → A → A → A → State → A
chosen x y z s = cond (idles s) x (chosen_for x y z (level s) (thread_at s (head s)))

module _ {A : Type 0} (x y z : A) where
  -- a sound thread in the list of its assigned priority is at no limit
  thread-none : (start now lo list : ℕ) (b : Bool) (t : Thread) (q : Pending) → ThreadSound start now lo b t q → assigned t q.count ≡ list → chosen_for x y z list t ≡ x
  thread-none start now lo list b t q (absent n e f) a = by_zero t.parameters.policy _ _ _ (ap (λ (x : Thread). x.parameters.policy) e)
  thread-none start now lo list b t q (fifo n c g l v f) a = by_zero t.parameters.policy _ _ _ c
  thread-none start now lo list b t q (rr n c g l v f) a =
      by_one t.parameters.policy _ _ _ c ∙ cond-false (eqb t.left 0) _ _ (ne_eqb t.left 0 (λ e. omega (tests, l)))
  thread-none start now lo list b t q (sporadic n c g l v) a =
      by_two t.parameters.policy _ _ _ c ∙ cond-false (eqb list t.parameters.priority && eqb t.server.capacity 0) _ _ (no-limit list t q c g a)

  -- so in a sound state
  pub chosen_none : (lo : ℕ → ℕ) (s : State) → SoundFrom lo s → chosen x y z s ≡ x
  chosen_none lo s h = go (idles s) refl
    where
      go : (b : Bool) → idles s ≡ b → cond b x (chosen_for x y z (level s) (thread_at s (head s))) ≡ x
      go true e = refl
      go false e =
          let r = runs lo s h e in
          thread-none s.header.start s.now (lo (head s)) (level s) (ltb (head s) s.header.n) (thread_at s (head s)) (pending_at s (head s))
          (h.each (head s) r.small) r.stands

-- nothing happens there
pub limits-none : (lo : ℕ → ℕ) (s : State) → SoundFrom lo s → limits s ≡ s
unfolding limits
limits-none lo s h = chosen_none s _ _ lo s h

-- ---- the running thread after its last tick

-- the state after k ticks of a running thread
abbrev pub ran_state : ℕ → State → State
ran_state k s =
    state_of s.header (s.now + k) s.idle s.word (set s.threads (head s) (ran (level s) k (thread_at s (head s)))) s.counts s.dues s.amounts s.lists

pub charge-runs : (k : ℕ) (s : State) → idles s ≡ false → charge k s ≡ ran_state k s
charge-runs k s e =
    λ x. state_of s.header (s.now + k) (i x) s.word (t x) s.counts s.dues s.amounts s.lists
  where
    i : s.idle + cond (idles s) k 0 ≡ s.idle
    i = rw e (omega arith)

    t : cond (idles s) s.threads (set s.threads (head s) (ran (level s) k (thread_at s (head s)))) ≡ set s.threads (head s) (ran (level s) k (thread_at s (head s)))
    t = cond-false (idles s) _ _ e

-- what is left of soundness when the running thread has used up what it runs on: everything but that thread
module _ (lo lo' : ℕ → ℕ) (k : ℕ) (s : State) (h : SoundFrom lo s) (e : idles s ≡ false)
    (d : (i : ℕ) → i < 32 → 0 < get_or s.counts i 0 → lo' i < get_or (slots_at i s.dues) 0 0) (top : s.now + k ≤ 1000000000000000) where
  run : Runs s
  run = runs lo s h e

  sizes : All (size_tests (ran_state k s))
  sizes = rw (length-set s.threads (head s) (ran (level s) k (thread_at s (head s)))) (omega (tests, h.sizes))

  there : thread_at (ran_state k s) (head s) ≡ ran (level s) k (thread_at s (head s))
  there = get_or-set_same s.threads (head s) (ran (level s) k (thread_at s (head s))) no_thread (omega (tests, h.sizes, run.small))

  others : (j : ℕ) → j < 32 → (j ≡ head s → ⊥)
      → ThreadSound s.header.start (s.now + k) (lo' j) (ltb j s.header.n) (thread_at (ran_state k s) j) (pending_at s j)
  others j m c =
      rw (get_or-set_other s.threads (head s) j (ran (level s) k (thread_at s (head s))) no_thread c)
      (wait-thread s.header.start s.now (s.now + k) (lo j) (lo' j) (ltb j s.header.n) (thread_at s j) (pending_at s j) (h.each j m) (omega arith) (d j m))

  -- the lists for a new place of the running thread
  relisted : (list : ℕ) (l' : List ℕ) → ListsSound (with_place (place s) (head s) list) (occupancy l') l'
      → ListsSound (with_place (place (ran_state k s)) (head s) list) (occupancy l') l'
  relisted list l' q = sound-same (with_place (place s) (head s) list) (with_place (place (ran_state k s)) (head s) list) (occupancy l') l' (λ j m. go j (ℕ_discrete j (head s))) q
    where
      go : (j : ℕ) → Dec (j ≡ head s) → with_place (place (ran_state k s)) (head s) list j ≡ with_place (place s) (head s) list j
      go j (yes c) = rw (eq-eqb j (head s) c)
      go j (no c) =
          rw (ne_eqb j (head s) c)
          (ap (λ (x : Thread). place_of x (get_or s.counts j 0)) (get_or-set_other s.threads (head s) j (ran (level s) k (thread_at s (head s))) no_thread c))

  -- a sound thread and account in its place make the state sound
  again : (t : Thread) (a : Account) (x : ℕ) → length a.pending.dues ≡ 8 → length a.pending.amounts ≡ 8
      → ThreadSound s.header.start (s.now + k) x (ltb (head s) s.header.n) (with_server a.server t) a.pending
      → t.total ≡ (thread_at s (head s)).total + k
      → (l' : List ℕ) → ListsSound (with_place (place s) (head s) (place_of (with_server a.server t) a.pending.count)) (occupancy l') l'
      → SoundFrom (with_bound lo' (head s) x) (with_lists l' (with_account (head s) t a (ran_state k s)))
  again t a x m n ok g l' q =
      changed-at lo' (ran_state k s) sizes (head s) run.small t a x m n ok others
      (rw (set-set s.threads (head s) (ran (level s) k (thread_at s (head s))) (with_server a.server t))
      (omega (arith, h.timed, g, totals-set s.threads (head s) (with_server a.server t) (omega (tests, h.sizes, run.small)))))
      l' (relisted _ l' q)

  standing : place s (head s) ≡ level s
  standing = cond-false (is_blocked (thread_at s (head s))) 0 _ run.awake ∙ run.stands

  limits-ran : limits (ran_state k s) ≡ limits_of (level s) (head s) (ran (level s) k (thread_at s (head s))) (ran_state k s)
  unfolding limits
  limits-ran = cond-false (idles s) _ _ e ∙ ap (λ (t : Thread). limits_of (level s) (head s) t (ran_state k s)) there

  -- the end of a quantum
  module _ (n : ltb (head s) s.header.n ≡ true) (z : (thread_at s (head s)).parameters.policy ≡ 1) (g : All (RrTests (thread_at s (head s)).parameters (thread_at s (head s)).blocked))
      (v : (thread_at s (head s)).server ≡ no_server) (f : pending_at s (head s) ≡ no_pending) (c : (thread_at s (head s)).left ≡ k) where
    t' : Thread
    t' = ran (level s) k (thread_at s (head s))

    pub quantum-sound : SoundFrom (with_bound lo' (head s) (lo' (head s))) (limits (ran_state k s))
    unfolding t'
    quantum-sound =
        subst⁻¹ (SoundFrom (with_bound lo' (head s) (lo' (head s)))) is
        (again (with_left t'.parameters.budget t') (record { server = t'.server; pending = pending_at s (head s) }) (lo' (head s))
        (row-length (head s) s.dues run.small (omega (tests, h.sizes))) (row-length (head s) s.amounts run.small (omega (tests, h.sizes)))
        (rr n z g (omega (tests, g)) (by_one t'.parameters.policy _ _ _ z ∙ v) f) refl (moved (head s) (level s) (level s) s.lists)
        (subst⁻¹ (λ (list : ℕ). ListsSound (with_place (place s) (head s) list) (occupancy (moved (head s) (level s) (level s) s.lists)) (moved (head s) (level s) (level s) s.lists)) here
        (move-sound (place s) s.word s.lists h.lists (head s) run.small (level s) (level s) run.range.0 run.range.1 standing run.range.0 run.range.1)))
      where
        is : limits (ran_state k s)
            ≡ with_lists (moved (head s) (level s) (level s) s.lists)
            (with_account (head s) (with_left t'.parameters.budget t') (record { server = t'.server; pending = pending_at s (head s) }) (ran_state k s))
        is =
            limits-ran
            ∙ by_one t'.parameters.policy _ _ _ z
            ∙ cond-true (eqb t'.left 0) _ _ (eq-eqb t'.left 0 (by_one t'.parameters.policy _ _ _ z ∙ omega arith))
            ∙ ap (with_lists (moved (head s) (level s) (level s) s.lists)) (thread-account (head s) (with_left t'.parameters.budget t') (ran_state k s))

        -- an RR thread's list is that of its priority
        here : place_of (with_server t'.server (with_left t'.parameters.budget t')) (pending_at s (head s)).count ≡ level s
        here =
            cond-false (is_blocked (thread_at s (head s))) 0 _ run.awake
            ∙ by_one t'.parameters.policy _ _ _ z
            ∙ sym (by_one (thread_at s (head s)).parameters.policy _ _ _ z)
            ∙ run.stands

  -- the limit of a sporadic thread
  module _ (n : ltb (head s) s.header.n ≡ true) (z : (thread_at s (head s)).parameters.policy ≡ 2) (g : All (SporadicTests (thread_at s (head s)).parameters (thread_at s (head s)).blocked))
      (l : (thread_at s (head s)).left ≡ 0)
      (v : AccountSound s.header.start s.now (lo (head s)) (runs_upper (is_blocked (thread_at s (head s))) (thread_at s (head s)).parameters (account_at s (head s)))
      (thread_at s (head s)).parameters (account_at s (head s)))
      (up : eqb (level s) (thread_at s (head s)).parameters.priority ≡ true) (c : (thread_at s (head s)).server.capacity ≡ k) (low : lo' (head s) ≤ s.now + k) where
    i : ℕ
    i = head s

    p : Parameters
    p = (thread_at s (head s)).parameters

    -- the thread and the account at the limit
    ended : Thread
    ended = ran (level s) k (thread_at s (head s))

    spent : Account
    spent = record { server = charged k (thread_at s (head s)).server; pending = pending_at s (head s) }

    upper : is_upper p (account_at s i) ≡ true
    unfolding i p
    upper = upper-at (level s) (thread_at s (head s)) (pending_at s (head s)) z (low-lt (thread_at s (head s)).parameters (thread_at s (head s)).blocked g) run.stands up

    spent-sound : AccountSound s.header.start (s.now + k) (lo' i) true p spent
    unfolding i p spent
    spent-sound =
        charge-sound s.header.start s.now (lo (head s)) p (account_at s i) k (lo' i)
        (subst (λ (b : Bool). AccountSound s.header.start s.now (lo (head s)) b p (account_at s i)) (cond-false (is_blocked (thread_at s (head s))) false _ run.awake ∙ upper) v)
        (omega arith) (first-bound (pending_at s i) (lo' i) (d i run.small))

    account-is : account_at (ran_state k s) i ≡ spent
    unfolding i spent
    account-is =
        ap (λ (t : Thread). with-server t.server) there ∙ ap with-server (ran-upper (level s) k (thread_at s (head s)) z up)
      where
        with-server : Server → Account
        with-server x = record { server = x; pending = pending_at s (head s) }

    -- what the rule does to that thread
    sent : Effect → State
    sent e = with_lists (sent_to e.place i p s.lists) (with_account i ended (applied e spent) (ran_state k s))

    limits-is : limits (ran_state k s) ≡ sent (limit_effect (s.now + k) false p spent.server)
    unfolding i p ended spent sent
    limits-is =
        limits-ran
        ∙ by_two ended.parameters.policy _ _ _ z
        ∙ cond-true (eqb (level s) p.priority && eqb ended.server.capacity 0) _ _ both
        ∙ ap (λ (v : Server). with_effect i (limit_effect (s.now + k) false p v) (ran_state k s)) (ran-upper (level s) k (thread_at s (head s)) z up)
        ∙ ap (λ (a : Account). with_lists (sent_to limited.place i (thread_at (ran_state k s) i).parameters s.lists) (with_account i (thread_at (ran_state k s) i) (applied limited a) (ran_state k s)))
        account-is
        ∙ ap (λ (t : Thread). with_lists (sent_to limited.place i t.parameters s.lists) (with_account i t (applied limited spent) (ran_state k s))) there
      where
        limited : Effect
        limited = limit_effect (s.now + k) false p (charged k (thread_at s (head s)).server)

        none : (thread_at s (head s)).server.capacity - k ≡ 0
        none = omega arith

        both : (eqb (level s) p.priority && eqb ended.server.capacity 0) ≡ true
        both =
            and_yes (eqb (level s) p.priority) (eqb ended.server.capacity 0) up
            (eq-eqb ended.server.capacity 0 (ap (λ (x : Server). x.capacity) (ran-upper (level s) k (thread_at s (head s)) z up) ∙ none))

    -- wherever the account's rule sends it
    sent-sound : (b : Bool) (x : Place) (e : Effect) → Sent s.header.start (s.now + k) (lo' i) b p x spent e
        → ListsSound (with_place (place s) i (cond b p.priority p.low)) (occupancy (sent_to x i p s.lists)) (sent_to x i p s.lists)
        → SoundFrom (with_bound lo' i (lo' i)) (sent e)
    unfolding i p ended sent
    sent-sound b x e q m =
        subst⁻¹ (λ (y : Place). SoundFrom (with_bound lo' i (lo' i)) (with_lists (sent_to y i p s.lists) (with_account i ended (applied e spent) (ran_state k s)))) q.place
        (again ended (applied e spent) (lo' i) (omega (tests, q.sound.due_slots.0)) (omega (tests, q.sound.amount_slots.0))
        (sporadic n z g (by_two ended.parameters.policy _ _ _ z ∙ l)
        (subst⁻¹ (λ (y : Bool). AccountSound s.header.start (s.now + k) (lo' i) y p (applied e spent)) (cond-false (is_blocked (thread_at s (head s))) false _ run.awake ∙ q.upper) q.sound))
        refl (sent_to x i p s.lists)
        (subst⁻¹ (λ (y : ℕ). ListsSound (with_place (place s) i y) (occupancy (sent_to x i p s.lists)) (sent_to x i p s.lists)) here m))
      where
        here : place_of (with_server e.server ended) (applied e spent).pending.count ≡ cond b p.priority p.low
        here =
            cond-false (is_blocked (thread_at s (head s))) 0 _ run.awake
            ∙ by_two ended.parameters.policy _ _ _ z
            ∙ ap (λ (y : Bool). cond y p.priority p.low) q.upper

    at-upper : level s ≡ p.priority
    unfolding p
    at-upper = eqb-true (level s) (thread_at s (head s)).parameters.priority up

    -- to the tail of the low list, and from there to that of the upper one
    to_low : ListsSound (with_place (place s) i p.low) (occupancy (moved i p.priority p.low s.lists)) (moved i p.priority p.low s.lists)
    unfolding i p
    to_low =
        move-sound (place s) s.word s.lists h.lists i run.small p.priority p.low (omega (tests, g)) (omega (tests, g)) (standing ∙ at-upper) (omega (tests, g)) (omega (tests, g))

    to-upper : ListsSound (with_place (place s) i p.priority) (occupancy (sent_to LowThenUpper i p s.lists)) (sent_to LowThenUpper i p s.lists)
    unfolding i p
    to-upper =
        sound-same (with_place (with_place (place s) i p.low) i p.priority) (with_place (place s) i p.priority) _ _ (λ j m. go j (eqb j i))
        (move-sound (with_place (place s) i p.low) _ _ to_low i run.small p.low p.priority (omega (tests, g)) (omega (tests, g)) (cond-true (eqb i i) _ _ (eq-eqb i i refl))
        (omega (tests, g)) (omega (tests, g)))
      where
        go : (j : ℕ) (b : Bool) → cond b p.priority (place s j) ≡ cond b p.priority (cond b p.low (place s j))
        go j true = refl
        go j false = refl

    pub limit-sound : SoundFrom (with_bound lo' (head s) (lo' (head s))) (limits (ran_state k s))
    unfolding i p spent
    limit-sound =
        subst⁻¹ (SoundFrom (with_bound lo' (head s) (lo' (head s)))) limits-is
        (limit-sent s.header.start (s.now + k) p (lo' i) spent spent-sound (omega (arith, room.0)) (omega arith) room.1 (omega (tests, h.sizes)) low (omega (tests, g)) (omega (tests, g))
        (λ (e : Effect). SoundFrom (with_bound lo' i (lo' i)) (sent e)) (λ e q. sent-sound true LowThenUpper e q to-upper) (λ e q. sent-sound false Low e q to_low))
      where
        room : (0 < (thread_at s (head s)).server.capacity) × ((pending_at s (head s)).count < p.max_repl)
        room = upper-room p (account_at s i) upper

-- One thing that happens at a time: what a turn of the loop over the moments does to the state.
--
-- Between turns a state is sound but for replenishments that may be due now; the rest of them is still to come.
use Prim.Native.Nat.{ℕ, zero, suc, ◌+◌, ◌-◌, ◌*◌, ◌≤◌, ◌<◌}
use mathlib.Core.Bool.{Bool, true, false, cond, ◌&&◌}
use mathlib.Core.Path.{◌≡◌, refl, sym, ap, ◌∙◌, subst, subst⁻¹}
use mathlib.Core.List.{List, [], ◌∷◌}
use lib.ListN.{length, get_or, set}
use lib.Seq.{set-get_or}
use lib.Dec.{ltb, leb, eqb}
use native.Mathlib.Omega.{arith}
use native.Mathlib.Decide.{ℕ_discrete}
use borrow.Author.Tests.{lt-ltb, le-ltb, le-leb, lt-leb, ltb-true, ltb-false}
use Rattle.records.specs.declared.Header.{Header}
use Rattle.records.specs.Ranges.{by_policy}
use Rattle.base.proofs.TestLaws.{tests, cond-elim, cond-true, cond-false}
use Rattle.records.proofs.PolicyLaws.{policy-elim}
use Rattle.account.specs.declared.Pending.{Pending}
use Rattle.sporadic.specs.declared.Effect.{Effect}
use Rattle.account.specs.Rules.{count_after, slots_after, applied, first_is_due, return_first}
use Rattle.sporadic.specs.Rules.{charged, limit_effect}
use Rattle.sporadic.proofs.EffectLaws.{limit-keeps}
use Rattle.entries.proofs.InsertLaws.{slot-for}
use Rattle.account.proofs.EntryLaws.{slots_length, added-elim}
use Rattle.account.proofs.RoomLaws.{return-room}
use Rattle.account.proofs.ReturnLaws.{first_counted}
use Rattle.account.specs.Sound.{sum}
use Rattle.passing.specs.Time.{due_by}
use Rattle.passing.proofs.TimeLaws.{due-false, due-yes, advance-rest, advance-due}
use Rattle.thread.specs.declared.Thread.{Thread}
use Rattle.state.specs.declared.State.{State}
use Rattle.rows.specs.Rows.{slots_at}
use Rattle.state.specs.State.{thread_at, pending_at, account_at}
use Rattle.thread.specs.Thread.{is_blocked, no_thread}
use Rattle.rows.proofs.RowLaws.{row-length, row_first}
use Rattle.state.proofs.SoundLaws.{ThreadSound, SoundFrom, Sound, state-in}
use Rattle.due_search.specs.declared.Due.{Due}
use Rattle.ticks.specs.Running.{level, head, idles, ran, charge, limit, next}
use Rattle.due_search.specs.Search.{next_due, LeastFirstDue}
use Rattle.ticks.proofs.EarlierLaws.{earlier-other, earlier-right}
use Rattle.ticks.proofs.RunLaws.{charged-none}
use Rattle.moments.specs.Moments.{quantum_ended, limits_of, limits, first_returned, replenish, replenish_below, fire, clock, passed}
use Rattle.moments.proofs.ChangeLaws.{pending-other}
use Rattle.due_search.proofs.DueLaws.{found}
use Rattle.due_search.proofs.SearchLaws.{all-threads}
use Rattle.moments.proofs.ChargeLaws.{due-after, absent_none, wait-thread, next-due, dues-after, limit-later, charged-sound}
use Rattle.moments.proofs.LimitLaws.{limits-none}
use Rattle.moments.proofs.FireLaws.{bounds-same, first-counted-at, first-returned-sound, keeps-limits}
use Rattle.moments.proofs.MomentLaws.{before, within-limit, limits-sound, passing}
use Rattle.state.specs.Updates.{state_of}

-- the first due of the state
abbrev pub first_of : State → Due
first_of s = next_due s.counts s.dues s.header.n

-- sound, but that dues may be at now
abbrev pub Mid : State → Type 0
Mid s = SoundFrom (λ i. s.now - 1) s

-- other lower bounds of the dues
pub bounds : (lo lo' : ℕ → ℕ) (s : State) → SoundFrom lo s → ((i : ℕ) → i < 32 → 0 < get_or s.counts i 0 → lo' i < get_or (slots_at i s.dues) 0 0) → SoundFrom lo' s
bounds lo lo' s h d =
    record {
      sizes = h.sizes;
      each = λ i l. wait-thread s.header.start s.now s.now (lo i) (lo' i) (ltb i s.header.n) (thread_at s i) (pending_at s i) (h.each i l) (omega arith) (d i l);
      lists = h.lists;
      timed = h.timed;
    }

pub first-later : (lo : ℕ → ℕ) (s : State) → SoundFrom lo s → (i : ℕ) → i < 32 → 0 < get_or s.counts i 0 → lo i < get_or (slots_at i s.dues) 0 0
first-later lo s h i l c = due-after s.header.start s.now (lo i) (ltb i s.header.n) (thread_at s i) (pending_at s i) (h.each i l) c

-- it is that of all 32 threads, since those that aren't there have nothing pending
pub first-of-all : (lo : ℕ → ℕ) (s : State) → SoundFrom lo s → next_due s.counts s.dues 32 ≡ first_of s
first-of-all lo s h = all-threads s.counts s.dues s.header.n (omega (tests, h.sizes)) none
  where
    none : (j : ℕ) → s.header.n ≤ j → j < 32 → get_or s.counts j 0 ≡ 0
    none j a l =
        absent_none s.header.start s.now (lo j) (thread_at s j) (pending_at s j)
        (subst (λ (b : Bool). ThreadSound s.header.start s.now (lo j) b (thread_at s j) (pending_at s j)) (le-ltb j s.header.n a) (h.each j l))

pub sound-mid : (s : State) → Sound s → Mid s
sound-mid s h = bounds (λ i. s.now) (λ i. s.now - 1) s h (λ i l c. omega (arith, first-later (λ i. s.now) s h i l c))

-- ---- threads with nothing due

pub nothing-due : (now : ℕ) (q : Pending) → (0 < q.count → now < get_or q.dues 0 0) → first_is_due now q ≡ false
nothing-due now q f = go (ℕ_discrete q.count 0)
  where
    go : Dec (q.count ≡ 0) → first_is_due now q ≡ false
    go (yes e) = ap (λ (n : ℕ). ltb 0 n && leb (get_or q.dues 0 0) now) e
    go (no e) = rw (lt-ltb 0 q.count (omega (arith, e))) (lt-leb (get_or q.dues 0 0) now (f (omega (arith, e))))

replenish-none : (k i : ℕ) (s : State) → first_is_due s.now (pending_at s i) ≡ false → replenish k i s ≡ s
unfolding replenish
replenish-none zero i s e = refl
replenish-none (suc k) i s e = cond-false (first_is_due s.now (pending_at s i)) _ _ e

pub replenish-step : (k i : ℕ) (s : State) → first_is_due s.now (pending_at s i) ≡ true → replenish (suc k) i s ≡ replenish k i (first_returned i s)
unfolding replenish
replenish-step k i s e = cond-true (first_is_due s.now (pending_at s i)) _ _ e

below_suc : (n : ℕ) (s : State) → replenish_below (suc n) s ≡ replenish (get_or (replenish_below n s).counts n 0) n (replenish_below n s)
unfolding replenish_below
below_suc n s = refl

pub below_none : (n : ℕ) (s : State) → ((j : ℕ) → j < n → first_is_due s.now (pending_at s j) ≡ false) → replenish_below n s ≡ s
unfolding replenish_below
below_none zero s f = refl
below_none (suc n) s f = ap (λ (u : State). replenish (get_or u.counts n 0) n u) (below_none n s (λ j l. f j (omega arith))) ∙ replenish-none (get_or s.counts n 0) n s (f n (omega arith))

-- what is the same below m is the same below n
pub below-same : (m n : ℕ) (s u : State) → m ≤ n → replenish_below m s ≡ replenish_below m u → replenish_below n s ≡ replenish_below n u
below-same m zero s u l e = subst (λ (k : ℕ). replenish_below k s ≡ replenish_below k u) (omega arith) e
below-same m (suc n) s u l e = go (ℕ_discrete m (suc n)) (λ k. below-same m n s u k e)
  where
    go : Dec (m ≡ suc n) → (m ≤ n → replenish_below n s ≡ replenish_below n u) → replenish_below (suc n) s ≡ replenish_below (suc n) u
    go (yes q) f = subst (λ (k : ℕ). replenish_below k s ≡ replenish_below k u) q e
    go (no q) f = below_suc n s ∙ ap (λ (v : State). replenish (get_or v.counts n 0) n v) (f (omega (arith, q))) ∙ sym (below_suc n u)

-- ---- one replenishment: the first that is due

-- the sum of numbers with another one at place i
sum-set : (xs : List ℕ) (i x : ℕ) → i < length xs → sum (set xs i x) + get_or xs i 0 ≡ sum xs + x
sum-set [] i x l = absurd (omega arith)
sum-set (y ∷ ys) zero x l = omega arith
sum-set (y ∷ ys) (suc i) x l = omega (arith, sum-set ys i x (omega arith))

sum-most : (xs : List ℕ) (i x : ℕ) → x ≤ get_or xs i 0 + 1 → sum (set xs i x) ≤ sum xs + 1
sum-most [] i x l = omega arith
sum-most (y ∷ ys) zero x l = omega arith
sum-most (y ∷ ys) (suc i) x l = omega (arith, sum-most ys i x l)

-- at a limit at most one entry is added
limits-counted : (s : State) → sum (limits s).counts ≤ sum s.counts + 1
unfolding limits
limits-counted s =
    let t = thread_at s (head s) in
    let P : State → Type 0 = λ u. sum u.counts ≤ sum s.counts + 1 in
    cond-elim P (idles s) s (limits_of (level s) (head s) t s) (λ e. omega arith)
    (λ e. policy-elim P t.parameters.policy _ _ _ (λ c. omega arith)
    (λ c. cond-elim P (eqb t.left 0) (quantum_ended (level s) (head s) t s) s (λ d. omega arith) (λ d. omega arith))
    (λ c. cond-elim P (eqb (level s) t.parameters.priority && eqb t.server.capacity 0) _ s
    (λ d. sum-most s.counts (head s) _
    (added-elim (λ (q : Pending). q.count ≤ get_or s.counts (head s) 0 + 1) (limit_effect s.now false t.parameters t.server) (pending_at s (head s))
    (limit-keeps s.now t.parameters t.server false) (omega arith) (λ u. omega arith)))
    (λ d. omega arith)))

module _ (s : State) (h : Mid s) (d : (first_of s).thread ≡ 32 → ⊥) (e : (first_of s).due ≤ s.now) where
  f : LeastFirstDue s.counts s.dues s.header.n (first_of s)
  f = found s.counts s.dues s.header.n (omega (tests, h.sizes))

  pub first_below : (first_of s).thread < s.header.n
  first_below = (f.some d).0

  pub first_small : (first_of s).thread < 32
  first_small = omega (tests, first_below, h.sizes)

  first-now : s.now - 1 < (first_of s).due
  first-now =
      let r = f.some d in
      omega (arith, r.2, row_first (first_of s).thread s.dues, first-later (λ i. s.now - 1) s h (first_of s).thread first_small r.1)

  pub first-due : first_is_due s.now (pending_at s (first_of s).thread) ≡ true
  first-due =
      let r = f.some d in
      rw (lt-ltb 0 (get_or s.counts (first_of s).thread 0) r.1)
      (le-leb (get_or (slots_at (first_of s).thread s.dues) 0 0) s.now (omega (arith, r.2, row_first (first_of s).thread s.dues)))

  -- the first that is due has come back
  abbrev back : Effect
  back =
      return_first s.now (is_blocked (thread_at s (first_of s).thread)) (thread_at s (first_of s).thread).parameters (account_at s (first_of s).thread)

  abbrev backed : State
  backed = first_returned (first_of s).thread s

  pub first_some : 0 < get_or s.counts (first_of s).thread 0
  first_some = (f.some d).1

  pub one_fewer : get_or backed.counts (first_of s).thread 0 ≡ get_or s.counts (first_of s).thread 0 - 1
  one_fewer = first-counted-at (λ i. s.now - 1) s h (first_of s).thread first_small first_some

  pub backed-mid : Mid backed
  backed-mid = first-returned-sound (λ i. s.now - 1) s h (first_of s).thread first_small first_some

  -- threads below it have nothing due, and still nothing once it has come back
  pub first-lowest : (j : ℕ) → j < (first_of s).thread → first_is_due s.now (pending_at s j) ≡ false
  first-lowest j l = nothing-due s.now (pending_at s j) (λ c. omega (arith, f.lowest d j l c, first-now, row_first j s.dues))

  pub still-lowest : (j : ℕ) → j < (first_of s).thread → first_is_due s.now (pending_at backed j) ≡ false
  still-lowest j l =
      let w = (slot-for back.due (get_or s.counts (first_of s).thread 0) (slots_at (first_of s).thread s.dues)).within in
      ap (first_is_due s.now)
      (pending-other s (first_of s).thread first_small (thread_at s (first_of s).thread) (applied back (account_at s (first_of s).thread)) h.sizes
      (eight _ back.due s.dues w (omega (tests, h.sizes))) (eight _ back.amount s.amounts w (omega (tests, h.sizes))) j (λ q. omega arith))
      ∙ first-lowest j l
    where
      eight : (k x : ℕ) (xs : List ℕ) → k ≤ get_or s.counts (first_of s).thread 0 → length xs ≡ 256
          → length (slots_after back.first back.amount k (get_or s.counts (first_of s).thread 0) x (slots_at (first_of s).thread xs)) ≡ 8
      eight k x xs w l =
          let i = (first_of s).thread in
          let c = get_or s.counts i 0 in
          let n = row-length i xs first_small l in
          let r = return-room s.now (thread_at s i).parameters (thread_at s i).server (is_blocked (thread_at s i)) c (get_or (slots_at i s.amounts) 0 0) in
          slots_length back.first back.amount k c x (slots_at i xs) (omega arith) (λ f a. (w, omega (arith, r.1 f a))) ∙ n

  -- so what is left comes back as before, by its own turn and by those after it
  pub backed-turn : replenish_below (suc (first_of s).thread) backed ≡ replenish_below (suc (first_of s).thread) s
  backed-turn =
      below_suc (first_of s).thread backed
      ∙ ap turn (below_none (first_of s).thread backed still-lowest)
      ∙ more (get_or s.counts (first_of s).thread 0) refl
      ∙ sym (below_suc (first_of s).thread s ∙ ap turn (below_none (first_of s).thread s first-lowest))
    where
      turn : State → State
      turn u = replenish (get_or u.counts (first_of s).thread 0) (first_of s).thread u

      more : (n : ℕ) → get_or s.counts (first_of s).thread 0 ≡ n
          → replenish (get_or backed.counts (first_of s).thread 0) (first_of s).thread backed ≡ replenish (get_or s.counts (first_of s).thread 0) (first_of s).thread s
      more zero q = absurd (omega (arith, first_some))
      more (suc n) q =
          let m : get_or backed.counts (first_of s).thread 0 ≡ n = omega (arith, one_fewer) in
          ap (λ (k : ℕ). replenish k (first_of s).thread backed) m ∙ sym (replenish-step n (first_of s).thread s first-due) ∙ ap (λ (k : ℕ). replenish k (first_of s).thread s) (sym q)

  pub backed-same : replenish_below s.header.n backed ≡ replenish_below s.header.n s
  backed-same = below-same (suc (first_of s).thread) s.header.n backed s (omega (arith, first_below)) backed-turn

  -- one entry fewer
  pub backed-fewer : sum backed.counts < sum s.counts
  backed-fewer =
      let i = (first_of s).thread in
      omega (
        arith,
        first_some,
        first_counted s.now (is_blocked (thread_at s i)) (thread_at s i).parameters (account_at s i) first_some,
        sum-set s.counts i (count_after back.first back.amount (get_or s.counts i 0)) (omega (tests, h.sizes, first_small)),
      )

-- ---- nothing is due now

module _ (s : State) (h : Mid s) (q : 0 < (first_of s).due → s.now < (first_of s).due) where
  pub settled : (i : ℕ) → i < 32 → 0 < get_or s.counts i 0 → s.now < get_or (slots_at i s.dues) 0 0
  settled i l c = let r = next-due (λ i. s.now - 1) s h i l c in omega (arith, q r.0, r.1)

  pub settled-sound : Sound s
  settled-sound = bounds (λ i. s.now - 1) (λ i. s.now) s h settled

  pub settled_same : replenish_below s.header.n s ≡ s
  settled_same = below_none s.header.n s (λ j l. nothing-due s.now (pending_at s j) (settled j (omega (tests, h.sizes))))

-- so it is where the next moment is after now, or where there is none
pub due-later : (s : State) → (0 < next s → s.now < next s) → 0 < (first_of s).due → s.now < (first_of s).due
due-later s q p = let y = earlier-right (limit s) (first_of s).due p in omega (arith, q y.0, y.1)

-- ---- no ticks

ran-none : (p : ℕ) (t : Thread) → ran p 0 t ≡ t
ran-none p t =
    λ x. record {
      parameters = t.parameters;
      blocked = t.blocked;
      total = n t.total x;
      left = left t.parameters.policy x;
      server = server t.parameters.policy (eqb p t.parameters.priority) x;
    }
  where
    n : (a : ℕ) → a + 0 ≡ a
    n a = omega arith

    left : (c : ℕ) → by_policy c t.left (t.left - 0) t.left ≡ t.left
    left zero = refl
    left (suc zero) = omega arith
    left (suc (suc c)) = refl

    server : (c : ℕ) (b : Bool) → by_policy c t.server t.server (cond b (charged 0 t.server) t.server) ≡ t.server
    server zero b = refl
    server (suc zero) b = refl
    server (suc (suc c)) true = charged-none t.server
    server (suc (suc c)) false = refl

pub charge-none : (s : State) → charge 0 s ≡ s
charge-none s =
    λ x. state_of s.header (n x) (i (idles s) x) s.word (t (idles s) x) s.counts s.dues s.amounts s.lists
  where
    n : s.now + 0 ≡ s.now
    n = omega arith

    i : (b : Bool) → s.idle + cond b 0 0 ≡ s.idle
    i true = omega arith
    i false = omega arith

    t : (b : Bool) → cond b s.threads (set s.threads (head s) (ran (level s) 0 (thread_at s (head s)))) ≡ s.threads
    t true = refl
    t false = ap (set s.threads (head s)) (ran-none (level s) (thread_at s (head s))) ∙ set-get_or s.threads (head s) no_thread

-- ---- a turn

-- what holds between turns: time goes on from s as it did from s₀
pub record Going (s₀ : State) (t : ℕ) (s : State) : Type 0 where
  pub mid : Mid s
  pub by : s.now ≤ t
  pub same : passed (replenish_below s.header.n s) t ≡ passed s₀ t

-- what falls with each turn: a limit or a quantum's end takes at least a tick and adds at most one entry, a return takes one entry
unfoldable pub weight : ℕ → State → ℕ
weight t s = (t - s.now) * 2 + sum s.counts

pub start : (s : State) (t : ℕ) → Sound s → s.now ≤ t → Going s t s
start s t h l = record { mid = sound-mid s h; by = l; same = ap (λ (u : State). passed u t) (settled_same s (sound-mid s h) later) }
  where
    later : 0 < (first_of s).due → s.now < (first_of s).due
    later = due-later s (λ p. Rattle.moments.proofs.ChargeLaws.later s h p)

module _ (s₀ s : State) (t : ℕ) (g : Going s₀ t s) where
  -- no moment is due by t: the rest is charged
  pub turn-rest : due_by (next s) t ≡ false → charge (t - s.now) s ≡ passed s₀ t
  turn-rest e =
      sym (advance-rest clock s t e)
      ∙ ap (λ (u : State). passed u t) (sym (settled_same s g.mid (due-later s (λ p. omega (arith, g.by, due-false (next s) t e p)))))
      ∙ g.same

  module _ (p : 0 < next s) (l : next s ≤ t) (top : t ≤ 1000000000000000) where
    abbrev u : State
    u = charge (next s - s.now) s

    -- where the next moment is after now, its limits come first
    later_same : s.now < next s → passed (replenish_below s.header.n (limits u)) t ≡ passed s₀ t
    unfolding fire
    later_same q =
        let m = due-later s (λ p. q) in
        sym (advance-due clock passing s t (state-in s (settled-sound s g.mid m)) top (due-yes (next s) t p l))
        ∙ ap (λ (u : State). passed u t) (sym (settled_same s g.mid m))
        ∙ g.same

    -- the limit or the end of a quantum
    pub turn-limit : limit s ≡ next s → Going s₀ t (limits u) × (weight t (limits u) < weight t s)
    unfolding before weight
    turn-limit e =
        let q : s.now < next s = omega (arith, limit-later (λ i. s.now - 1) s g.mid (omega arith)) in
        let n = keeps-limits (λ (v : State). v.now) (λ i o v. refl) (λ p i v. refl) u in
        let x = keeps-limits (λ (v : State). v.header) (λ i o v. refl) (λ p i v. refl) u in
        let h = settled-sound s g.mid (due-later s (λ p. q)) in (
          record {
            mid = bounds-same (before s) (λ i. (limits u).now - 1) (limits u) (limits-sound s h p (omega arith)) (λ i m. omega (arith, n));
            by = omega (arith, n);
            same = ap (λ (x : Header). passed (replenish_below x.n (limits u)) t) x ∙ later_same q;
          },
          omega (arith, n, limits-counted u),
        )

    -- no limit: the first due is at the next moment, which may be now
    module _ (e : limit s ≡ next s → ⊥) where
      pub is-due : (next s ≡ (first_of s).due) × (0 < limit s → (first_of s).due < limit s)
      is-due = earlier-other (limit s) (first_of s).due e

      pub due-some : (first_of s).thread ≡ 32 → ⊥
      due-some d =
          let f = found s.counts s.dues s.header.n (omega (tests, g.mid.sizes)) in
          omega (arith, (f.none d).0, is-due.0)

      pub not-past : s.now ≤ next s
      not-past = omega (arith, is-due.0, first-later-due)
        where
          first-later-due : s.now - 1 < (first_of s).due
          first-later-due =
              let r = (found s.counts s.dues s.header.n (omega (tests, g.mid.sizes))).some due-some in
              omega (
                arith,
                r.2,
                row_first (first_of s).thread s.dues,
                first-later (λ i. s.now - 1) s g.mid (first_of s).thread (omega (tests, r.0, g.mid.sizes)) r.1,
              )

      pub charged-going : Going s₀ t u
      unfolding before
      charged-going = go (ltb s.now (next s)) refl
        where
          go : (b : Bool) → ltb s.now (next s) ≡ b → Going s₀ t (charge (next s - s.now) s)
          go true r =
              let q : s.now < next s = ltb-true s.now (next s) r in
              let h = settled-sound s g.mid (due-later s (λ p. q)) in
              let m = charged-sound (λ i. s.now) (before s) (next s - s.now) s h (dues-after (λ i. s.now) s (next s - 1) h (λ q. omega arith))
              (within-limit (λ i. s.now) (next s - s.now) s h (λ p. omega (arith, is-due.0, is-due.1 p))) (omega arith) in
              record {
                mid = bounds-same (before s) (λ i. s.now + (next s - s.now) - 1) u m (λ i j. omega arith);
                by = omega arith;
                same = ap (λ (v : State). passed (replenish_below s.header.n v) t) (sym (limits-none (before s) u m)) ∙ later_same q;
              }
          go false r =
              let q : next s - s.now ≡ 0 = omega (arith, ltb-false s.now (next s) r) in
              subst⁻¹ (λ (k : ℕ). Going s₀ t (charge k s)) q (subst⁻¹ (Going s₀ t) (charge-none s) g)

      -- where it is after now, a turn charges the ticks up to it and does no more
      pub turn-charged : s.now < next s → Going s₀ t u × (weight t u < weight t s)
      unfolding weight
      turn-charged q = (charged-going, omega arith)

      pub due-now : (first_of s).due ≤ u.now
      due-now = omega (arith, is-due.0, not-past)

      pub turn-due : Going s₀ t (first_returned (first_of s).thread u) × (weight t (first_returned (first_of s).thread u) < weight t s)
      unfolding weight
      turn-due =
          let c = charged-going in (
            record {
              mid = backed-mid u c.mid due-some due-now;
              by = c.by;
              same = ap (λ (v : State). passed v t) (backed-same u c.mid due-some due-now) ∙ c.same;
            },
            omega (arith, backed-fewer u c.mid due-some due-now, not-past),
          )

-- what is due now: a turn returns the first entry of it
pub turn-back : (s₀ s : State) (t : ℕ) → Going s₀ t s → ((first_of s).thread ≡ 32 → ⊥) → (first_of s).due ≤ s.now
    → Going s₀ t (first_returned (first_of s).thread s) × (weight t (first_returned (first_of s).thread s) < weight t s)
unfolding weight
turn-back s₀ s t g d e = (
  record {
    mid = backed-mid s g.mid d e;
    by = g.by;
    same = ap (λ (v : State). passed v t) (backed-same s g.mid d e) ∙ g.same;
  },
  omega (arith, backed-fewer s g.mid d e),
)

-- What happens at a moment keeps a state sound.
use Prim.Native.Nat.{ℕ, zero, suc, ◌-◌, ◌≤◌, ◌<◌}
use mathlib.Core.Bool.{Bool, true, false, cond, ◌&&◌}
use mathlib.Core.Path.{◌≡◌, refl, sym, ap, ◌∙◌, subst, subst⁻¹}
use lib.ListN.{get_or}
use lib.Seq.{get_or-set_same}
use lib.Dec.{ltb, eqb}
use native.Mathlib.Omega.{arith}
use native.Mathlib.Decide.{ℕ_discrete}
use borrow.Author.Tests.{eqb-true, eq-eqb, ne_eqb, lt-ltb, le-ltb, ltb-false}
use Rattle.records.specs.declared.Header.{Header}
use Rattle.base.proofs.TestLaws.{tests, All, cond-elim, cond-true, cond-false, false-true}
use Rattle.records.proofs.PolicyLaws.{policy-elim, by_two}
use Rattle.sporadic.specs.declared.Server.{Server}
use Rattle.account.specs.declared.Pending.{Pending}
use Rattle.account.specs.declared.Account.{Account}
use Rattle.sporadic.specs.declared.Effect.{Effect}
use Rattle.sporadic.specs.declared.Place.{Place}
use Rattle.sporadic.specs.declared.Place.TheVariants.{Stays, Upper}
use Rattle.sporadic.specs.Rules.{at_upper, limit_effect}
use Rattle.account.specs.Rules.{applied, first_is_due, return_first}
use Rattle.account.specs.Sound.{runs_upper}
use Rattle.account.proofs.ReturnLaws.{due-some, first_counted}
use Rattle.account_laws.proofs.SoundLaws.{AccountSound, none-sound, Returned, return-sound}
use Rattle.account_laws.proofs.SoundLaws.Returned.{stays, raised}
use Rattle.ready.specs.Lists.{moved}
use Rattle.ready.specs.Word.{occupancy}
use Rattle.ready.proofs.Soundness.{ListsSound}
use Rattle.ready.proofs.SoundLaws.{with_place, sound-same, move-sound}
use Rattle.thread.specs.declared.Thread.{Thread}
use Rattle.state.specs.declared.State.{State}
use Rattle.state.specs.State.{thread_at, pending_at, account_at, place}
use Rattle.thread.specs.Thread.{is_blocked, place_of, with_server}
use Rattle.state.proofs.SoundLaws.{no_pending, ThreadSound, SoundFrom, Sound, SporadicTests}
use Rattle.state.proofs.SoundLaws.ThreadSound.{absent, fifo, rr, sporadic}
use Rattle.ticks.specs.Running.{level, head, idles}
use Rattle.moments.specs.Changes.{sent_to, with_effect}
use Rattle.moments.specs.Moments.{quantum_ended, limits_of, limits, first_returned, replenish, replenish_below, fire}
use Rattle.moments.proofs.ChangeLaws.{with_bound, changed}
use Rattle.state.specs.Updates.{with_lists, with_account}

-- other bounds that are the same below 32
pub bounds-same : (lo lo' : ℕ → ℕ) (s : State) → SoundFrom lo s → ((i : ℕ) → i < 32 → lo' i ≡ lo i) → SoundFrom lo' s
bounds-same lo lo' s h e = record { sizes = h.sizes; each = λ i l. rw (e i l) (h.each i l); lists = h.lists; timed = h.timed }

-- a thread whose first entry is not due: its dues are after now
not-due : (start now lo : ℕ) (b : Bool) (t : Thread) (q : Pending) → ThreadSound start now lo b t q → first_is_due now q ≡ false → ThreadSound start now now b t q
not-due start now lo b t q (absent n e f) d = absent n e f
not-due start now lo b t q (fifo n z h l v f) d = fifo n z h l v f
not-due start now lo b t q (rr n z h l v f) d = rr n z h l v f
not-due start now lo b t q (sporadic n z h l v) d =
    sporadic n z h l (none-sound start now lo (runs_upper (is_blocked t) t.parameters (record { server = t.server; pending = q })) t.parameters (record { server = t.server; pending = q }) v d)

-- thread i's turn: its dues are after now when it is done
module _ (lo : ℕ → ℕ) (s : State) (h : SoundFrom lo s) (i : ℕ) (l : i < 32) where
  skipped : first_is_due s.now (pending_at s i) ≡ false → SoundFrom (with_bound lo i s.now) s
  skipped d =
      record {
        sizes = h.sizes;
        each = λ j m. each j m (ℕ_discrete j i);
        lists = h.lists;
        timed = h.timed;
      }
    where
      each : (j : ℕ) → j < 32 → Dec (j ≡ i) → ThreadSound s.header.start s.now (with_bound lo i s.now j) (ltb j s.header.n) (thread_at s j) (pending_at s j)
      each j m (yes e) =
          subst⁻¹ (λ (k : ℕ). ThreadSound s.header.start s.now (with_bound lo i s.now k) (ltb k s.header.n) (thread_at s k) (pending_at s k)) e
          (rw (eq-eqb i i refl) (not-due s.header.start s.now (lo i) (ltb i s.header.n) (thread_at s i) (pending_at s i) (h.each i l) d))
      each j m (no e) = rw (ne_eqb j i e) (h.each j m)

  -- what comes back, for a sporadic thread
  module _ (n : ltb i s.header.n ≡ true) (z : (thread_at s i).parameters.policy ≡ 2) (g : All (SporadicTests (thread_at s i).parameters (thread_at s i).blocked)) (a : (thread_at s i).left ≡ 0)
      (v : AccountSound s.header.start s.now (lo i) (runs_upper (is_blocked (thread_at s i)) (thread_at s i).parameters (account_at s i)) (thread_at s i).parameters (account_at s i)) where
    -- a sporadic thread's place
    place-by : (c : ℕ) (y : Server) → place_of (with_server y (thread_at s i)) c
        ≡ cond (is_blocked (thread_at s i)) 0 (cond (at_upper (thread_at s i).parameters y.capacity c) (thread_at s i).parameters.priority (thread_at s i).parameters.low)
    place-by c y = ap (λ (k : ℕ). cond (is_blocked (thread_at s i)) 0 k) (by_two (thread_at s i).parameters.policy _ _ _ z)

    -- the account after an effect, and the thread's list then
    abbrev after : Effect → Account
    after e = applied e (account_at s i)

    abbrev placed : Effect → ℕ
    placed e = place_of (with_server e.server (thread_at s i)) (after e).pending.count

    put : (x : ℕ) (e : Effect) (y : Place) (b : Bool) → e.place ≡ y
        → AccountSound s.header.start s.now x b (thread_at s i).parameters (after e) → runs_upper (is_blocked (thread_at s i)) (thread_at s i).parameters (after e) ≡ b
        → ListsSound (with_place (place s) i (placed e)) (occupancy (sent_to y i (thread_at s i).parameters s.lists)) (sent_to y i (thread_at s i).parameters s.lists)
        → SoundFrom (with_bound lo i x) (with_effect i e s)
    put x e y b p q u m =
        subst⁻¹ (λ (y : Place). SoundFrom (with_bound lo i x) (with_lists (sent_to y i (thread_at s i).parameters s.lists) (with_account i (thread_at s i) (after e) s))) p
        (changed lo s h i l (thread_at s i) (after e) x (omega (tests, q.due_slots.0)) (omega (tests, q.amount_slots.0))
        (sporadic n z g a (subst⁻¹ (λ (c : Bool). AccountSound s.header.start s.now x c (thread_at s i).parameters (after e)) u q))
        refl (sent_to y i (thread_at s i).parameters s.lists) m)

    -- it stays: its list is what it was
    same_place : (b x y : Bool) (j k : ℕ) → cond b false x ≡ cond b false y → cond b 0 (cond x j k) ≡ cond b 0 (cond y j k)
    same_place true x y j k e = refl
    same_place false x y j k e = ap (λ (c : Bool). cond c j k) e

    unmoved : (e : Effect) → runs_upper (is_blocked (thread_at s i)) (thread_at s i).parameters (after e) ≡ runs_upper (is_blocked (thread_at s i)) (thread_at s i).parameters (account_at s i)
        → ListsSound (with_place (place s) i (placed e)) (occupancy s.lists) s.lists
    unmoved e u =
        subst (λ (w : ℕ). ListsSound (with_place (place s) i (placed e)) w s.lists) h.lists.agrees
        (sound-same (place s) (with_place (place s) i (placed e)) s.word s.lists (λ j m. go j (ℕ_discrete j i)) h.lists)
      where
        go : (j : ℕ) → Dec (j ≡ i) → with_place (place s) i (placed e) j ≡ place s j
        go j (yes f) =
            cond-true (eqb j i) _ _ (eq-eqb j i f)
            ∙ place-by (after e).pending.count e.server
            ∙ same_place (is_blocked (thread_at s i)) _ _ (thread_at s i).parameters.priority (thread_at s i).parameters.low u
            ∙ sym (place-by (get_or s.counts i 0) (thread_at s i).server)
            ∙ ap (place s) (sym f)
        go j (no f) = cond-false (eqb j i) _ _ (ne_eqb j i f)

    back : (x : ℕ) (e : Effect) → Returned s.header.start s.now x (is_blocked (thread_at s i)) (thread_at s i).parameters (account_at s i) e → SoundFrom (with_bound lo i x) (with_effect i e s)
    back x e (stays p q u) = put x e Stays (runs_upper (is_blocked (thread_at s i)) (thread_at s i).parameters (account_at s i)) p q u (unmoved e u)
    back x e (raised p w u q r) =
        put x e Upper true p q (cond-false (is_blocked (thread_at s i)) false _ w ∙ r)
        (subst⁻¹ (λ (y : ℕ). ListsSound (with_place (place s) i y) (occupancy (moved i (thread_at s i).parameters.low (thread_at s i).parameters.priority s.lists))
        (moved i (thread_at s i).parameters.low (thread_at s i).parameters.priority s.lists))
        (place-by (after e).pending.count e.server ∙ cond-false (is_blocked (thread_at s i)) 0 _ w ∙ cond-true _ (thread_at s i).parameters.priority (thread_at s i).parameters.low r)
        (move-sound (place s) s.word s.lists h.lists i l (thread_at s i).parameters.low (thread_at s i).parameters.priority (omega (tests, g)) (omega (tests, g))
        (place-by (get_or s.counts i 0) (thread_at s i).server ∙ cond-false (is_blocked (thread_at s i)) 0 _ w ∙ cond-false _ (thread_at s i).parameters.priority (thread_at s i).parameters.low u)
        (omega (tests, g)) (omega (tests, g))))

  -- the first entry comes back: dues are no earlier than before
  module _ (c : 0 < get_or s.counts i 0) where
    pub first-counted-at : get_or (first_returned i s).counts i 0 ≡ get_or s.counts i 0 - 1
    first-counted-at =
        get_or-set_same s.counts i _ 0 (omega (tests, h.sizes)) ∙ first_counted s.now (is_blocked (thread_at s i)) (thread_at s i).parameters (account_at s i) c

    pub first-returned-sound : SoundFrom lo (first_returned i s)
    first-returned-sound = bounds-same (with_bound lo i (lo i)) lo (first_returned i s) (go (h.each i l)) (λ j m. same j (eqb j i) refl)
      where
        none : pending_at s i ≡ no_pending → {A : Type 0} → A
        none q = absurd (omega (arith, ap (λ (q : Pending). q.count) q))

        go : ThreadSound s.header.start s.now (lo i) (ltb i s.header.n) (thread_at s i) (pending_at s i) → SoundFrom (with_bound lo i (lo i)) (first_returned i s)
        go (absent n t q) = none q
        go (fifo n z g a v q) = none q
        go (rr n z g a v q) = none q
        go (sporadic n z g a v) =
            back n z g a v (lo i) (return_first s.now (is_blocked (thread_at s i)) (thread_at s i).parameters (account_at s i))
            (return-sound s.header.start s.now (lo i) (is_blocked (thread_at s i)) (thread_at s i).parameters (account_at s i) v c (omega (tests, h.sizes)) (omega (tests, g)))

        same : (j : ℕ) (b : Bool) → eqb j i ≡ b → lo j ≡ cond b (lo i) (lo j)
        same j true e = ap lo (eqb-true j i e)
        same j false e = refl

-- all that is due comes back, and then dues are after now
pub replenish-sound : (k : ℕ) (lo : ℕ → ℕ) (s : State) → SoundFrom lo s → (i : ℕ) → i < 32 → get_or s.counts i 0 ≤ k → SoundFrom (with_bound lo i s.now) (replenish k i s)
unfolding replenish
replenish-sound zero lo s h i l n = skipped lo s h i l (rw (le-ltb 0 (get_or s.counts i 0) (omega arith)) refl)
replenish-sound (suc k) lo s h i l n =
    cond-elim (SoundFrom (with_bound lo i s.now)) (first_is_due s.now (pending_at s i)) (replenish k i (first_returned i s)) s
    (λ e. let c = due-some s.now (pending_at s i) e in
    replenish-sound k lo (first_returned i s) (first-returned-sound lo s h i l c) i l (omega (arith, first-counted-at lo s h i l c)))
    (skipped lo s h i l)

-- ---- what a moment's work keeps

module _ {A : Type 0} (f : State → A) (fo : (i : ℕ) (e : Effect) (s : State) → f (with_effect i e s) ≡ f s)
    (fq : (p i : ℕ) (s : State) → f (quantum_ended p i (thread_at s i) s) ≡ f s) where
  pub keeps-replenish : (k i : ℕ) (s : State) → f (replenish k i s) ≡ f s
  unfolding replenish
  keeps-replenish zero i s = refl
  keeps-replenish (suc k) i s =
      cond-elim (λ (u : State). f u ≡ f s) (first_is_due s.now (pending_at s i)) (replenish k i (first_returned i s)) s
      (λ e. keeps-replenish k i (first_returned i s) ∙ fo i (return_first s.now (is_blocked (thread_at s i)) (thread_at s i).parameters (account_at s i)) s) (λ e. refl)

  pub keeps_below : (n : ℕ) (s : State) → f (replenish_below n s) ≡ f s
  unfolding replenish_below
  keeps_below zero s = refl
  keeps_below (suc n) s = let u = replenish_below n s in keeps-replenish (get_or u.counts n 0) n u ∙ keeps_below n s

  pub keeps-limits : (s : State) → f (limits s) ≡ f s
  unfolding limits
  keeps-limits s =
      let t = thread_at s (head s) in
      cond-elim (λ (u : State). f u ≡ f s) (idles s) s (limits_of (level s) (head s) t s) (λ e. refl)
      (λ e. policy-elim (λ (u : State). f u ≡ f s) t.parameters.policy _ _ _
      (λ c. refl)
      (λ c. cond-elim (λ (u : State). f u ≡ f s) (eqb t.left 0) (quantum_ended (level s) (head s) t s) s (λ d. fq (level s) (head s) s) (λ d. refl))
      (λ c. cond-elim (λ (u : State). f u ≡ f s) (eqb (level s) t.parameters.priority && eqb t.server.capacity 0) _ s (λ d. fo (head s) (limit_effect s.now false t.parameters t.server) s) (λ d. refl)))

  pub keeps-fire : (s : State) → f (fire s) ≡ f s
  unfolding fire
  keeps-fire s = keeps_below s.header.n (limits s) ∙ keeps-limits s

pub now-below : (n : ℕ) (s : State) → (replenish_below n s).now ≡ s.now
now-below n s = keeps_below (λ (u : State). u.now) (λ i o u. refl) (λ p i u. refl) n s

pub now-fire : (s : State) → (fire s).now ≡ s.now
now-fire s = keeps-fire (λ (u : State). u.now) (λ i o u. refl) (λ p i u. refl) s

pub header-fire : (s : State) → (fire s).header ≡ s.header
header-fire s = keeps-fire (λ (u : State). u.header) (λ i o u. refl) (λ p i u. refl) s

-- ---- all that is due comes back, by thread number

-- the bounds when the threads below n had their turn
abbrev pub turns : ℕ → ℕ → (ℕ → ℕ) → ℕ → ℕ
turns now n lo i = cond (ltb i n) now (lo i)

pub below-sound : (lo : ℕ → ℕ) (n : ℕ) (s : State) → n ≤ 32 → SoundFrom lo s → SoundFrom (turns s.now n lo) (replenish_below n s)
unfolding replenish_below
below-sound lo zero s l h = bounds-same lo (turns s.now 0 lo) s h (λ i m. cond-false (ltb i 0) _ _ (le-ltb i 0 (omega arith)))
below-sound lo (suc n) s l h =
    let u = replenish_below n s in
    let e = now-below n s in
    bounds-same (with_bound (turns s.now n lo) n u.now) (turns s.now (suc n) lo) (replenish (get_or u.counts n 0) n u)
    (replenish-sound (get_or u.counts n 0) (turns s.now n lo) u (below-sound lo n s (omega arith) h) n (omega arith) (omega arith)) (λ i m. go i (ℕ_discrete i n) e)
  where
    go : (i : ℕ) → Dec (i ≡ n) → (replenish_below n s).now ≡ s.now → turns s.now (suc n) lo i ≡ with_bound (turns s.now n lo) n (replenish_below n s).now i
    go i (yes c) e = cond-true (ltb i (suc n)) _ _ (lt-ltb i (suc n) (omega arith)) ∙ sym e ∙ sym (cond-true (eqb i n) _ _ (eq-eqb i n c))
    go i (no c) e = ap (λ (b : Bool). cond b s.now (lo i)) (same (ltb i n) refl) ∙ sym (cond-false (eqb i n) _ _ (ne_eqb i n c))
      where
        same : (b : Bool) → ltb i n ≡ b → ltb i (suc n) ≡ ltb i n
        same true q = lt-ltb i (suc n) (omega (tests, q)) ∙ sym q
        same false q = le-ltb i (suc n) (omega (arith, ltb-false i n q, c)) ∙ sym q

-- from N on there is nothing to come back
settled : (lo : ℕ → ℕ) (s : State) → SoundFrom (turns s.now s.header.n lo) s → Sound s
settled lo s h = record { sizes = h.sizes; each = λ i l. go i (ltb i s.header.n) refl (h.each i l); lists = h.lists; timed = h.timed }
  where
    from : (i x : ℕ) → ltb i s.header.n ≡ false → ThreadSound s.header.start s.now x (ltb i s.header.n) (thread_at s i) (pending_at s i)
        → ThreadSound s.header.start s.now s.now (ltb i s.header.n) (thread_at s i) (pending_at s i)
    from i x q (absent n e f) = absent n e f
    from i x q (fifo n z g a v f) = false-true (sym q ∙ n)
    from i x q (rr n z g a v f) = false-true (sym q ∙ n)
    from i x q (sporadic n z g a v) = false-true (sym q ∙ n)

    go : (i : ℕ) (b : Bool) → ltb i s.header.n ≡ b
        → ThreadSound s.header.start s.now (turns s.now s.header.n lo i) (ltb i s.header.n) (thread_at s i) (pending_at s i)
        → ThreadSound s.header.start s.now s.now (ltb i s.header.n) (thread_at s i) (pending_at s i)
    go i true q x =
        subst (λ (k : ℕ). ThreadSound s.header.start s.now k (ltb i s.header.n) (thread_at s i) (pending_at s i)) (cond-true (ltb i s.header.n) s.now (lo i) q) x
    go i false q x = from i (turns s.now s.header.n lo i) q x

-- replenishing makes a state sound, whatever is due
pub settle-sound : (lo : ℕ → ℕ) (s : State) → SoundFrom lo s → Sound (replenish_below s.header.n s)
settle-sound lo s h =
    let n = s.header.n in
    let u = replenish_below n s in
    settled lo u
    (subst⁻¹ (λ (x : ℕ). SoundFrom (turns x u.header.n lo) u) (now-below n s)
    (subst⁻¹ (λ (x : Header). SoundFrom (turns s.now x.n lo) u) (keeps_below (λ (v : State). v.header) (λ i o v. refl) (λ p i v. refl) n s)
    (below-sound lo n s (omega (tests, h.sizes)) h)))

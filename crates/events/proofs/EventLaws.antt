-- An accepted event leaves a sound state.
use Prim.Native.Nat.{ℕ, zero, suc, ◌≤◌, ◌<◌}
use mathlib.Core.Bool.{Bool, true, false, cond, not, ◌&&◌}
use mathlib.Core.Path.{◌≡◌, refl, sym, ap, ◌∙◌, subst, subst⁻¹}
use mathlib.Core.List.{List}
use lib.ListN.{length, get_or}
use lib.Dec.{ltb, leb, eqb}
use native.Mathlib.Omega.{arith}
use native.Mathlib.Decide.{ℕ_discrete}
use borrow.Author.Tests.{eqb-true, eqb-false, eq-eqb, ne_eqb, lt-ltb, leb-false, ltb-false, not-false}
use Rattle.records.specs.declared.Event.{Event}
use Rattle.records.specs.Ranges.{in_range, all_zero}
use Rattle.base.proofs.TestLaws.{tests, cond-elim, cond-true, cond-false, false-true}
use Rattle.account.specs.declared.Pending.{Pending}
use Rattle.account.specs.Carry.{set_account}
use Rattle.sporadic.specs.Carry.{cant_carry}
use Rattle.sporadic.specs.Rules.{at_upper}
use Rattle.ready.specs.Word.{occupancy}
use Rattle.ready.proofs.Soundness.{ListsSound}
use Rattle.ready.proofs.SoundLaws.{with_place, sound-same, append-sound, remove-sound, move-sound}
use Rattle.base.proofs.RefusalLaws.{passed}
use Rattle.thread.specs.declared.Thread.{Thread}
use Rattle.state.specs.declared.State.{State}
use Rattle.state.specs.State.{thread_at, pending_at, account_at, place}
use Rattle.thread.specs.Thread.{is_blocked, assigned, place_of, renewed, with_server}
use Rattle.rows.proofs.RowLaws.{row-length}
use Rattle.state.proofs.SoundLaws.{ThreadSound, Sound}
use Rattle.state.proofs.SoundLaws.ThreadSound.{absent, fifo, rr, sporadic}
use Rattle.ticks.specs.Running.{level, head, idles}
use Rattle.records.proofs.PolicyLaws.{by_zero, by_one, by_two}
use Rattle.moments.proofs.ChangeLaws.{with_bound, changed}
use Rattle.moments.proofs.ChargeLaws.{runs}
use Rattle.moments.proofs.FireLaws.{bounds-same}
use Rattle.events.specs.declared.Change.{Change}
use Rattle.events.specs.Events.{change_of, shifted, with_change, concerned, event_change, happened}
use Rattle.events.specs.Answers.{field_status_of, state_status_of, field_status, state_status}
use Rattle.events.proofs.FitLaws.{Fits, block-fits, quantum-fits, wake-fits, renew-fits}

-- a list's priority, or 0 for a place with no thread
abbrev InLists : Bool → ℕ → Type 0
InLists b p = (p ≤ 32) × (b ≡ true → 1 ≤ p)

assigned-range : (start now lo : ℕ) (b : Bool) (t : Thread) (q : Pending) → ThreadSound start now lo b t q → InLists b (assigned t q.count)
assigned-range start now lo b t q (absent n e f) = (omega (arith, ap (λ (x : Thread). assigned x q.count) e), λ z. false-true (sym n ∙ z))
assigned-range start now lo b t q (fifo n z g l v f) = subst⁻¹ (InLists b) (by_zero t.parameters.policy _ _ _ z) (omega (tests, g), λ w. omega (tests, g))
assigned-range start now lo b t q (rr n z g l v f) = subst⁻¹ (InLists b) (by_one t.parameters.policy _ _ _ z) (omega (tests, g), λ w. omega (tests, g))
assigned-range start now lo b t q (sporadic n z g l v) =
    subst⁻¹ (InLists b) (by_two t.parameters.policy _ _ _ z)
    (cond-elim (InLists b) (at_upper t.parameters t.server.capacity q.count) t.parameters.priority t.parameters.low
    (λ e. (omega (tests, g), λ w. omega (tests, g))) (λ e. (omega (tests, g), λ w. omega (tests, g))))

-- thread i leaves the list of its place and joins another, 0 for none
shift-sound : (place : ℕ → ℕ) (word : ℕ) (l : List ℕ) → ListsSound place word l → (i : ℕ) → i < 32 → (p q : ℕ) → place i ≡ p → q ≤ 32
    → ListsSound (with_place place i q) (occupancy (shifted i p q l)) (shifted i p q l)
shift-sound place word l h i m zero zero e f =
    subst (λ (w : ℕ). ListsSound (with_place place i 0) w l) h.agrees (sound-same place (with_place place i 0) word l (λ j n. go j (ℕ_discrete j i)) h)
  where
    go : (j : ℕ) → Dec (j ≡ i) → with_place place i 0 j ≡ place j
    go j (yes z) = cond-true (eqb j i) _ _ (eq-eqb j i z) ∙ sym e ∙ ap place (sym z)
    go j (no z) = cond-false (eqb j i) _ _ (ne_eqb j i z)
shift-sound place word l h i m zero (suc q) e f = append-sound place word l h i m (suc q) (omega arith) f e
shift-sound place word l h i m (suc p) zero e f = remove-sound place word l h i m (suc p) (omega arith) (omega (arith, h.rows.places i m)) e
shift-sound place word l h i m (suc p) (suc q) e f = move-sound place word l h i m (suc p) (suc q) (omega arith) (omega (arith, h.rows.places i m)) e (omega arith) f

-- a change of thread k that a sound state can take
pub record Right (s : State) (k : ℕ) (c : Change) : Type 0 where
  pub small : k < 32
  pub from : c.from ≡ place s k
  pub to : c.to ≡ place_of (with_server c.account.server c.thread) c.account.pending.count
  pub fits : Fits s.header.start s.now (ltb k s.header.n) c.thread c.account
  pub total : c.thread.total ≡ (thread_at s k).total

module _ (s : State) (h : Sound s) where
  -- a thread that is there has an assigned priority
  pub there-some : (i : ℕ) → i < s.header.n → 1 ≤ assigned (thread_at s i) (get_or s.counts i 0)
  there-some i m =
      (assigned-range s.header.start s.now s.now (ltb i s.header.n) (thread_at s i) (pending_at s i) (h.each i (omega (tests, h.sizes)))).1 (lt-ltb i s.header.n m)

  module _ (k : ℕ) (c : Change) (r : Right s k c) where
    pub to-most : c.to ≤ 32
    to-most =
        subst⁻¹ (λ (p : ℕ). p ≤ 32) r.to
        (cond-elim (λ (p : ℕ). p ≤ 32) (is_blocked c.thread) 0 _ (λ e. omega arith) (λ e. (assigned-range _ _ _ _ _ c.account.pending r.fits.sound).0))

    right-sound : Sound (with_change k c s)
    right-sound =
        bounds-same (with_bound (λ j. s.now) k s.now) (λ j. s.now) (with_change k c s)
        (changed (λ j. s.now) s h k r.small c.thread c.account s.now r.fits.dues r.fits.amounts r.fits.sound r.total _
        (subst (λ (p : ℕ). ListsSound (with_place (place s) k p) (occupancy (shifted k c.from c.to s.lists)) (shifted k c.from c.to s.lists)) r.to
        (shift-sound (place s) s.word s.lists h.lists k r.small c.from c.to (sym r.from) to-most)))
        (λ j n. go (eqb j k))
      where
        go : (b : Bool) → s.now ≡ cond b s.now s.now
        go true = refl
        go false = refl

-- ---- an event that is accepted

pub and_both : (a b : Bool) → (a && b) ≡ true → (a ≡ true) × (b ≡ true)
and_both true b e = (refl, e)
and_both false b e = false-true e

module _ (s : State) (h : Sound s) (e : Event) (f : field_status s e ≡ 0) (g : state_status s e ≡ 0) where
  -- what the fields say, at the kind k
  pub fields : (k : ℕ) → e.kind ≡ k → (ltb 4 k ≡ false) × (cond (leb k 2) (not (eqb e.thread 0)) (leb s.header.n e.thread) ≡ false)
      × (cond (eqb k 4) (not (in_range 8 e.parameters && eqb e.parameters.flag 0)) (not (all_zero e.parameters)) ≡ false)
  unfolding field_status_of
  fields k z =
      let a = passed _ 3 _ f in
      let b = passed _ 4 _ a.1 in
      let c = passed _ 5 _ b.1 in (
        subst (λ (x : ℕ). ltb 4 x ≡ false) z a.0,
        subst (λ (x : ℕ). cond (leb x 2) (not (eqb e.thread 0)) (leb s.header.n e.thread) ≡ false) z b.0,
        subst (λ (x : ℕ). cond (eqb x 4) (not (in_range 8 e.parameters && eqb e.parameters.flag 0)) (not (all_zero e.parameters)) ≡ false) z c.0,
      )

  -- whether the account of the thread that it names can't be carried over
  abbrev cannot : Bool
  cannot =
      let t = thread_at s e.thread in
      cant_carry (is_blocked t) t.parameters e.parameters t.server.capacity (get_or s.counts e.thread 0)

  -- and the state, at its time
  pub state : (k : ℕ) → e.kind ≡ k → (cond (eqb k 1) (idles s) (eqb k 2 && idles s) ≡ false) × ((eqb k 3 && not (is_blocked (thread_at s e.thread))) ≡ false)
      × (((eqb k 4 && (ltb 1 (thread_at s e.thread).parameters.policy && ltb 1 e.parameters.policy)) && cannot) ≡ false)
  unfolding state_status_of
  state k z =
      let a = passed _ 6 _ g in
      let b = passed _ 7 _ a.1 in
      let c = passed _ 14 _ b.1 in (
        subst (λ (x : ℕ). cond (eqb x 1) (idles s) (eqb x 2 && idles s) ≡ false) z a.0,
        subst (λ (x : ℕ). (eqb x 3 && not (is_blocked (thread_at s e.thread))) ≡ false) z b.0,
        subst (λ (x : ℕ). ((eqb x 4 && (ltb 1 (thread_at s e.thread).parameters.policy && ltb 1 e.parameters.policy)) && cannot) ≡ false) z c.0,
      )

  -- block and yield: something runs
  pub busy : 0 < e.kind → e.kind ≤ 2 → idles s ≡ false
  busy l m = go e.kind refl l m
    where
      go : (k : ℕ) → e.kind ≡ k → 0 < k → k ≤ 2 → idles s ≡ false
      go zero z l m = absurd (omega arith)
      go (suc zero) z l m = (state 1 z).0
      go (suc (suc zero)) z l m = (state 2 z).0
      go (suc (suc (suc k))) z l m = absurd (omega arith)

  -- the account of a thread, with its two rows
  rows : (i : ℕ) → i < 32 → (length (pending_at s i).dues ≡ 8) × (length (pending_at s i).amounts ≡ 8)
  rows i m = (row-length i s.dues m (omega (tests, h.sizes)), row-length i s.amounts m (omega (tests, h.sizes)))

  pub change-right : 0 < e.kind → Right s (concerned s e) (event_change s e)
  unfolding change_of
  change-right l = go e.kind refl l
    where
      start : ℕ
      start = s.header.start

      named : (k : ℕ) → e.kind ≡ k → leb k 2 ≡ false → e.thread < s.header.n
      named k z q = leb-false s.header.n e.thread (sym (cond-false (leb k 2) _ _ q) ∙ (fields k z).1)

      who : ℕ → ℕ
      who k = cond (leb k 2) (head s) e.thread

      go : (k : ℕ) → e.kind ≡ k → 0 < k → Right s (who k) (change_of k s.now e.parameters (thread_at s (who k)) (account_at s (who k)))
      go zero z l = absurd (omega arith)
      go (suc zero) z l =
          let i = head s in
          let r = runs (λ j. s.now) s h (state 1 z).0 in
          let w = rows i r.small in
          record {
            small = r.small;
            from = refl;
            to = refl;
            fits = block-fits start s.now (ltb i s.header.n) (thread_at s i) (pending_at s i) w.0 w.1 (h.each i r.small) r.awake (level s) r.stands r.range.0;
            total = refl;
          }
      go (suc (suc zero)) z l =
          let i = head s in
          let r = runs (λ j. s.now) s h (state 2 z).0 in
          let w = rows i r.small in
          record {
            small = r.small;
            from = refl;
            to = refl;
            fits = record { dues = w.0; amounts = w.1; sound = quantum-fits start s.now (ltb i s.header.n) (thread_at s i) (pending_at s i) w.0 w.1 (h.each i r.small) };
            total = refl;
          }
      go (suc (suc (suc zero))) z l =
          let i = e.thread in
          let m : i < 32 = omega (tests, h.sizes, named 3 z refl) in
          let w = rows i m in
          record {
            small = m;
            from = refl;
            to = refl;
            fits = wake-fits start s.now (ltb i s.header.n) (thread_at s i) (pending_at s i) w.0 w.1 (h.each i m) (not-false (is_blocked (thread_at s i)) (state 3 z).1) (omega (tests, h.sizes));
            total = refl;
          }
      go (suc (suc (suc (suc zero)))) z l =
          let i = e.thread in
          let p = e.parameters in
          let n : i < s.header.n = named 4 z refl in
          let m : i < 32 = omega (tests, h.sizes) in
          let r = and_both (in_range 8 p) (eqb p.flag 0) (not-false (in_range 8 p && eqb p.flag 0) (fields 4 z).2) in
          let t = thread_at s i in
          let there = lt-ltb i s.header.n n in
          record {
            small = m;
            from = refl;
            to = refl;
            fits = subst⁻¹ (λ (b : Bool). Fits start s.now b (renewed p t) (set_account s.now (is_blocked t) t.parameters p (account_at s i))) there
                (renew-fits start s.now t (pending_at s i) p (subst (λ (b : Bool). ThreadSound start s.now s.now b t (pending_at s i)) there (h.each i m)) (omega (tests, h.sizes)) r.0
                (eqb-true p.flag 0 r.1) (state 4 z).2);
            total = refl;
          }
      go (suc (suc (suc (suc (suc k))))) z l = absurd (omega (arith, ltb-false 4 (suc (suc (suc (suc (suc k))))) (fields (suc (suc (suc (suc (suc k))))) z).0))

  pub happened-sound : Sound (happened s e)
  unfolding happened
  happened-sound =
      cond-elim Sound (eqb e.kind 0) s _ (λ q. h) (λ q. right-sound s h (concerned s e) (event_change s e) (change-right (omega (arith, eqb-false e.kind 0 q))))

-- Time leaves every thread blocked or runnable as it was, so it also leaves whether any thread runs: an event that the state
-- refuses at its time is refused before time passes.
use Prim.Native.Nat.{ℕ, zero, suc, ◌≤◌, ◌<◌}
use mathlib.Core.Bool.{Bool, true, false, cond, ◌&&◌}
use mathlib.Core.Path.{◌≡◌, refl, sym, ap, ap₂, ◌∙◌}
use mathlib.Core.List.{List, [], ◌∷◌}
use lib.ListN.{get_or, set}
use lib.Dec.{eqb, ltb}
use native.Mathlib.Omega.{arith}
use borrow.Author.Tests.{eqb-true, eqb-false, ltb-true}
use Rattle.records.specs.declared.Parameters.{Parameters}
use Rattle.records.specs.declared.Header.{Header}
use Rattle.records.specs.declared.Event.{Event}
use Rattle.base.proofs.TestLaws.{cond-false}
use Rattle.account.specs.declared.Pending.{Pending}
use Rattle.ready.proofs.SoundLaws.{highest-sound, idle}
use Rattle.passing.proofs.TimeLaws.{keeps, sound-advance}
use Rattle.thread.specs.declared.Thread.{Thread}
use Rattle.state.specs.declared.State.{State}
use Rattle.state.specs.State.{thread_at, place}
use Rattle.thread.specs.Thread.{is_blocked, no_thread, assigned}
use Rattle.state.specs.Sound.{sound_state}
use Rattle.state.proofs.SoundLaws.{ThreadSound, Sound, state-out}
use Rattle.state.proofs.SoundLaws.ThreadSound.{absent, fifo, rr, sporadic}
use Rattle.ticks.specs.Running.{level, head, idles}
use Rattle.moments.specs.Moments.{clock, passed}
use Rattle.moments.proofs.FireLaws.{keeps-fire, header-fire}
use Rattle.moments.proofs.ChargeLaws.{runs}
use Rattle.moments.proofs.MomentLaws.{passing}
use Rattle.events.specs.Answers.{carries_over, state_status_of}
use Rattle.events.proofs.EventLaws.{there-some}

-- another thread at one place, with the same part f as the one before it: so has every thread
module _ {A : Type 0} (f : Thread → A) where
  set_same : (ts : List Thread) (i : ℕ) (t : Thread) (k : ℕ) → f t ≡ f (get_or ts i no_thread) → f (get_or (set ts i t) k no_thread) ≡ f (get_or ts k no_thread)
  set_same [] i t k e = refl
  set_same (u ∷ ts) zero t zero e = e
  set_same (u ∷ ts) zero t (suc k) e = refl
  set_same (u ∷ ts) (suc i) t zero e = refl
  set_same (u ∷ ts) (suc i) t (suc k) e = set_same ts i t k e

  -- the same where the change is made in one of two cases
  choose-same : (b : Bool) (ts : List Thread) (i : ℕ) (t : Thread) (k : ℕ) → f t ≡ f (get_or ts i no_thread)
      → f (get_or (cond b ts (set ts i t)) k no_thread) ≡ f (get_or ts k no_thread)
  choose-same true ts i t k e = refl
  choose-same false ts i t k e = set_same ts i t k e

blocked-kept : (s : State) (t k : ℕ) → is_blocked (thread_at (passed s t) k) ≡ is_blocked (thread_at s k)
blocked-kept s t k =
    ap (λ (n : ℕ). ltb 0 n)
    (keeps clock (λ (v : State). (thread_at v k).blocked) (λ n v. choose-same (λ (x : Thread). x.blocked) (idles v) v.threads (head v) _ k refl)
    (keeps-fire (λ (v : State). (thread_at v k).blocked) (λ i o v. set_same (λ (x : Thread). x.blocked) v.threads i _ k refl) (λ p i v. set_same (λ (x : Thread). x.blocked) v.threads i _ k refl)) s t)

parameters-kept : (s : State) (t k : ℕ) → (thread_at (passed s t) k).parameters ≡ (thread_at s k).parameters
parameters-kept s t k =
    keeps clock (λ (v : State). (thread_at v k).parameters) (λ n v. choose-same (λ (x : Thread). x.parameters) (idles v) v.threads (head v) _ k refl)
    (keeps-fire (λ (v : State). (thread_at v k).parameters) (λ i o v. set_same (λ (x : Thread). x.parameters) v.threads i _ k refl) (λ p i v. set_same (λ (x : Thread). x.parameters) v.threads i _ k refl)) s t

-- whether a set carries over is known before time passes
pub carries_kept : (s : State) (e : Event) → carries_over e (thread_at (passed s e.time) e.thread) ≡ carries_over e (thread_at s e.thread)
carries_kept s e = ap (λ (p : Parameters). eqb e.kind 4 && (ltb 1 p.policy && ltb 1 e.parameters.policy)) (parameters-kept s e.time e.thread)

header-kept : (s : State) (t : ℕ) → (passed s t).header ≡ s.header
header-kept s t = keeps clock (λ (v : State). v.header) (λ k v. refl) header-fire s t

-- a thread with an assigned priority is there
is-there : (start now lo : ℕ) (b : Bool) (t : Thread) (q : Pending) → ThreadSound start now lo b t q → 1 ≤ assigned t q.count → b ≡ true
is-there start now lo b t q (absent n e f) l = absurd (omega (arith, ap (λ (x : Thread). assigned x q.count) e))
is-there start now lo b t q (fifo n z g k v f) l = n
is-there start now lo b t q (rr n z g k v f) l = n
is-there start now lo b t q (sporadic n z g k v) l = n

-- a runnable thread that is there has something run
awake-runs : (u : State) → Sound u → (k : ℕ) → k < u.header.n → k < 32 → is_blocked (thread_at u k) ≡ false → idles u ≡ false
awake-runs u h k m l w = go (idles u) refl
  where
    somewhere : 1 ≤ place u k
    somewhere = omega (arith, there-some u h k m, cond-false (is_blocked (thread_at u k)) 0 (assigned (thread_at u k) (get_or u.counts k 0)) w)

    empty : level u ≡ 0 → ⊥
    empty z = by (eqb u.word 0) refl
      where
        by : (b : Bool) → eqb u.word 0 ≡ b → ⊥
        by true e = omega (arith, somewhere, idle (place u) u.word u.lists h.lists (eqb-true u.word 0 e) k l)
        by false e = omega (arith, (highest-sound (place u) u.word u.lists h.lists (eqb-false u.word 0 e)).held.low)

    go : (b : Bool) → idles u ≡ b → idles u ≡ false
    go true e = absurd (empty (eqb-true (level u) 0 e))
    go false e = e

-- of two sound states with the same threads and the same of them blocked: where something runs in one, it does in the other
runs-too : (s u : State) → Sound s → Sound u → u.header.n ≡ s.header.n → ((k : ℕ) → is_blocked (thread_at u k) ≡ is_blocked (thread_at s k)) → idles s ≡ false → idles u ≡ false
runs-too s u a b n f e =
    let r = runs (λ i. s.now) s a e in
    let t = is-there _ _ _ (ltb (head s) s.header.n) (thread_at s (head s)) _ (a.each (head s) r.small) (omega (arith, r.stands, r.range.0)) in
    awake-runs u b (head s) (omega (arith, n, ltb-true (head s) s.header.n t)) r.small (f (head s) ∙ r.awake)

both_ways : (x y : Bool) → (x ≡ false → y ≡ false) → (y ≡ false → x ≡ false) → y ≡ x
both_ways true true f g = refl
both_ways true false f g = sym (g refl)
both_ways false y f g = f refl

-- what the state refuses with 7 or 8 at the event's time it refuses now
pub status-kept : (s : State) (e : Event) → sound_state s ≡ true → s.now ≤ e.time → e.time ≤ 1000000000000000 → (refused : Bool)
    → state_status_of e.kind (idles (passed s e.time)) (is_blocked (thread_at (passed s e.time) e.thread)) refused
    ≡ state_status_of e.kind (idles s) (is_blocked (thread_at s e.thread)) refused
status-kept s e a l m refused =
    let u = passed s e.time in
    let c = state-out u (sound-advance clock passing s e.time a l m) in
    let n = ap (λ (h : Header). h.n) (header-kept s e.time) in
    let f = blocked-kept s e.time in
    ap₂ (λ (x y : Bool). state_status_of e.kind x y refused)
    (both_ways (idles s) (idles u) (runs-too s u (state-out s a) c n f) (runs-too u s c (state-out s a) (sym n) (λ k. sym (f k))))
    (f e.thread)

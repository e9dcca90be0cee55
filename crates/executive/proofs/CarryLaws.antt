-- A turn of an event's loop as it is read; and a set that carries an account over: its status by cases, and where no moment falls up to
-- the event.
use Prim.Native.Nat.{ℕ, ◌-◌, ◌≤◌, ◌<◌}
use mathlib.Core.Bool.{false, cond}
use mathlib.Core.Path.{◌≡◌, refl, sym, ap, ap₂, ◌∙◌}
use mathlib.Core.List.{List}
use lib.ListN.{length, get_or, set}
use lib.Seq.{get_or-set_same, get_or-set_other}
use lib.Dec.{eqb}
use native.Mathlib.Decide.{ℕ_discrete}
use borrow.Author.Tests.{eq-eqb, ne_eqb}
use Rattle.base.proofs.TestLaws.{cond-true, cond-false}
use Rattle.records.specs.declared.Event.{Event}
use Rattle.passing.specs.Time.{due_by}
use Rattle.ready.specs.Lists.{head_of}
use Rattle.thread.specs.declared.Thread.{Thread}
use Rattle.thread.specs.Thread.{no_thread}
use Rattle.state.specs.declared.State.{State}
use Rattle.state.specs.State.{thread_at}
use Rattle.state.proofs.SoundLaws.{Sound}
use Rattle.ticks.specs.Running.{level, ran, earlier, limit_of}
use Rattle.moments.specs.Moments.{passed}
use Rattle.moments.proofs.TurnLaws.{start, first_of}
use Rattle.moments.proofs.AdvanceLaws.{Turn, last}
use Rattle.executive.specs.Private.{carry_status, carry_status_at, ran_up_to}

-- the highest list p, its head h at place i, and the next moment m, for an event at time t
abbrev pub turn_of : (s : State) → Sound s → (t : ℕ) → t ≤ 1000000000000000 → s.now ≤ t → (p h i m : ℕ) → p ≡ level s → h ≡ cond (eqb p 0) 0 (head_of p s.lists) → i ≡ h
    → m ≡ earlier (cond (eqb p 0) 0 (limit_of s.now p (thread_at s i))) (first_of s).due → Turn
turn_of s a t top by p h i m ep eh ei em =
    record {
      origin = s;
      to = t;
      bounded = top;
      state = s;
      going = start s t a by;
      first = first_of s;
      list = p;
      head = h;
      at = i;
      limit = cond (eqb p 0) 0 (limit_of s.now p (thread_at s i));
      moment = m;
      seen = record { first = refl; list = ep; top = eh; at = ei; limit = refl; moment = em };
    }

-- the same where all stand in their places
ran-at : (k p i : ℕ) (ts : List Thread) → i < length ts → (j : ℕ)
    → ran_up_to k p i j (get_or ts j no_thread) ≡ get_or (set ts i (cond (eqb p 0) (get_or ts i no_thread) (ran p k (get_or ts i no_thread)))) j no_thread
ran-at k p i ts l j = go (ℕ_discrete j i)
  where
    w : Thread
    w = cond (eqb p 0) (get_or ts i no_thread) (ran p k (get_or ts i no_thread))

    go : Dec (j ≡ i) → ran_up_to k p i j (get_or ts j no_thread) ≡ get_or (set ts i w) j no_thread
    go (yes e) =
        cond-true (eqb i j) _ _ (eq-eqb i j (sym e))
        ∙ ap (λ (x : ℕ). cond (eqb p 0) (get_or ts x no_thread) (ran p k (get_or ts x no_thread))) e
        ∙ sym (get_or-set_same ts i w no_thread l)
        ∙ ap (λ (x : ℕ). get_or (set ts i w) x no_thread) (sym e)
    go (no d) = cond-false (eqb i j) _ _ (ne_eqb i j (λ e. d (sym e))) ∙ sym (get_or-set_other ts i j w no_thread d)

-- no moment is due by the event's time: the thread that it names as it is then. h is the head, and the named thread stands at n
pub now-status : (r : Turn) → due_by r.moment r.to ≡ false → r.at < length r.state.threads → (e : Event) (n h : ℕ) → n ≡ e.thread → r.at ≡ h
    → carry_status e (ran_up_to (r.to - r.state.now) r.list h e.thread (thread_at r.state n)) (get_or r.state.counts n 0) ≡ carry_status_at (passed r.origin r.to) e
now-status r b l e n h f g =
    let k = r.to - r.state.now in
    ap₂ (λ (x y : ℕ). carry_status e (ran_up_to k r.list x e.thread (thread_at r.state y)) (get_or r.state.counts y 0)) (sym g) f
    ∙ ap (λ (t : Thread). carry_status e t (get_or r.state.counts e.thread 0)) (ran-at k r.list r.at r.state.threads l e.thread)
    ∙ ap (λ (x : State). carry_status_at x e) (last r b _ _ refl refl)

-- An event and those of a file after it: how each stands between the turns of the loop, and which is the last.
use Prim.Native.Nat.{ℕ, zero, suc, ◌+◌, ◌*◌, ◌-◌, ◌≤◌, ◌<◌}
use mathlib.Core.Bool.{Bool, true, false, cond}
use mathlib.Core.List.{List, [], ◌∷◌}
use mathlib.Core.Path.{◌≡◌, refl, sym, ap, ◌∙◌, subst, subst⁻¹}
use native.Mathlib.Omega.{arith}
use mir.Syntax.{w64}
use mir.Val.{Fits}
use lib.ListN.{replicate}
use lib.Dec.{eqb}
use borrow.Author.Tests.{eq-eqb, ne_eqb}
use Rattle.base.proofs.TestLaws.{cond-true, cond-false, false-true}
use Rattle.records.specs.declared.Event.{Event}
use Rattle.passing.specs.Sequence.{Answer}
use Rattle.passing.specs.Time.{due_by}
use Rattle.ready.specs.Lists.{head_of}
use Rattle.records.specs.Kinds.{by_kind}
use Rattle.thread.specs.declared.Thread.{Thread}
use Rattle.thread.specs.Thread.{is_blocked}
use Rattle.state.specs.declared.State.{State}
use Rattle.state.specs.State.{thread_at}
use Rattle.state.specs.Sound.{sound_state}
use Rattle.ticks.specs.Running.{level, running, next}
use Rattle.moments.specs.Moments.{passed}
use Rattle.moments.specs.Reports.{reported}
use Rattle.reports.specs.Tallies.{numbers}
use Rattle.events.specs.Answers.{carries_over}
use Rattle.events.specs.Reports.{own_back}
use Rattle.answers.specs.Answer.{answered}
use Rattle.std.proofs.Common.{Option, Some, None}
use Rattle.trace_reader.specs.Reader.{next_at, events_from}
use Rattle.trace_reader.proofs.ReaderLaws.{from-event, from-none, from_end}
use Rattle.executive.specs.declared.statuses.Stand.{Stand}
use Rattle.executive.specs.Private.{sound_status, stand_of, settled_of, after_moments, carry_status_at, following_of}
use Rattle.executive.specs.Steps.{Given, last_given, answer_to, numbers_of}
use Rattle.executive.proofs.StepLaws.{Stage, weight, due-later, starts, judged, carries}

-- who runs, by the highest list p and its head h
pub runs-is : (s : State) (p h : ℕ) → p ≡ level s → h ≡ cond (eqb p 0) 0 (head_of p s.lists) → cond (eqb p 0) 255 h ≡ running s
runs-is s p h e f =
    ap (λ (x : ℕ). cond {A = ℕ} (eqb p 0) 255 x) f ∙ same (eqb p 0) (head_of p s.lists) ∙ ap (λ (x : ℕ). cond {A = ℕ} (eqb x 0) 255 (head_of x s.lists)) e
  where
    same : (b : Bool) (x : ℕ) → cond {A = ℕ} b 255 (cond b 0 x) ≡ cond b 255 x
    same true x = refl
    same false x = refl

-- ---- what tells nothing

pub own-none : (kind time : ℕ) (t : Thread) → (kind ≡ 1 → ⊥) → own_back kind time t ≡ 0
own-none kind time t n = none kind _ n
  where
    none : (k x : ℕ) → (k ≡ 1 → ⊥) → by_kind {A = ℕ} k 0 x 0 0 0 ≡ 0
    none zero x d = refl
    none (suc zero) x d = absurd (d refl)
    none (suc (suc zero)) x d = refl
    none (suc (suc (suc zero))) x d = refl
    none (suc (suc (suc (suc k)))) x d = refl

-- ---- numbers alone: with a state of the code in scope omega would read all that is known there

pub fits : (i : ℕ) → i < 32 → Fits w64 (i * 72)
fits i l = omega (arith, l)

-- the ticks up to an event, and the events left
pub same_left : (left : ℕ) {n m : ℕ} → n < m → left * 2000000000000000 + n < left * 2000000000000000 + m
same_left left l = omega (arith, l)

pub less-left : (left n m : ℕ) → 0 < left → n < 2000000000000000 → (left - 1) * 2000000000000000 + n < left * 2000000000000000 + m
less-left left n m l h = omega (arith, l, h)

-- ---- the event after

module _ (file : List ℕ) (offset : ℕ) where
  less : (k : ℕ) (f : Event) (after : ℕ) → f ∷ events_from file after k ≡ f ∷ events_from file after (suc k - 1)
  less k f after = let y : k ≡ suc k - 1 = omega arith in ap (λ (m : ℕ). f ∷ events_from file after m) y

  -- with no event left there is none, and else the reader's is the first
  none-left : following_of file offset 0 ≡ None
  none-left = cond-true (eqb 0 0) None (next_at file offset) (eq-eqb 0 0 refl)

  some-left : (k : ℕ) → following_of file offset (suc k) ≡ next_at file offset
  some-left k = cond-false (eqb (suc k) 0) None (next_at file offset) (ne_eqb (suc k) 0 (λ z. omega (arith, z)))

  pub follows-one : (left : ℕ) (f : Event) (after : ℕ) → following_of file offset left ≡ Some (f, after)
      → (0 < left) × (events_from file offset left ≡ f ∷ events_from file after (left - 1))
  follows-one zero f after z = let w : ◌≡◌ {A = Option (Event × ℕ)} None (Some (f, after)) = sym none-left ∙ z in absurd (cc)
  follows-one (suc k) f after z = (omega arith, from-event file offset f after k (sym (some-left k) ∙ z) ∙ less k f after)

  pub follows-none : (left : ℕ) → following_of file offset left ≡ None → events_from file offset left ≡ []
  follows-none zero z = from-none file offset
  follows-none (suc k) z = from_end file offset (suc k) (sym (some-left k) ∙ z)

-- ---- how an event stands

-- the stage at which an event stands so
abbrev pub At : State → Event → Stand → State → List ℕ → Type 0
At s₀ e k s told = Stage s₀ e k.status s told k.done k.judging

-- it is judged before time passes; i is the place of the thread that it names
pub begins : (s : State) (e : Event) → sound_state s ≡ true → (i : ℕ) → (e.thread < 32 → i ≡ e.thread) → (k : Stand)
    → k ≡ stand_of (sound_status s.header.n s.now s.word (is_blocked (thread_at s i)) e) (carries_over e (thread_at s i)) → (told : List ℕ) → told ≡ replicate 128 0 → At s e k s told
begins s e a i f k z told t =
    subst⁻¹ (λ (x : List ℕ). At s e k s x) t (subst⁻¹ (λ (x : Stand). At s e x s (replicate 128 0)) z (starts s e a i f _ refl _ refl))

-- an event that is still to come
pub record Coming (s : State) (e : Event) : Type 0 where
  pub sound : sound_state s ≡ true
  pub by : s.now ≤ e.time
  pub top : e.time ≤ 1000000000000000
  pub near : e.time ≤ s.now + 1000000

module _ (s₀ : State) (e : Event) (k : Stand) (s : State) (told : List ℕ) (h : At s₀ e k s told) (n : k.done ≡ false) where
  pub coming : Coming s e
  coming = go k.judging refl
    where
      go : (j : Bool) → k.judging ≡ j → Coming s e
      go true j =
          let m = h.judges n j in
          subst⁻¹ (λ (x : State). Coming x e) m.0 (record { sound = m.2.sound; by = m.2.by; top = m.2.top; near = m.2.near })
      go false j = let o = (h.going n j).1 in record { sound = o.sound; by = o.by; top = o.top; near = o.near }

  module _ (d : due_by (next s) e.time ≡ true) where
    -- a moment that is due is after now, and nothing is told yet
    pub before : s.now < e.time
    before = due-later s e coming.sound d

    pub untold : told ≡ replicate 128 0
    untold = go k.judging refl
      where
        go : (j : Bool) → k.judging ≡ j → told ≡ replicate 128 0
        go true j = (h.judges n j).1
        go false j = ((h.going n j).2.early before).1

  -- at its time, in state u
  module _ (u : State) (f : u ≡ passed s e.time) (r : Stand) (z : r ≡ cond k.judging (settled_of (carry_status_at u e) false) (after_moments k)) where
    abbrev Settled : Type 0
    Settled = At s₀ e r s told × (r.judging ≡ false) × (r.done ≡ true → k.judging ≡ true) × (r.quiet ≡ false)

    -- 15 is judged, where it is to be
    pub settles : Settled
    settles = go k.judging refl
      where
        go : (j : Bool) → k.judging ≡ j → Settled
        go true j =
            let y = z ∙ cond-true k.judging _ (after_moments k) j in (
              subst⁻¹ (λ (x : Stand). At s₀ e x s told) y (judged s₀ s e told (h.judges n j) _ (ap (λ (x : State). carry_status_at x e) f)),
              ap (λ (x : Stand). x.judging) y,
              λ q. j,
              ap (λ (x : Stand). x.quiet) y,
            )
        go false j =
            let y = z ∙ cond-false k.judging _ (after_moments k) j in (
              subst⁻¹ (λ (x : Stand). At s₀ e x s told) y (subst (λ (b : Bool). Stage s₀ e k.status s told k.done b) j h),
              ap (λ (x : Stand). x.judging) y,
              λ q. false-true (sym n ∙ ap (λ (x : Stand). x.done) (sym y) ∙ q),
              ap (λ (x : Stand). x.quiet) y,
            )

    -- and where the event is not refused, time has passed
    pub passes : due_by (next s) e.time ≡ true → r.done ≡ false → (told' : List ℕ) → told' ≡ numbers (reported s e.time) → At s₀ e r u told'
    passes d m told' t =
        let y = settles in
        let g = y.0.going m y.1 in
        carries s₀ e r.status s g.0 g.1 u f r.judging told told' g.2 (before d) t r.done m y.1

-- what is left of the ticks up to an event
pub bounded : (s₀ : State) (e : Event) (k : Stand) (s : State) (told : List ℕ) → At s₀ e k s told → weight k.done k.judging (e.time - s.now) < 2000000000000000
bounded s₀ e k s told h = go k.done refl
  where
    small : (j : Bool) → cond {A = ℕ} j 1 0 ≤ 1
    small true = omega arith
    small false = omega arith

    go : (d : Bool) → k.done ≡ d → weight d k.judging (e.time - s.now) < 2000000000000000
    go true n = omega (arith, small k.judging)
    go false n = omega (arith, small k.judging, (coming s₀ e k s told h n).top)

-- ---- the events one after another

-- the last of all is the last from here on
pub record Running (file : List ℕ) (last : Given) (e : Event) (offset left : ℕ) (k : Stand) (s : State) (told : List ℕ) : Type 0 where
  pub origin : State
  pub stage : At origin e k s told
  pub same : last_given origin e (events_from file offset left) ≡ last
  -- without a moment only a block tells something
  pub silent : k.quiet ≡ true → (e.kind ≡ 1 → ⊥) → told ≡ replicate 128 0

module _ (file : List ℕ) (last : Given) (e : Event) (offset left : ℕ) (k : Stand) (s : State) (told : List ℕ) (h : Running file last e offset left k s told) where
  module _ (n : k.done ≡ true) where
    -- the next one begins
    pub nexts : (f : Event) (after : ℕ) → following_of file offset left ≡ Some (f, after) → (k' : Stand) (told' : List ℕ) → At s f k' s told' → told' ≡ replicate 128 0
        → Running file last f after (left - 1) k' s told'
    unfolding last_given
    nexts f after z k' told' g t =
        record {
          origin = s;
          stage = g;
          same = ap (λ (x : State). last_given x f (events_from file after (left - 1))) (ap (λ (x : Answer State). x.state) (h.stage.ended n).0)
              ∙ sym (ap (last_given h.origin e) (follows-one file offset left f after z).1)
              ∙ h.same;
          silent = λ _ _. t;
        }

    -- or this was the last
    pub lasts : following_of file offset left ≡ None → (answered k.status s ≡ answer_to last) × (told ≡ numbers_of last)
    unfolding last_given
    lasts z =
        let y = sym (ap (last_given h.origin e) (follows-none file offset left z)) ∙ h.same in (
          (h.stage.ended n).0 ∙ ap answer_to y,
          (h.stage.ended n).1 ∙ ap numbers_of y,
        )

-- no event after it
pub single : (s : State) (e : Event) (file : List ℕ) (offset : ℕ) → last_given s e (events_from file offset 0) ≡ record { state = s; event = e }
unfolding last_given
single s e file offset = ap (last_given s e) (from-none file offset)

-- of a state that is not sound only one event is answered
pub alone : (known : Bool) (s : State) (e : Event) (file : List ℕ) (offset left : ℕ) → (known ≡ true → sound_state s ≡ true) → sound_state s ≡ false → (known ≡ false → left ≡ 0)
    → record { state = s; event = e } ≡ last_given s e (events_from file offset left)
unfolding last_given
alone true s e file offset left a f z = false-true (sym f ∙ a refl)
alone false s e file offset left a f z = sym (ap (λ (n : ℕ). last_given s e (events_from file offset n)) (z refl) ∙ single s e file offset)

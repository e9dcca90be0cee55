-- The answer to an event, from its status to the state at its time and what it does there.
use Prim.Native.Nat.{ℕ, zero, suc, ◌+◌, ◌-◌, ◌≤◌, ◌<◌}
use mathlib.Core.Bool.{Bool, true, false, cond, not, ◌&&◌}
use mathlib.Core.Path.{◌≡◌, refl, sym, ap, ◌∙◌, subst⁻¹}
use mathlib.Core.List.{List, [], ◌∷◌}
use lib.ListN.{get_or, replicate}
use lib.Dec.{ltb, eqb}
use native.Mathlib.Omega.{arith}
use native.Mathlib.Decide.{ℕ_discrete}
use borrow.Author.Tests.{ne_eqb, eqb-true, eqb-false, not-true, not-false}
use Rattle.records.specs.declared.Event.{Event}
use Rattle.records.specs.Ranges.{last_time, longest_step}
use Rattle.base.proofs.TestLaws.{tests, cond-false, false-true}
use Rattle.base.specs.Refusals.{first_refusal, given}
use Rattle.passing.specs.Sequence.{status, refused, answer}
use Rattle.passing.specs.Time.{due_by}
use Rattle.passing.proofs.TimeLaws.{due-true, sound-advance, now-advance, advance-advance}
use Rattle.passing.proofs.SequenceLaws.{acceptable, answer-accepted, answer-refused, unsound-status, unsound-answer}
use Rattle.base.proofs.RefusalLaws as refusals
use Rattle.base.proofs.RefusalLaws.{past, given-zero, given-first, given-second, given-last, given-passed, status-at-most}
use Rattle.state.specs.declared.State.{State}
use Rattle.state.specs.State.{thread_at}
use Rattle.thread.specs.Thread.{is_blocked}
use Rattle.sporadic.specs.Carry.{cant_carry}
use Rattle.state.specs.Sound.{sound_state}
use Rattle.state.proofs.SoundLaws.{state-in, state-out}
use Rattle.ticks.specs.Running.{running, next, idles}
use Rattle.reports.specs.Tallies.{numbers}
use Rattle.moments.specs.Moments.{clock, passed}
use Rattle.moments.specs.Reports.{reported}
use Rattle.moments.proofs.ChargeLaws as moments
use Rattle.moments.proofs.MomentLaws.{passing}
use Rattle.events.specs.Events.{happened}
use Rattle.events.specs.Answers.{field_status, carries_over, refuses_carry, state_status_of, state_status, executive}
use Rattle.events.proofs.EventLaws.{happened-sound}
use Rattle.events.specs.Reports.{event_numbers}
use Rattle.events.proofs.DemandLaws.{field-passed}
use Rattle.events.proofs.ReportLaws.{refused-tells-zeros}
use Rattle.answers.specs.Answer.{answered, unread}
use Rattle.executive.specs.Private.{time_status, early_status, sound_status, carry_status_at}
use Rattle.executive.proofs.StatusLaws.{time-zero, early-small, state-small, early-zero, thread-small, allows-first, allows-last}
use Rattle.executive.proofs.KeptLaws.{carries_kept, status-kept}
use Rattle.executive.proofs.ToldLaws.{Told, told-start, told-passed}

-- a refusal by the time comes before one by the state
by-time : (d : ℕ) (a b c : Bool) → (first_refusal ((a, 3) ∷ (b, 1) ∷ (c, 2) ∷ []) ≡ 0 → ⊥)
    → first_refusal ((a, 3) ∷ (b, 1) ∷ (c, 2) ∷ given d ∷ []) ≡ first_refusal ((a, 3) ∷ (b, 1) ∷ (c, 2) ∷ [])
unfolding first_refusal
by-time d true b c m = refl
by-time d false true c m = refl
by-time d false false true m = refl
by-time d false false false m = absurd (m refl)

-- the first of the statuses, where the state is sound: x that it isn't; f by the fields; a, b, c by the time; d by the state
module _ (x : Bool) (f : ℕ) (a b c : Bool) (d : ℕ) (e : x ≡ false) where
  abbrev by_time : ℕ
  by_time = first_refusal ((a, 3) ∷ (b, 1) ∷ (c, 2) ∷ [])

  abbrev all : ℕ
  all = first_refusal ((x, 9) ∷ given f ∷ (a, 3) ∷ (b, 1) ∷ (c, 2) ∷ given d ∷ [])

  first-early : (first_refusal (given f ∷ given by_time ∷ []) ≡ 0 → ⊥) → all ≡ first_refusal (given f ∷ given by_time ∷ [])
  first-early n = past x 9 (given f ∷ rest) e ∙ go (ℕ_discrete f 0)
    where
      rest : List (Bool × ℕ)
      rest = (a, 3) ∷ (b, 1) ∷ (c, 2) ∷ given d ∷ []

      go : Dec (f ≡ 0) → first_refusal (given f ∷ rest) ≡ first_refusal (given f ∷ given by_time ∷ [])
      go (yes z) = given-zero f rest z ∙ by-time d a b c (λ y. n (given-second f by_time z ∙ y)) ∙ sym (given-second f by_time z)
      go (no m) = given-first f rest m ∙ sym (given-first f (given by_time ∷ []) m)

  first-late : f ≡ 0 → by_time ≡ 0 → all ≡ d
  first-late z g =
      let p = refusals.passed a 2 _ g in
      let q = refusals.passed b 0 _ p.1 in
      past x 9 _ e ∙ given-zero f _ z ∙ past a 3 _ p.0 ∙ past b 1 _ q.0 ∙ past c 2 _ (refusals.passed c 1 _ q.1).0 ∙ given-last d

-- a refusal by any number but 9
returned-refused : (n : ℕ) (s : State) → (n ≡ 9 → ⊥) → refused executive n s ≡ answered n s
returned-refused n s d =
    λ x. record {
      status = n;
      running = cond-false (eqb n 9) 255 (running s) (ne_eqb n 9 d) x;
      next = cond-false (eqb n 9) 0 (next s) (ne_eqb n 9 d) x;
      state = s;
    }

pub unsound-is : (s : State) (e : Event) → sound_state s ≡ false → unread 9 s ≡ answer executive s e
unsound-is s e a = sym (unsound-answer executive s a e)

pub unsound-told : (s : State) (e : Event) → sound_state s ≡ false → replicate 128 0 ≡ event_numbers s e
unsound-told s e a = sym (refused-tells-zeros s e (omega (arith, unsound-status executive s a e)))

-- an event that is accepted from s₀, when time has come to s
pub record Open (s₀ : State) (e : Event) (s : State) : Type 0 where
  pub sound : sound_state s ≡ true
  pub by : s.now ≤ e.time
  pub top : e.time ≤ 1000000000000000
  pub near : e.time ≤ s.now + 1000000
  pub fields : field_status s e ≡ 0
  pub allows : state_status (passed s e.time) e ≡ 0
  pub accepted : status executive s₀ e ≡ 0
  pub same : answered 0 (happened (passed s e.time) e) ≡ answer executive s₀ e

-- a set of which all is judged but 15, before time passes
pub record Judges (s : State) (e : Event) : Type 0 where
  pub sound : sound_state s ≡ true
  pub by : s.now ≤ e.time
  pub top : e.time ≤ 1000000000000000
  pub near : e.time ≤ s.now + 1000000
  pub there : e.thread < 32
  pub late : status executive s e ≡ carry_status_at (passed s e.time) e

-- what holds between the turns of an event's loop
pub record Stage (s₀ : State) (e : Event) (status : ℕ) (s : State) (told : List ℕ) (done judging : Bool) : Type 0 where
  pub sound : sound_state s ≡ true
  pub ended : done ≡ true → (answered status s ≡ answer executive s₀ e) × (told ≡ event_numbers s₀ e)
  pub going : done ≡ false → judging ≡ false → (status ≡ 0) × Open s₀ e s × Told s₀ e.time s told
  pub judges : done ≡ false → judging ≡ true → (s ≡ s₀) × (told ≡ replicate 128 0) × Judges s₀ e

module _ (s : State) (e : Event) (a : sound_state s ≡ true) where
  refused-is : (n : ℕ) → status executive s e ≡ n → 0 < n → (n ≡ 9 → ⊥) → answered n s ≡ answer executive s e
  refused-is n z l d = sym (returned-refused n s d) ∙ sym (answer-refused executive s e n z l)

  refused-told : (n : ℕ) → status executive s e ≡ n → 0 < n → replicate 128 0 ≡ event_numbers s e
  refused-told n z l = sym (refused-tells-zeros s e (omega (arith, z, l)))

  -- an event that is accepted, before time passes
  opens : status executive s e ≡ 0 → Open s e s
  opens z =
      let c = acceptable executive s e z in
      record {
        sound = a;
        by = c.after;
        top = c.in_range;
        near = c.near;
        fields = c.fields;
        allows = c.state;
        accepted = z;
        same = sym (answer-accepted executive s e z);
      }

  -- an event that is judged whole, before time passes
  settles : (k : ℕ) → status executive s e ≡ k → (k ≡ 9 → ⊥) → Stage s e k s (replicate 128 0) (not (eqb k 0)) false
  settles k z d =
      record {
        sound = a;
        ended = λ q. let l : 0 < k = omega (arith, eqb-false k 0 (not-true (eqb k 0) q)) in (refused-is k z l d, refused-told k z l);
        going = λ q _.
            let y = eqb-true k 0 (not-false (eqb k 0) q) in
            let o = opens (z ∙ y) in
            (y, o, told-start s e.time (state-out s a) o.by o.near o.top);
        judges = λ q j. false-true j;
      }

  abbrev early : ℕ
  early = early_status s.header.n s.now e

  status-early : (early ≡ 0 → ⊥) → status executive s e ≡ early
  unfolding status time_status
  status-early d =
      first-early (not (sound_state s)) (field_status s e) (ltb last_time e.time) (ltb e.time s.now) (ltb (s.now + longest_step) e.time) (state_status (passed s e.time) e)
      (ap not a) d

  module _ (z : early ≡ 0) where
    times : (s.now ≤ e.time) × (e.time ≤ 1000000000000000) × (e.time ≤ s.now + 1000000)
    times = time-zero s.now e.time (early-zero s.header.n s.now e z).1

    there : e.thread < 32
    there = thread-small s.header.n e (omega (tests, (state-out s a).sizes)) (early-zero s.header.n s.now e z).0

    -- at the event's time, where 7 and 8 are as they were
    status-late : status executive s e
        ≡ state_status_of e.kind (idles s) (is_blocked (thread_at s e.thread))
        (refuses_carry e (thread_at (passed s e.time) e.thread) (get_or (passed s e.time).counts e.thread 0))
    unfolding status time_status
    status-late =
        first-late (not (sound_state s)) (field_status s e) (ltb last_time e.time) (ltb e.time s.now) (ltb (s.now + longest_step) e.time) (state_status (passed s e.time) e)
        (ap not a) (early-zero s.header.n s.now e z).0 (early-zero s.header.n s.now e z).1
        ∙ status-kept s e a times.0 times.1 _

  -- the status that is found before time passes; i is the place of the thread that the event names
  module _ (i : ℕ) (f : e.thread < 32 → i ≡ e.thread) (k : ℕ) (is : k ≡ sound_status s.header.n s.now s.word (is_blocked (thread_at s i)) e) where
    abbrev late : ℕ
    late = state_status_of e.kind (idles s) (is_blocked (thread_at s i)) false

    named : early ≡ 0 → state_status_of e.kind (idles s) (is_blocked (thread_at s e.thread)) false ≡ late
    named z = ap (λ (j : ℕ). state_status_of e.kind (idles s) (is_blocked (thread_at s j)) false) (sym (f (there z)))

    -- refused
    refused-by : (k ≡ 0 → ⊥) → status executive s e ≡ k
    refused-by d = go early refl
      where
        go : (x : ℕ) → early ≡ x → status executive s e ≡ k
        go zero z =
            let y = named z ∙ sym (given-second early late z) ∙ sym is in
            status-late z ∙ allows-first e.kind (idles s) (is_blocked (thread_at s e.thread)) _ (λ q. d (sym y ∙ q)) ∙ y
        go (suc x) z = let n : early ≡ 0 → ⊥ = λ y. omega arith in status-early n ∙ sym (given-first early _ n) ∙ sym is

    small : k ≡ 9 → ⊥
    small z =
        omega (arith, z, is, status-at-most 8 (given early ∷ given late ∷ []) (omega (arith, early-small s.header.n s.now e), (state-small e.kind (idles s) (is_blocked (thread_at s i)), tt)))

    -- nothing but 15 is left to judge
    begins : k ≡ 0 → Judges s e
    begins y =
        let b = given-passed early _ (sym is ∙ y) in
        let z = b.0 in
        record {
          sound = a;
          by = (times z).0;
          top = (times z).1;
          near = (times z).2;
          there = there z;
          late = status-late z ∙ allows-last e.kind (idles s) (is_blocked (thread_at s e.thread)) _ (named z ∙ (given-passed late _ b.1).0);
        }

    -- where the set doesn't carry over, it is accepted
    kept-zero : (k ≡ 0) → carries_over e (thread_at s i) ≡ false → status executive s e ≡ k
    kept-zero y c =
        let j = begins y in
        let t = thread_at (passed s e.time) e.thread in
        let n = carries_kept s e ∙ ap (λ (x : ℕ). carries_over e (thread_at s x)) (sym (f j.there)) ∙ c in
        j.late
        ∙ ap (λ (x : Bool). cond {A = ℕ} (x && cant_carry (is_blocked t) t.parameters e.parameters t.server.capacity (get_or (passed s e.time).counts e.thread 0)) 15 0) n
        ∙ sym y

    pub starts : (judging : Bool) → judging ≡ carries_over e (thread_at s i) → Stage s e k s (replicate 128 0) (not (eqb k 0)) judging
    starts judging w =
        record {
          sound = a;
          ended = λ q. let d = eqb-false k 0 (not-true (eqb k 0) q) in (settles k (refused-by d) small).ended q;
          going = λ q j. let y = eqb-true k 0 (not-false (eqb k 0) q) in (settles k (kept-zero y (sym w ∙ j)) small).going q refl;
          judges = λ q j. (refl, refl, begins (eqb-true k 0 (not-false (eqb k 0) q)));
        }

-- ---- what falls with each turn: whether 15 is to be judged, whether the event is still to come, then the ticks up to it

abbrev pub weight : Bool → Bool → ℕ → ℕ
weight done judging n = cond done 0 (suc n) + cond judging 1 0

-- the event is answered
pub turn-ends : (done judging done' judging' : Bool) (n m : ℕ) → done ≡ false → done' ≡ true → (judging' ≡ true → judging ≡ true) → weight done' judging' m < weight done judging n
turn-ends true judging done' judging' n m e f g = false-true (sym e)
turn-ends false judging false judging' n m e f g = false-true f
turn-ends false judging true false n m e f g = omega arith
turn-ends false true true true n m e f g = omega arith
turn-ends false false true true n m e f g = false-true (g refl)

-- its time has come, and 15 is judged
pub turn-passes : (done judging done' judging' : Bool) (t n m : ℕ) → done ≡ false → done' ≡ false → judging' ≡ false → n < t → m ≡ t
    → weight done' judging' (t - m) < weight done judging (t - n)
turn-passes true judging done' judging' t n m e f g l q = false-true (sym e)
turn-passes false judging true judging' t n m e f g l q = false-true (sym f)
turn-passes false judging false true t n m e f g l q = false-true (sym g)
turn-passes false judging false false t n m e f g l q = omega arith

-- 15 is judged
pub turn-judges : (done judging done' judging' : Bool) (n : ℕ) → done ≡ false → judging ≡ true → judging' ≡ false → weight done' judging' n < weight done judging n
turn-judges true judging done' judging' n e f g = false-true (sym e)
turn-judges false false done' judging' n e f g = false-true f
turn-judges false true done' true n e f g = false-true (sym g)
turn-judges false true true false n e f g = omega arith
turn-judges false true false false n e f g = omega arith

-- ---- a set that carries an account over is judged

not-nine : (b : Bool) → cond {A = ℕ} b 15 0 ≡ 9 → ⊥
not-nine true e = omega (arith, e)
not-nine false e = omega (arith, e)

pub judged : (s₀ s : State) (e : Event) (told : List ℕ) → (s ≡ s₀) × (told ≡ replicate 128 0) × Judges s₀ e → (k : ℕ) → k ≡ carry_status_at (passed s e.time) e
    → Stage s₀ e k s told (not (eqb k 0)) false
judged s₀ s e told h k f =
    subst⁻¹ (λ (xs : List ℕ). Stage s₀ e k s xs (not (eqb k 0)) false) h.1
    (subst⁻¹ (λ (x : State). Stage s₀ e k x (replicate 128 0) (not (eqb k 0)) false) h.0
    (settles s₀ e h.2.sound k (h.2.late ∙ sym is) (λ z. not-nine (refuses_carry e (thread_at u e.thread) (get_or u.counts e.thread 0)) (sym is ∙ z))))
  where
    u : State
    u = passed s₀ e.time

    is : k ≡ carry_status_at (passed s₀ e.time) e
    is = f ∙ ap (λ (x : State). carry_status_at (passed x e.time) e) h.0

-- ---- an accepted event on its way

-- a moment that is due is after now
pub due-later : (s : State) (e : Event) → sound_state s ≡ true → due_by (next s) e.time ≡ true → s.now < e.time
due-later s e a d = let y = due-true (next s) e.time d in omega (arith, y.1, moments.later s (state-out s a) y.0)

module _ (s₀ : State) (e : Event) (s : State) (o : Open s₀ e s) where
  -- the state at the event's time
  module _ (u : State) (f : u ≡ passed s e.time) where
    pub at-time : u.now ≡ e.time
    at-time = ap (λ (x : State). x.now) f ∙ now-advance clock passing s e.time o.sound o.by o.top

    passes : passed u e.time ≡ passed s e.time
    passes = ap (λ (x : State). passed x e.time) f ∙ advance-advance clock passing s e.time e.time o.sound o.by (omega arith) o.top

    pub arrives : Open s₀ e u
    arrives =
        record {
          sound = subst⁻¹ (λ (x : State). sound_state x ≡ true) f (sound-advance clock passing s e.time o.sound o.by o.top);
          by = omega (arith, at-time);
          top = o.top;
          near = omega (arith, at-time);
          fields = ap (λ (x : State). field_status x e) f ∙ field-passed s e ∙ o.fields;
          allows = ap (λ (x : State). state_status x e) passes ∙ o.allows;
          accepted = o.accepted;
          same = ap (λ (x : State). answered 0 (happened x e)) passes ∙ o.same;
        }

    -- it is allowed there
    pub allowed : state_status u e ≡ 0
    allowed = ap (λ (x : State). state_status x e) f ∙ o.allows

    -- what the event does there
    module _ (r : State) (g : r ≡ happened u e) where
      done-sound : sound_state r ≡ true
      done-sound =
          let l = arrives in
          subst⁻¹ (λ (x : State). sound_state x ≡ true) g (state-in (happened u e) (happened-sound u (state-out u l.sound) e l.fields allowed))

      done-is : answered 0 r ≡ answer executive s₀ e
      done-is = ap (answered 0) (g ∙ ap (λ (x : State). happened x e) f) ∙ o.same

-- ---- the turns of an event's loop

module _ (s₀ : State) (e : Event) (k : ℕ) (s : State) (z : k ≡ 0) (o : Open s₀ e s) (u : State) (f : u ≡ passed s e.time) (judging : Bool) where
  -- time has passed
  pub carries : (told told' : List ℕ) → Told s₀ e.time s told → s.now < e.time → told' ≡ numbers (reported s e.time) → (done : Bool) → done ≡ false → judging ≡ false
      → Stage s₀ e k u told' done judging
  carries told told' h l m done n j =
      record {
        sound = (arrives s₀ e s o u f).sound;
        ended = λ q. false-true (sym n ∙ q);
        going = λ q _. (z, arrives s₀ e s o u f, told-passed s₀ s u e.time told told' h l (at-time s₀ e s o u f) (passes s₀ e s o u f) m);
        judges = λ q b. false-true (sym j ∙ b);
      }

  -- the event has done what it does
  pub finishes : (told : List ℕ) → told ≡ event_numbers s₀ e → (r : State) → r ≡ happened u e → Stage s₀ e k r told true judging
  finishes told m r g =
      record {
        sound = done-sound s₀ e s o u f r g;
        ended = λ q. (ap (λ (n : ℕ). answered n r) z ∙ done-is s₀ e s o u f r g, m);
        going = λ q. false-true (sym q);
        judges = λ q. false-true (sym q);
      }

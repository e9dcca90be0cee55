-- What happens at a moment, in place: the end of a quantum, a limit, and what is due.
use Prim.Native.Nat.{ℕ, ◌+◌, ◌-◌, ◌≤◌, ◌<◌}
use mathlib.Core.Bool.{Bool, true, false, cond, ◌&&◌}
use mathlib.Core.Path.{◌≡◌, refl, sym, ap, ◌∙◌}
use mathlib.Core.List.{List}
use lib.ListN.{get_or}
use lib.Seq.{get_or-set_same}
use lib.Dec.{ltb, eqb}
use native.Mathlib.Omega.{arith}
use native.Mathlib.Decide.{ℕ_discrete}
use borrow.Author.Tests.{eq-eqb, ltb-true}
use Rattle.records.specs.declared.Parameters.{Parameters}
use Rattle.base.proofs.TestLaws.{tests, All, cond-true, cond-false}
use Rattle.sporadic.specs.declared.Server.{Server}
use Rattle.account.specs.declared.Pending.{Pending}
use Rattle.sporadic.specs.declared.Effect.{Effect}
use Rattle.sporadic.specs.declared.Place.{Place}
use Rattle.sporadic.specs.declared.Place.TheVariants.{Stays, Low, LowThenUpper, Upper}
use Rattle.account.specs.Account.{is_upper}
use Rattle.sporadic.specs.Rules.{at_upper, charged, limit_effect, return_effect}
use Rattle.account.specs.Rules.{Schedulable, return_first}
use Rattle.sporadic.proofs.EffectLaws.{limit-elim, at-limit-elim, return-elim}
use Rattle.account.specs.Sound.{runs_upper}
use Rattle.account_laws.proofs.SoundLaws.{AccountSound, upper-room}
use Rattle.ready.specs.Lists.{moved}
use Rattle.ready.specs.Word.{occupancy}
use Rattle.ready.specs.Rules.{Movable}
use Rattle.ready.proofs.SoundLaws.{with_place, movable, move-sound}
use Rattle.thread.specs.declared.Thread.{Thread}
use Rattle.state.specs.declared.State.{State}
use Rattle.state.specs.State.{thread_at, pending_at, account_at, place}
use Rattle.thread.specs.Thread.{is_blocked, no_thread, assigned}
use Rattle.state.proofs.SoundLaws.{ThreadSound, SoundFrom, SporadicTests}
use Rattle.state.proofs.SoundLaws.ThreadSound.{absent, fifo, rr, sporadic}
use Rattle.ticks.specs.Running.{level, head, idles, ran, charge, limit_of, limit, next}
use Rattle.ticks.proofs.RunLaws.{limit-rr, limit-upper, limit-lower}
use Rattle.records.proofs.PolicyLaws.{by_zero, by_one, by_two, by-more}
use Rattle.moments.specs.Changes.{with_effect}
use Rattle.moments.specs.Moments.{quantum_ended, limits}
use Rattle.rows.specs.Rows.{slots_at}
use Rattle.moments.proofs.ChargeLaws.{Runs, runs, upper-at, ran-upper}
use Rattle.moments.proofs.LimitLaws.{chosen_for, chosen}

-- ---- where the account's rules send a thread

differ : {A : Type 0} → ◌≡◌ {A = ℕ} 0 1 → A
differ e = absurd (omega arith)

low-upper : Low ≡ Upper → ⊥
low-upper e = differ (cc)

then-upper : LowThenUpper ≡ Upper → ⊥
then-upper e = differ (cc)

stays-low : Stays ≡ Low → ⊥
stays-low e = differ (cc)

stays_then : Stays ≡ LowThenUpper → ⊥
stays_then e = differ (cc)

stays-upper : Stays ≡ Upper → ⊥
stays-upper e = differ (cc)

upper-low : Upper ≡ Low → ⊥
upper-low e = differ (cc)

upper-then : Upper ≡ LowThenUpper → ⊥
upper-then e = differ (cc)

pub limit-not-upper : (now : ℕ) (b : Bool) (p : Parameters) (v : Server) → (limit_effect now b p v).place ≡ Upper → ⊥
limit-not-upper now b p v =
    let P : Effect → Type 0 = λ e. e.place ≡ Upper → ⊥ in
    limit-elim now p v b P (λ f. stays-upper f) (at-limit-elim now p v P (λ u f. low-upper f) (λ u d f. then-upper f) (λ u d f. low-upper f))

pub return-not-low : (now : ℕ) (b : Bool) (p : Parameters) (count amount : ℕ) (v : Server) → (return_effect now b p count amount v).place ≡ Low → ⊥
return-not-low now b p count amount v =
    return-elim now p v b count amount (λ (e : Effect). e.place ≡ Low → ⊥) (λ z f. stays-low f) (λ c u f. stays-low f) (λ c w u f. upper-low f)

pub return-not-then : (now : ℕ) (b : Bool) (p : Parameters) (count amount : ℕ) (v : Server) → (return_effect now b p count amount v).place ≡ LowThenUpper → ⊥
return-not-then now b p count amount v =
    return-elim now p v b count amount (λ (e : Effect). e.place ≡ LowThenUpper → ⊥) (λ z f. stays_then f) (λ c u f. stays_then f) (λ c w u f. upper-then f)

-- what `send_up` and `send_down` require
pub record Sendable (word i : ℕ) (p : Parameters) (l : List ℕ) (x : Place) : Type 0 where
  pub stays : x ≡ Stays → word ≡ occupancy l
  pub low : x ≡ Low → Movable word i p.priority p.low l
  pub both : x ≡ LowThenUpper → Movable word i p.priority p.low l
      × Movable (occupancy (moved i p.priority p.low l)) i p.low p.priority (moved i p.priority p.low l)
  pub upper : x ≡ Upper → Movable word i p.low p.priority l

-- a sporadic thread's place
sporadic-place : (t : Thread) (c : ℕ) → t.parameters.policy ≡ 2 → is_blocked t ≡ false
    → cond (is_blocked t) 0 (assigned t c) ≡ cond (at_upper t.parameters t.server.capacity c) t.parameters.priority t.parameters.low
sporadic-place t c z w = cond-false (is_blocked t) 0 _ w ∙ by_two t.parameters.policy _ _ _ z

-- ---- at a limit

module _ (lo : ℕ → ℕ) (s : State) (a : SoundFrom lo s) (p : 0 < next s) (e : limit s ≡ next s) (later : s.now ≤ next s) where
  pub limit-runs : idles s ≡ false
  limit-runs = go (idles s) refl
    where
      go : (b : Bool) → idles s ≡ b → b ≡ false
      go true q = absurd (omega (arith, sym (cond-true (idles s) 0 (limit_of s.now (level s) (thread_at s (head s))) q) ∙ e))
      go false q = refl

  run : Runs s
  run = runs lo s a limit-runs

  is : limit_of s.now (level s) (thread_at s (head s)) ≡ next s
  is = sym (cond-false (idles s) 0 _ limit-runs) ∙ e

  -- the thread after its ticks
  pub limit-thread : thread_at (charge (next s - s.now) s) (head s) ≡ ran (level s) (next s - s.now) (thread_at s (head s))
  limit-thread =
      ap (λ (ts : List Thread). get_or ts (head s) no_thread) (cond-false (idles s) _ _ limit-runs)
      ∙ get_or-set_same s.threads (head s) (ran (level s) (next s - s.now) (thread_at s (head s))) no_thread (omega (tests, a.sizes, run.small))

  -- what is chosen for the thread after its ticks, as what happens to it and what is told of that
  chosen_is : {A : Type 0} (x y z : A)
      → chosen x y z (charge (next s - s.now) s) ≡ chosen_for x y z (level s) (ran (level s) (next s - s.now) (thread_at s (head s)))
  chosen_is x y z = cond-false (idles s) _ _ limit-runs ∙ ap (chosen_for x y z (level s)) limit-thread

  standing : place s (head s) ≡ level s
  standing = cond-false (is_blocked (thread_at s (head s))) 0 _ run.awake ∙ run.stands

  -- the end of a quantum
  pub quantum-movable : Movable s.word (head s) (level s) (level s) s.lists
  quantum-movable =
      movable (place s) s.word s.lists a.lists (head s) run.small (level s) (level s) run.range.0 run.range.1 standing run.range.0 run.range.1

  pub quantum-chosen : {A : Type 0} (x y z : A) → (thread_at s (head s)).parameters.policy ≡ 1 → chosen x y z (charge (next s - s.now) s) ≡ y
  quantum-chosen x y z c =
      chosen_is x y z ∙ by_one (thread_at s (head s)).parameters.policy _ _ _ c
      ∙ cond-true (eqb (ran (level s) (next s - s.now) (thread_at s (head s))).left 0) _ _
      (eq-eqb (ran (level s) (next s - s.now) (thread_at s (head s))).left 0 (by_one (thread_at s (head s)).parameters.policy _ _ _ c ∙ none))
    where
      none : (thread_at s (head s)).left - (next s - s.now) ≡ 0
      none = omega (arith, sym (limit-rr s.now (level s) (thread_at s (head s)) c) ∙ is)

  pub quantum-is : (thread_at s (head s)).parameters.policy ≡ 1
      → quantum_ended (level s) (head s) (ran (level s) (next s - s.now) (thread_at s (head s))) (charge (next s - s.now) s) ≡ limits (charge (next s - s.now) s)
  unfolding limits
  quantum-is z =
      ap (λ (t : Thread). quantum_ended (level s) (head s) t (charge (next s - s.now) s)) (sym limit-thread)
      ∙ sym (quantum-chosen (charge (next s - s.now) s) (quantum_ended (level s) (head s) (thread_at (charge (next s - s.now) s) (head s)) (charge (next s - s.now) s)) _ z)

  -- the limit of a sporadic thread
  module _ (d : (thread_at s (head s)).parameters.policy ≡ 1 → ⊥) where
    not-fifo : (thread_at s (head s)).parameters.policy ≡ 0 → ⊥
    not-fifo z = omega (
      arith,
      sym (by_zero (thread_at s (head s)).parameters.policy 0 (s.now + (thread_at s (head s)).left)
          (cond (eqb (level s) (thread_at s (head s)).parameters.priority) (s.now + (thread_at s (head s)).server.capacity) 0) z) ∙ is,
    )

    at-upper : level s ≡ (thread_at s (head s)).parameters.priority
    at-upper = go (ℕ_discrete (level s) (thread_at s (head s)).parameters.priority)
      where
        go : Dec (level s ≡ (thread_at s (head s)).parameters.priority) → level s ≡ (thread_at s (head s)).parameters.priority
        go (yes q) = q
        go (no q) = absurd (omega (arith, sym (limit-lower s.now (level s) (thread_at s (head s)) not-fifo d q) ∙ is))

    used-up : (thread_at s (head s)).server.capacity ≡ next s - s.now
    used-up = omega (arith, sym (limit-upper s.now (level s) (thread_at s (head s)) not-fifo d at-upper) ∙ is)

    -- a sound thread of that policy
    record Sporadic : Type 0 where
      present : ltb (head s) s.header.n ≡ true
      policy : (thread_at s (head s)).parameters.policy ≡ 2
      ranges : All (SporadicTests (thread_at s (head s)).parameters (thread_at s (head s)).blocked)
      account : AccountSound s.header.start s.now (lo (head s)) (runs_upper (is_blocked (thread_at s (head s))) (thread_at s (head s)).parameters (account_at s (head s)))
          (thread_at s (head s)).parameters (account_at s (head s))

    sporadic-here : Sporadic
    sporadic-here = go (a.each (head s) run.small)
      where
        go : ThreadSound s.header.start s.now (lo (head s)) (ltb (head s) s.header.n) (thread_at s (head s)) (pending_at s (head s)) → Sporadic
        go (absent n q f) = absurd (not-fifo (ap (λ (x : Thread). x.parameters.policy) q))
        go (fifo n z g l v f) = absurd (not-fifo z)
        go (rr n z g l v f) = absurd (d z)
        go (sporadic n z g l v) = record { present = n; policy = z; ranges = g; account = v }

    pub limited-present : head s < s.header.n
    limited-present = ltb-true (head s) s.header.n sporadic-here.present

    server-is : (ran (level s) (next s - s.now) (thread_at s (head s))).server ≡ charged (next s - s.now) (thread_at s (head s)).server
    server-is =
        ran-upper (level s) (next s - s.now) (thread_at s (head s)) sporadic-here.policy (eq-eqb (level s) (thread_at s (head s)).parameters.priority at-upper)

    pub limit-chosen : {A : Type 0} (x y z : A) → chosen x y z (charge (next s - s.now) s) ≡ z
    limit-chosen x y z =
        chosen_is x y z ∙ by-more (thread_at s (head s)).parameters.policy _ _ _ not-fifo d
        ∙ cond-true (eqb (level s) (thread_at s (head s)).parameters.priority && eqb (ran (level s) (next s - s.now) (thread_at s (head s))).server.capacity 0) _ _
        (both _ _ (eq-eqb (level s) (thread_at s (head s)).parameters.priority at-upper) (eq-eqb _ 0 (ap (λ (x : Server). x.capacity) server-is ∙ none)))
      where
        both : (x y : Bool) → x ≡ true → y ≡ true → (x && y) ≡ true
        both true y b c = c
        both false y b c = b

        none : (thread_at s (head s)).server.capacity - (next s - s.now) ≡ 0
        none = omega (arith, used-up)

    pub limited-is : with_effect (head s)
        (limit_effect (charge (next s - s.now) s).now false (thread_at (charge (next s - s.now) s) (head s)).parameters (thread_at (charge (next s - s.now) s) (head s)).server)
        (charge (next s - s.now) s)
        ≡ limits (charge (next s - s.now) s)
    unfolding limits
    limited-is = sym (limit-chosen (charge (next s - s.now) s) _ _)

    -- what is charged is at most the budget
    pub limited-used : (thread_at (charge (next s - s.now) s) (head s)).server.used ≤ 1000000000
    limited-used =
        let y = sporadic-here in
        omega (tests, y.ranges, y.account.sums.0, used-up, ap (λ (x : Thread). x.server.used) limit-thread ∙ ap (λ (x : Server). x.used) server-is)

    -- what the rule requires
    pub limited-requires : Schedulable (thread_at (charge (next s - s.now) s) (head s)).parameters (thread_at (charge (next s - s.now) s) (head s)).server
        (get_or s.counts (head s) 0)
    limited-requires =
        let y = sporadic-here in
        let r = upper-room (thread_at s (head s)).parameters (account_at s (head s))
        (upper-at (level s) (thread_at s (head s)) (pending_at s (head s)) y.policy (omega (tests, y.ranges)) run.stands (eq-eqb (level s) (thread_at s (head s)).parameters.priority at-upper)) in (
          omega (
            tests,
            y.ranges,
            y.account.numbers,
            a.sizes,
            ap (λ (x : Thread). x.parameters.period) limit-thread,
            ap (λ (x : Thread). x.server.activation) limit-thread ∙ ap (λ (x : Server). x.activation) server-is,
          ),
          λ q. omega (tests, r.1, y.ranges),
        )

    -- and the way it sends the thread
    pub limited-sendable : (x : Place) → (x ≡ Upper → ⊥) → Sendable s.word (head s) (thread_at s (head s)).parameters s.lists x
    limited-sendable x u =
        let g = sporadic-here.ranges in
        let down = movable (place s) s.word s.lists a.lists (head s) run.small (thread_at s (head s)).parameters.priority (thread_at s (head s)).parameters.low
        (omega (tests, g)) (omega (tests, g)) (standing ∙ at-upper) (omega (tests, g)) (omega (tests, g)) in
        let there = move-sound (place s) s.word s.lists a.lists (head s) run.small (thread_at s (head s)).parameters.priority (thread_at s (head s)).parameters.low
        (omega (tests, g)) (omega (tests, g)) (standing ∙ at-upper) (omega (tests, g)) (omega (tests, g)) in
        record {
          stays = λ q. a.lists.agrees;
          low = λ q. down;
          both = λ q. (
            down,
            movable (with_place (place s) (head s) (thread_at s (head s)).parameters.low) _ _ there (head s) run.small (thread_at s (head s)).parameters.low
                (thread_at s (head s)).parameters.priority (omega (tests, g)) (omega (tests, g)) (cond-true (eqb (head s) (head s)) _ _ (eq-eqb (head s) (head s) refl))
                (omega (tests, g)) (omega (tests, g)),
          );
          upper = λ q. absurd (u q);
        }

-- ---- what is due

module _ (lo : ℕ → ℕ) (s : State) (a : SoundFrom lo s) (j : ℕ) (l : j < 32) (c : 0 < get_or s.counts j 0) where
  pub due-sendable : Sendable s.word j (thread_at s j).parameters s.lists
      (return_first s.now (is_blocked (thread_at s j)) (thread_at s j).parameters (account_at s j)).place
  due-sendable =
      return-elim s.now (thread_at s j).parameters (thread_at s j).server (is_blocked (thread_at s j)) (get_or s.counts j 0) (get_or (slots_at j s.amounts) 0 0)
      (λ (e : Effect). Sendable s.word j (thread_at s j).parameters s.lists e.place) (λ z. stays) (λ n u. stays)
      (λ n w u. record {
        stays = λ q. a.lists.agrees;
        low = λ q. absurd (upper-low q);
        both = λ q. absurd (upper-then q);
        upper = λ q. up w u (a.each j l);
      })
    where
      stays : Sendable s.word j (thread_at s j).parameters s.lists Stays
      stays =
          record {
            stays = λ q. a.lists.agrees;
            low = λ q. absurd (stays-low q);
            both = λ q. absurd (stays_then q);
            upper = λ q. absurd (stays-upper q);
          }

      up : is_blocked (thread_at s j) ≡ false → is_upper (thread_at s j).parameters (account_at s j) ≡ false
          → ThreadSound s.header.start s.now (lo j) (ltb j s.header.n) (thread_at s j) (pending_at s j)
          → Movable s.word j (thread_at s j).parameters.low (thread_at s j).parameters.priority s.lists
      up w u (absent n t q) = absurd (omega (arith, ap (λ (q : Pending). q.count) q))
      up w u (fifo n z g b v q) = absurd (omega (arith, ap (λ (q : Pending). q.count) q))
      up w u (rr n z g b v q) = absurd (omega (arith, ap (λ (q : Pending). q.count) q))
      up w u (sporadic n z g b v) =
          movable (place s) s.word s.lists a.lists j l (thread_at s j).parameters.low (thread_at s j).parameters.priority (omega (tests, g)) (omega (tests, g))
          (sporadic-place (thread_at s j) (get_or s.counts j 0) z w ∙ cond-false _ _ _ u) (omega (tests, g)) (omega (tests, g))

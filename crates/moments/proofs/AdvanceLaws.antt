-- The turns of `advance`, over what each of its steps gives.
use Prim.Native.Nat.{ℕ, ◌+◌, ◌-◌, ◌*◌, ◌≤◌, ◌<◌, ◌^◌}
use mathlib.Core.Bool.{Bool, true, false, cond}
use mathlib.Core.Path.{◌≡◌, refl, sym, ap, ap₂, ◌∙◌, subst, subst₂, subst⁻¹}
use mathlib.Core.List.{List}
use lib.ListN.{get_or, set}
use lib.Seq.{set-set, get_or-set_same}
use lib.Dec.{eqb}
use native.Mathlib.Omega.{arith}
use borrow.Author.Tests.{eqb-true, eqb-false}
use Rattle.base.proofs.TestLaws.{tests, cond-true, cond-false}
use Rattle.sporadic.specs.declared.Effect.{Effect}
use Rattle.sporadic.specs.declared.Place.TheVariants.{Low, LowThenUpper, Upper}
use Rattle.account.specs.Rules.{pending_after, without_first, slots_after, Room, Schedulable, return_first}
use Rattle.sporadic.specs.Rules.{limit_effect, return_effect}
use Rattle.sporadic.proofs.EffectLaws.{limit-keeps, return-elim}
use Rattle.account.proofs.RoomLaws.{limit-room, return-room}
use Rattle.reports.specs.Tallies.{tally, plus, returned, numbers, more_of}
use Rattle.ready.specs.Lists.{head_of, moved}
use Rattle.ready.specs.Word.{occupancy}
use Rattle.ready.specs.Rules.{Movable, Rotatable}
use Rattle.ready.proofs.RotateLaws.{rotated-word}
use Rattle.passing.specs.Time.{due_by}
use Rattle.passing.proofs.TimeLaws.{due-true, due-false}
use Rattle.thread.specs.declared.Thread.{Thread}
use Rattle.state.specs.declared.State.{State}
use Rattle.rows.specs.Rows.{slots_at, with_slots}
use Rattle.state.specs.State.{thread_at, pending_at, account_at}
use Rattle.thread.specs.Thread.{is_blocked, no_thread, with_left, with_server}
use Rattle.rows.proofs.RowLaws.{row-length, row_first}
use Rattle.due_search.specs.declared.Due.{Due}
use Rattle.ticks.proofs.EarlierLaws.{earlier-left}
use Rattle.ticks.specs.Running.{level, head, ran, charge, limit, next}
use Rattle.due_search.specs.Search.{next_due}
use Rattle.due_search.specs.Kept.{NextAfter}
use Rattle.due_search.specs.Word.{PendingWord, NextInWord}
use Rattle.moments.specs.Changes.{sent_to, with_effect}
use Rattle.moments.specs.Moments.{quantum_ended, limits, passed}
use Rattle.moments.specs.Reports.{reported}
use Rattle.due_search.proofs.DueLaws.{found}
use Rattle.moments.proofs.InsertLaws.{came, limit-entries}
use Rattle.moments.proofs.ChargeLaws.{limit-later}
use Rattle.moments.proofs.TurnLaws.{first_of, first-later, first-of-all, first_small, first_some, Going, weight, turn-rest, turn-limit, is-due, not-past, turn-charged, turn-back}
use Rattle.moments.proofs.SeenLaws.{Seen, seen-held, seen-head, seen_at, seen-small, seen-limit, seen_next, charge-fits, charge-place}
use Rattle.moments.proofs.StepLaws.{Sendable, limit-not-upper, return-not-low, return-not-then, limit-runs, limit-thread, quantum-movable, quantum-is, limited-present, limited-is, limited-requires, limited-sendable, due-sendable, limited-used}
use Rattle.moments.proofs.ReportBounds.{limit-back, return_back, first-amount}
use Rattle.moments.proofs.ToldLaws.{Telling, tell-done, tell-quantum, tell-limit, tell-charged, tell-back}
use Rattle.state.specs.Updates.{state_of}

-- ticks charged in place: the time, the idle time, and thread i
abbrev pub with_ticks : ℕ → ℕ → ℕ → Thread → State → State
with_ticks i now idle w s =
    state_of s.header now idle s.word (set s.threads i w) s.counts s.dues s.amounts s.lists

-- an effect put in place on thread j, read as w: what the writes leave
pub record Put (u : State) (j : ℕ) (w : Thread) (e : Effect) : Type 0 where
  pub number : ℕ
  pub word : ℕ
  pub thread : Thread
  pub count : ℕ
  pub dues : List ℕ
  pub amounts : List ℕ
  pub lists : List ℕ
  pub number_is : number ≡ j
  pub read : w ≡ thread_at u j
  pub word-is : word ≡ occupancy (sent_to e.place number w.parameters u.lists)
  pub thread-is : thread ≡ with_server e.server w
  pub count-is : count ≡ (pending_after e (pending_at u j)).count
  pub dues-is : dues ≡ with_slots j (pending_after e (pending_at u j)).dues u.dues
  pub amounts-is : amounts ≡ with_slots j (pending_after e (pending_at u j)).amounts u.amounts
  pub lists-is : lists ≡ sent_to e.place number w.parameters u.lists

abbrev pub put_state : (u : State) (j : ℕ) (w : Thread) (e : Effect) → Put u j w e → State
put_state u j w e p =
    state_of u.header u.now u.idle p.word (set u.threads j p.thread) (set u.counts j p.count) p.dues p.amounts p.lists

put_is : (u : State) (j : ℕ) (w : Thread) (e : Effect) (p : Put u j w e) → put_state u j w e p ≡ with_effect j e u
put_is u j w e p =
    λ y. state_of u.header u.now u.idle ((p.word-is ∙ ap occupancy sent) y) (set u.threads j ((p.thread-is ∙ ap (with_server e.server) p.read) y)) (set u.counts j (p.count-is y)) (p.dues-is y) (p.amounts-is y) ((p.lists-is ∙ sent) y)
  where
    sent : sent_to e.place p.number w.parameters u.lists ≡ sent_to e.place j (thread_at u j).parameters u.lists
    sent = ap₂ (λ (k : ℕ) (v : Thread). sent_to e.place k v.parameters u.lists) p.number_is p.read

-- what holds between turns: time goes on as it did before, with what is told so far, the word names the threads that have something
-- pending, and x is the next due
pub record Between (s₀ : State) (t : ℕ) (s : State) (told : List ℕ) (waiting : ℕ) (x : Due) : Type 0 where
  pub going : Going s₀ t s
  pub telling : Telling s₀ t s told
  pub named : PendingWord s.counts waiting
  pub first : x ≡ first_of s

-- a turn: where time started and where it goes to, the state, and what is read of it
pub record Turn : Type 0 where
  pub origin : State
  pub to : ℕ
  pub bounded : to ≤ 1000000000000000
  pub state : State
  pub going : Going origin to state
  pub first : Due
  pub list : ℕ
  pub head : ℕ
  pub at : ℕ
  pub limit : ℕ
  pub moment : ℕ
  pub seen : Seen state first list head at limit moment

-- the moment is due, and the ticks up to it are charged
pub record Ticked (r : Turn) : Type 0 where
  pub due : due_by r.moment r.to ≡ true
  pub idle : ℕ
  pub thread : Thread
  pub idle-is : idle ≡ r.state.idle + cond (eqb r.list 0) (r.moment - r.state.now) 0
  pub thread-is : thread ≡ cond (eqb r.list 0) (thread_at r.state r.at) (ran r.list (r.moment - r.state.now) (thread_at r.state r.at))

abbrev pub ticked_state : (r : Turn) → Ticked r → State
ticked_state r k = with_ticks r.at r.moment k.idle k.thread r.state

-- what the rule of a turn leaves: the thread can be sent, time goes on as before, and a turn less is left
pub record Acted (s₀ : State) (t : ℕ) (s u : State) (j : ℕ) (e : Effect) : Type 0 where
  pub sendable : Sendable u.word j (thread_at u j).parameters u.lists e.place
  pub going : Going s₀ t (with_effect j e u)
  pub falls : weight t (with_effect j e u) < weight t s

-- and so the writes of its effect
module _ (s₀ : State) (t : ℕ) (s u : State) (j : ℕ) (w : Thread) (e : Effect) (p : Put u j w e) (a : Acted s₀ t s u j e) where
  pub put_going : Going s₀ t (put_state u j w e p)
  put_going = subst⁻¹ (Going s₀ t) (put_is u j w e p) a.going

  pub put-falls : weight t (put_state u j w e p) < weight t s
  put-falls = subst⁻¹ (λ (y : State). weight t y < weight t s) (put_is u j w e p) a.falls

  -- no due is before now then
  put-later : (i : ℕ) → i < 32 → 0 < get_or (set u.counts j p.count) i 0 → u.now ≤ get_or p.dues (i * 8) 0
  put-later i l c = omega (arith, row_first i p.dues, first-later (λ i. u.now - 1) (put_state u j w e p) put_going.mid i l c)

  -- and the search through the word finds the next due
  pub put_first : (waiting : ℕ) (x : Due) → PendingWord (set u.counts j p.count) waiting → NextInWord waiting p.dues u.now x → x ≡ first_of (put_state u j w e p)
  put_first waiting x n f =
      f (set u.counts j p.count) n put-later ∙ first-of-all (λ i. u.now - 1) (put_state u j w e p) put_going.mid

-- ---- what is due now

module _ (s₀ : State) (t : ℕ) (s : State) (g : Going s₀ t s) (x : Due) (f : x ≡ first_of s) (b : due_by x.due s.now ≡ true) where
  there : (first_of s).thread ≡ 32 → ⊥
  there d =
      let y = found s.counts s.dues s.header.n (omega (tests, g.mid.sizes)) in
      omega (arith, (y.none d).0, (due-true x.due s.now b).0, ap (λ (y : Due). y.due) f)

  by-now : (first_of s).due ≤ s.now
  by-now = omega (arith, (due-true x.due s.now b).1, ap (λ (y : Due). y.due) f)

  abbrev j : ℕ
  j = x.thread

  same-thread : j ≡ (first_of s).thread
  same-thread = ap (λ (y : Due). y.thread) f

  pub back-small : j < 32
  back-small = omega (arith, first_small s g.mid there by-now, same-thread)

  back_some : 0 < get_or s.counts j 0
  back_some = omega (arith, first_some s g.mid there by-now, ap (λ (n : ℕ). get_or s.counts n 0) same-thread)

  -- the rule, with the numbers that the code reads
  module _ (e : Effect) (h : e ≡ return_effect s.now (is_blocked (thread_at s j)) (thread_at s j).parameters (get_or s.counts j 0) (get_or s.amounts (j * 8) 0) (thread_at s j).server) where
    abbrev rule : ℕ → Effect
    rule n = return_first s.now (is_blocked (thread_at s n)) (thread_at s n).parameters (account_at s n)

    back_is : e ≡ rule j
    back_is =
        h
        ∙ ap (λ (y : ℕ). return_effect s.now (is_blocked (thread_at s j)) (thread_at s j).parameters (get_or s.counts j 0) y (thread_at s j).server) (sym (row_first j s.amounts))

    pub back-acts : Acted s₀ t s s j e
    back-acts =
        subst⁻¹ (Acted s₀ t s s j) back_is
        (subst⁻¹ (λ (n : ℕ). Acted s₀ t s s n (rule n)) same-thread
        (record {
          sendable = due-sendable (λ i. s.now - 1) s g.mid (first_of s).thread (first_small s g.mid there by-now) (first_some s g.mid there by-now);
          going = (turn-back s₀ s t g there by-now).0;
          falls = (turn-back s₀ s t g there by-now).1;
        }))

    -- it goes to no low list
    pub back-not-low : e.place ≡ Low → ⊥
    back-not-low q = return-not-low s.now _ _ _ _ _ (sym (ap (λ (y : Effect). y.place) h) ∙ q)

    pub back-not-then : e.place ≡ LowThenUpper → ⊥
    back-not-then q = return-not-then s.now _ _ _ _ _ (sym (ap (λ (y : Effect). y.place) h) ∙ q)

    -- the first entry goes
    pub back-first : e.first ≡ true
    back-first =
        subst⁻¹ (λ (y : Effect). y.first ≡ true) h
        (return-elim s.now (thread_at s j).parameters (thread_at s j).server (is_blocked (thread_at s j)) (get_or s.counts j 0) (get_or s.amounts (j * 8) 0) (λ (y : Effect). y.first ≡ true)
        (λ z. absurd (omega (arith, back_some))) (λ c u. refl) (λ c w u. refl))

    pub back-room : Room e.first e.amount (get_or s.counts j 0)
    back-room =
        subst⁻¹ (λ (y : Effect). Room y.first y.amount (get_or s.counts j 0)) h
        (return-room s.now (thread_at s j).parameters (thread_at s j).server (is_blocked (thread_at s j)) (get_or s.counts j 0) (get_or s.amounts (j * 8) 0))

    pub back-slots : (k c y : ℕ) (xs ys : List ℕ) → ys ≡ with_slots j (without_first (slots_at j xs)) xs → ys ≡ with_slots j (slots_after e.first e.amount k c y (slots_at j xs)) xs
    back-slots k c y xs ys q = q ∙ ap (λ (r : List ℕ). with_slots j r xs) (sym (cond-true e.first _ _ back-first))

    pub back-least : e.back ≤ 1000000000
    back-least =
        omega (
          arith,
          ap (λ (y : Effect). y.back) back_is,
          return_back s.now (thread_at s j).parameters (thread_at s j).server (is_blocked (thread_at s j)) (get_or s.counts j 0) (get_or (slots_at j s.amounts) 0 0) 1000000000
              (first-amount (λ i. s.now - 1) s g.mid j back-small back_some),
        )

    pub back-told : (w : Thread) (p : Put s j w e) (told : List ℕ) → Telling s₀ t s told → Telling s₀ t (put_state s j w e p) (more_of j (returned e) told)
    back-told w p told y =
        subst⁻¹ (λ (v : State). Telling s₀ t v (more_of j (returned e) told)) (put_is s j w e p)
        (subst⁻¹ (λ (x : Effect). Telling s₀ t (with_effect j x s) (more_of j (returned x) told)) back_is
        (subst⁻¹ (λ (n : ℕ). Telling s₀ t (with_effect n (rule n) s) (more_of n (returned (rule n)) told)) same-thread (tell-back s₀ s t told g.mid y there by-now)))

-- ---- nothing is due now

module _ (r : Turn) where
  abbrev s₀ : State
  s₀ = r.origin

  abbrev s : State
  s = r.state

  abbrev t : ℕ
  t = r.to

  abbrev g : Going s₀ t s
  g = r.going

  abbrev top : t ≤ 1000000000000000
  top = r.bounded

  abbrev x : Due
  x = r.first

  abbrev p : ℕ
  p = r.list

  abbrev h : ℕ
  h = r.head

  abbrev i : ℕ
  i = r.at

  abbrev l : ℕ
  l = r.limit

  abbrev m : ℕ
  m = r.moment

  abbrev v : Seen s x p h i l m
  v = r.seen

  is-limit : l ≡ limit s
  is-limit = seen-limit (λ i. s.now - 1) s g.mid x p h i l m v

  pub is-next : m ≡ next s
  is-next = seen_next (λ i. s.now - 1) s g.mid x p h i l m v

  at_small : i < 32
  at_small = seen-small (λ i. s.now - 1) s g.mid x p h i l m v

  idle-fits : (k : ℕ) → s.now + k ≤ t → s.idle + k < 2 ^ 64
  idle-fits k q = omega (arith, g.mid.timed, top)

  pub rest-idle : s.idle + (t - s.now) < 2 ^ 64
  rest-idle = idle-fits (t - s.now) (omega (arith, g.by))

  -- the moment is no later than the limit
  by-limit : 0 < l → (0 < m) × (m ≤ l)
  by-limit q = let y = earlier-left (limit s) (first_of s).due (omega (arith, is-limit)) in (omega (arith, y.0, is-next), omega (arith, y.1, is-next, is-limit))

  -- ---- no moment is due by t

  pub rest-fits : due_by m t ≡ false → eqb p 0 ≡ false
      → ((thread_at s i).total + (t - s.now) < 2 ^ 64) × ((thread_at s i).server.used + (t - s.now) < 2 ^ 64)
      × ((thread_at s i).parameters.policy ≡ 1 → t - s.now ≤ (thread_at s i).left)
      × (1 < (thread_at s i).parameters.policy → p ≡ (thread_at s i).parameters.priority → t - s.now ≤ (thread_at s i).server.capacity)
  rest-fits b =
      charge-fits (λ i. s.now - 1) s g.mid x p h i l m v (t - s.now) (omega (arith, g.by))
      (λ q. let y = by-limit q in omega (arith, g.by, y.1, due-false m t b y.0))

  pub last : due_by m t ≡ false → (idle : ℕ) (w : Thread) → idle ≡ s.idle + cond (eqb p 0) (t - s.now) 0
      → w ≡ cond (eqb p 0) (thread_at s i) (ran p (t - s.now) (thread_at s i))
      → ◌≡◌ {A = State} (state_of s.header t idle s.word (set s.threads i w) s.counts s.dues s.amounts s.lists) (passed s₀ t)
  last b idle w fi fw =
      let n : t ≡ s.now + (t - s.now) = omega (arith, g.by) in
      charge-place (λ i. s.now - 1) s g.mid x p h i l m v (t - s.now) t idle w n fi fw
      ∙ turn-rest s₀ s t g (ap (λ (n : ℕ). due_by n t) (sym is-next) ∙ b)

  pub last-told : due_by m t ≡ false → (told : List ℕ) → Telling s₀ t s told → told ≡ numbers (reported s₀ t)
  last-told b told h = tell-done s₀ s t told g h (ap (λ (n : ℕ). due_by n t) (sym is-next) ∙ b)

  -- ---- a moment that is due by t

  module _ (b : due_by m t ≡ true) where
    some : 0 < next s
    some = omega (arith, (due-true m t b).0, is-next)

    by : next s ≤ t
    by = omega (arith, (due-true m t b).1, is-next)

    pub not-before : s.now ≤ m
    not-before = go (eqb (limit s) (next s)) refl
      where
        go : (b : Bool) → eqb (limit s) (next s) ≡ b → s.now ≤ m
        go true q = omega (arith, is-next, eqb-true (limit s) (next s) q, limit-later (λ i. s.now - 1) s g.mid (omega (arith, some, eqb-true (limit s) (next s) q)))
        go false q = omega (arith, is-next, not-past s₀ s t g some by top (eqb-false (limit s) (next s) q))

    later : s.now ≤ next s
    later = omega (arith, not-before, is-next)

    moment-by : m ≤ t
    moment-by = omega (arith, by, is-next)

    pub moment-idle : s.idle + (m - s.now) < 2 ^ 64
    moment-idle = idle-fits (m - s.now) (omega (arith, not-before, moment-by))

    pub moment-fits : eqb p 0 ≡ false
        → ((thread_at s i).total + (m - s.now) < 2 ^ 64) × ((thread_at s i).server.used + (m - s.now) < 2 ^ 64)
        × ((thread_at s i).parameters.policy ≡ 1 → m - s.now ≤ (thread_at s i).left)
        × (1 < (thread_at s i).parameters.policy → p ≡ (thread_at s i).parameters.priority → m - s.now ≤ (thread_at s i).server.capacity)
    moment-fits =
        charge-fits (λ i. s.now - 1) s g.mid x p h i l m v (m - s.now) (omega (arith, moment-by, not-before))
        (λ q. omega (arith, not-before, (by-limit q).1))

  -- the ticks up to it are charged in place
  module _ (k : Ticked r) where
    abbrev b : due_by m t ≡ true
    b = k.due

    abbrev idle : ℕ
    idle = k.idle

    abbrev w : Thread
    w = k.thread

    abbrev u : State
    u = ticked_state r k

    charged-is : u ≡ charge (next s - s.now) s
    charged-is =
        let n : m ≡ s.now + (m - s.now) = omega (arith, (not-before b)) in
        charge-place (λ i. s.now - 1) s g.mid x p h i l m v (m - s.now) m idle w n k.idle-is k.thread-is
        ∙ ap (λ (n : ℕ). charge (n - s.now) s) is-next

    -- ---- at a limit

    module _ (q : eqb m l ≡ true) where
      limited : limit s ≡ next s
      limited = sym is-limit ∙ sym (eqb-true m l q) ∙ is-next

      some_runs : eqb p 0 ≡ false
      some_runs = ap (λ (k : ℕ). eqb k 0) v.list ∙ limit-runs (λ i. s.now - 1) s g.mid (some b) limited (later b)

      at_head : i ≡ head s
      at_head = seen_at (λ i. s.now - 1) s g.mid x p h i l m v some_runs

      thread-is : w ≡ ran (level s) (next s - s.now) (thread_at s (head s))
      thread-is =
          k.thread-is
          ∙ cond-false (eqb p 0) _ _ some_runs
          ∙ ap₂ (λ (r j : ℕ). ran r (m - s.now) (thread_at s j)) v.list at_head
          ∙ ap (λ (n : ℕ). ran (level s) (n - s.now) (thread_at s (head s))) is-next

      policy-is : w.parameters.policy ≡ (thread_at s (head s)).parameters.policy
      policy-is = ap (λ (y : Thread). y.parameters.policy) thread-is

      -- the end of a quantum

      pub ended-movable : Movable s.word h p p s.lists
      ended-movable =
          subst⁻¹ (λ (n : ℕ). Movable s.word n p p s.lists) (seen-head (λ i. s.now - 1) s g.mid x p h i l m v some_runs)
          (subst⁻¹ (λ (r : ℕ). Movable s.word (head s) r r s.lists) v.list (quantum-movable (λ i. s.now - 1) s g.mid (some b) limited (later b)))

      pub ended-rotatable : Rotatable p s.lists
      ended-rotatable =
          let f = ended-movable.leaves.formed in
          record {
            formed = record { array = f.array; low = f.low; high = f.high; short = f.short; rest = f.rest; agrees = refl };
            some = (seen-held (λ i. s.now - 1) s g.mid p v.list some_runs).some;
          }

      module _ (z : w.parameters.policy ≡ 1) (f : Thread) (ls : List ℕ) (ff : f ≡ with_left w.parameters.budget w) (fh : ls ≡ moved (head_of p s.lists) p p s.lists) where
        fl : ls ≡ moved h p p s.lists
        fl = fh ∙ ap (λ (n : ℕ). moved n p p s.lists) (sym (v.top ∙ cond-false (eqb p 0) _ _ some_runs))

        abbrev o : ℕ
        o = s.word

        fo : o ≡ occupancy (moved h p p s.lists)
        fo = rotated-word s.word h p s.lists ended-movable

        abbrev ended : State
        ended =
            state_of s.header m idle o (set s.threads i f) s.counts s.dues s.amounts ls

        ended_is : ended ≡ limits (charge (next s - s.now) s)
        ended_is =
            placed
            ∙ ap (λ (r : ℕ). quantum_ended r i w u) v.list
            ∙ ap (λ (j : ℕ). quantum_ended (level s) j w u) at_head
            ∙ ap₂ (λ (y : Thread) (a : State). quantum_ended (level s) (head s) y a) thread-is charged-is
            ∙ quantum-is (λ i. s.now - 1) s g.mid (some b) limited (later b) (sym policy-is ∙ z)
          where
            placed : ended ≡ quantum_ended p i w u
            placed =
                λ y. state_of s.header m idle ((fo ∙ ap (λ (k : ℕ). occupancy (moved k p p s.lists)) (sym v.at)) y) ((sym (set-set s.threads i w f) ∙ ap (set (set s.threads i w) i) ff) y) s.counts s.dues s.amounts ((fl ∙ ap (λ (k : ℕ). moved k p p s.lists) (sym v.at)) y)

        pub ended-turn : Going s₀ t ended × (weight t ended < weight t s)
        ended-turn = subst⁻¹ (λ (a : State). Going s₀ t a × (weight t a < weight t s)) ended_is (turn-limit s₀ s t g (some b) (by b) top limited)

        pub ended-told : (told : List ℕ) → Telling s₀ t s told → Telling s₀ t ended (more_of i (tally 0 1 0 0) told)
        ended-told told y =
            subst⁻¹ (λ (n : ℕ). Telling s₀ t ended (more_of n (tally 0 1 0 0) told)) at_head
            (subst⁻¹ (λ (a : State). Telling s₀ t a (more_of (head s) (tally 0 1 0 0) told)) ended_is
            (tell-quantum s₀ s t told g y (some b) (by b) top limited (omega (arith, at_small, at_head)) (sym policy-is ∙ z)))

      -- the limit of a sporadic thread

      module _ (z : w.parameters.policy ≡ 1 → ⊥) where
        abbrev c : State
        c = charge (next s - s.now) s

        not-rr : (thread_at s (head s)).parameters.policy ≡ 1 → ⊥
        not-rr e = z (policy-is ∙ e)

        -- the thread as it is charged
        pub limit-read : w ≡ thread_at u i
        limit-read = sym (get_or-set_same s.threads i w no_thread (omega (tests, g.mid.sizes, at_small)))

        -- what its rule requires
        pub limit-requires : Schedulable w.parameters w.server (get_or s.counts i 0)
        limit-requires =
            subst⁻¹ (λ (y : Thread). Schedulable y.parameters y.server (get_or s.counts i 0)) limit-read
            (subst⁻¹ (λ (y : State). Schedulable (thread_at y i).parameters (thread_at y i).server (get_or y.counts i 0)) charged-is
            (subst⁻¹ (λ (n : ℕ). Schedulable (thread_at c n).parameters (thread_at c n).server (get_or c.counts n 0)) at_head
            (limited-requires (λ i. s.now - 1) s g.mid (some b) limited (later b) not-rr)))

        module _ (e : Effect) (f : e ≡ limit_effect m false w.parameters w.server) where
          abbrev limit_rule : State → ℕ → Effect
          limit_rule y n = limit_effect y.now false (thread_at y n).parameters (thread_at y n).server

          limit-by-rule : e ≡ limit_rule u i
          limit-by-rule = f ∙ ap (λ (y : Thread). limit_effect m false y.parameters y.server) limit-read

          pub limit-acts : Acted s₀ t s u i e
          limit-acts =
              subst⁻¹ (Acted s₀ t s u i) limit-by-rule
              (subst⁻¹ (λ (y : State). Acted s₀ t s y i (limit_rule y i)) charged-is
              (subst⁻¹ (λ (n : ℕ). Acted s₀ t s c n (limit_rule c n)) at_head
              (record {
                sendable =
                    subst⁻¹ (λ (y : Thread). Sendable s.word (head s) y.parameters s.lists (limit_rule c (head s)).place)
                    (limit-thread (λ i. s.now - 1) s g.mid (some b) limited (later b))
                    (limited-sendable (λ i. s.now - 1) s g.mid (some b) limited (later b) not-rr _ (limit-not-upper c.now false (thread_at c (head s)).parameters (thread_at c (head s)).server));
                going = subst⁻¹ (Going s₀ t) (limited-is (λ i. s.now - 1) s g.mid (some b) limited (later b) not-rr) (turn-limit s₀ s t g (some b) (by b) top limited).0;
                falls =
                    subst⁻¹ (λ (y : State). weight t y < weight t s) (limited-is (λ i. s.now - 1) s g.mid (some b) limited (later b) not-rr)
                    (turn-limit s₀ s t g (some b) (by b) top limited).1;
              })))

          -- the thread can be sent, by the head's number and the parameters that were read
          pub limit-sendable : Sendable s.word h w.parameters s.lists e.place
          limit-sendable =
              subst⁻¹ (λ (y : Thread). Sendable s.word h y.parameters s.lists e.place) limit-read
              (subst (λ (n : ℕ). Sendable s.word n (thread_at u i).parameters s.lists e.place) v.at limit-acts.sendable)

          pub limit-goes-down : e.place ≡ Upper → ⊥
          limit-goes-down d = limit-not-upper m false w.parameters w.server (sym (ap (λ (y : Effect). y.place) f) ∙ d)

          -- it takes no entry, and has room for one
          pub limit-first-stays : e.first ≡ false
          limit-first-stays = ap (λ (y : Effect). y.first) f ∙ limit-keeps m w.parameters w.server false

          pub room : Room e.first e.amount (get_or s.counts i 0)
          room =
              subst⁻¹ (λ (y : Effect). Room y.first y.amount (get_or s.counts i 0)) f
              (limit-room m w.parameters w.server false (get_or s.counts i 0) limit-requires)

          pub limit-slots : (k n y : ℕ) (xs ys : List ℕ) → ys ≡ with_slots i (slots_after false e.amount k n y (slots_at i xs)) xs
              → ys ≡ with_slots i (slots_after e.first e.amount k n y (slots_at i xs)) xs
          limit-slots k n y xs ys a = a ∙ ap (λ (o : Bool). with_slots i (slots_after o e.amount k n y (slots_at i xs)) xs) (sym limit-first-stays)

          -- what the writes leave: the thread was not stored before
          module _ (p : Put u i w e) where
            abbrev pub limit_state : State
            limit_state =
                state_of s.header m idle p.word (set s.threads i p.thread) (set s.counts i p.count) p.dues p.amounts p.lists

            limit-state : limit_state ≡ put_state u i w e p
            limit-state =
                λ y. state_of s.header m idle p.word (sym (set-set s.threads i w p.thread) y) (set s.counts i p.count) p.dues p.amounts p.lists

            pub limit-turn : Going s₀ t limit_state × (weight t limit_state < weight t s)
            limit-turn =
                subst⁻¹ (λ (y : State). Going s₀ t y × (weight t y < weight t s)) limit-state
                (put_going s₀ t s u i w e p limit-acts, put-falls s₀ t s u i w e p limit-acts)

            -- the next due, without a search
            pub limit-due : (y : Due) → NextAfter x i p.count (get_or p.dues (i * 8) 0) y → y ≡ first_of limit_state
            limit-due y = subst₂ Known (sym p.count-is) (sym p.dues-is) known
              where
                Known : ℕ → List ℕ → Type 0
                Known count dues = NextAfter x i count (get_or dues (i * 8) 0) y → y ≡ next_due (set s.counts i count) dues s.header.n

                known : Known (pending_after e (pending_at u i)).count (with_slots i (pending_after e (pending_at u i)).dues s.dues)
                known f =
                    let a = limit-entries e (pending_at u i) limit-first-stays room (row-length i s.dues at_small (omega (tests, g.mid.sizes))) in
                    let here = limited-present (λ i. s.now - 1) s g.mid (some b) limited (later b) not-rr in
                    f (set s.counts i (pending_after e (pending_at u i)).count) (with_slots i (pending_after e (pending_at u i)).dues s.dues) s.header.n
                    (came s.counts s.dues s.header.n i (omega (tests, g.mid.sizes)) at_small (omega (tests, g.mid.sizes)) (omega (tests, g.mid.sizes))
                    (pending_after e (pending_at u i)) a.0 (λ c. omega (arith, at_head, here)) (λ c. let d = a.1 c in (d.0, omega (arith, d.1, row_first i s.dues))) x v.first)

            pub limit-told : (told : List ℕ) → Telling s₀ t s told → Telling s₀ t limit_state (more_of i (plus (tally 1 0 0 0) (returned e)) told)
            limit-told told y =
                subst⁻¹ (λ (a : State). Telling s₀ t a (more_of i (plus (tally 1 0 0 0) (returned e)) told)) (limit-state ∙ put_is u i w e p)
                (subst⁻¹ (λ (x : Effect). Telling s₀ t (with_effect i x u) (more_of i (plus (tally 1 0 0 0) (returned x)) told)) limit-by-rule
                (subst⁻¹ (λ (a : State). Telling s₀ t (with_effect i (limit_rule a i) a) (more_of i (plus (tally 1 0 0 0) (returned (limit_rule a i))) told)) charged-is
                (subst⁻¹ (λ (n : ℕ). Telling s₀ t (with_effect n (limit_rule c n) c) (more_of n (plus (tally 1 0 0 0) (returned (limit_rule c n))) told)) at_head
                (subst⁻¹ (λ (a : State). Telling s₀ t a (more_of (head s) (plus (tally 1 0 0 0) (returned (limit_rule c (head s)))) told))
                (limited-is (λ i. s.now - 1) s g.mid (some b) limited (later b) not-rr)
                (tell-limit s₀ s t told g y (some b) (by b) top limited (omega (arith, at_small, at_head)) not-rr)))))

          pub limit-small : e.back ≤ 1000000000
          limit-small =
              omega (
                arith,
                ap (λ (x : Effect). x.back) limit-by-rule,
                limit-back m (thread_at u i).parameters (thread_at u i).server false,
                ap₂ (λ (y : State) (n : ℕ). (thread_at y n).server.used) charged-is at_head,
                limited-used (λ i. s.now - 1) s g.mid (some b) limited (later b) not-rr,
              )

    -- ---- a due that is no limit: it comes back in the next turn

    module _ (q : eqb m l ≡ false) (n : due_by x.due s.now ≡ false) where
      unlimited : limit s ≡ next s → ⊥
      unlimited e = eqb-false m l q (is-next ∙ sym e ∙ sym is-limit)

      due-after : s.now < next s
      due-after =
          let d = (is-due s₀ s t g (some b) (by b) top unlimited).0 in
          omega (arith, some b, d, ap (λ (y : Due). y.due) v.first, due-false x.due s.now n (omega (arith, some b, d, ap (λ (y : Due). y.due) v.first)))

      pub charged-turn : Going s₀ t u × (weight t u < weight t s)
      charged-turn =
          subst⁻¹ (λ (y : State). Going s₀ t y × (weight t y < weight t s)) charged-is (turn-charged s₀ s t g (some b) (by b) top unlimited due-after)

      pub charged-told : (told : List ℕ) → Telling s₀ t s told → Telling s₀ t u told
      charged-told told y = subst⁻¹ (λ (a : State). Telling s₀ t a told) charged-is (tell-charged s₀ s t told g y (some b) (by b) top unlimited)

-- What so many ticks keep.
use Prim.Native.Nat.{ℕ, zero, suc, ◌+◌, ◌-◌, ◌≤◌, ◌<◌}
use mathlib.Core.Bool.{Bool, true, false, cond}
use mathlib.Core.Path.{◌≡◌, refl, sym, ap, ◌∙◌, subst, subst⁻¹}
use mathlib.Core.List.{List, [], ◌∷◌}
use lib.ListN.{length, take, get_or, set, length-set}
use lib.Seq.{get_or-set_same, get_or-set_other, set-set}
use lib.Dec.{ltb, leb, eqb}
use native.Mathlib.Omega.{arith}
use native.Mathlib.Decide.{ℕ_discrete}
use borrow.Author.Tests.{eqb-true, eqb-false, eq-eqb, ne_eqb, lt-ltb, ltb-true}
use Rattle.records.specs.declared.Parameters.{Parameters}
use Rattle.records.specs.Ranges.{by_policy}
use Rattle.base.proofs.TestLaws.{tests, All, cond-true, cond-false, false-true}
use Rattle.sporadic.specs.declared.Server.{Server}
use Rattle.account.specs.declared.Pending.{Pending}
use Rattle.account.specs.declared.Account.{Account}
use Rattle.account.specs.Account.{is_upper, first_due}
use Rattle.sporadic.specs.Rules.{at_upper, charged}
use Rattle.account.specs.Sound.{runs_upper, due_tests, last_due}
use Rattle.sporadic.proofs.ChargeLaws as account
use Rattle.account_laws.proofs.SoundLaws.{AccountSound, time-passes, charge-sound, upper-room}
use Rattle.ready.specs.Word.{highest_of}
use Rattle.ready.proofs.SoundLaws.{sound-same, highest-sound}
use Rattle.thread.specs.declared.Thread.{Thread}
use Rattle.state.specs.declared.State.{State}
use Rattle.rows.specs.Rows.{slots_at}
use Rattle.state.specs.State.{thread_at, pending_at, place}
use Rattle.thread.specs.Thread.{is_blocked, no_thread, assigned, place_of}
use Rattle.state.proofs.SoundLaws.{ThreadSound, SoundFrom, Sound}
use Rattle.state.proofs.SoundLaws.ThreadSound.{absent, fifo, rr, sporadic}
use Rattle.due_search.specs.declared.Due.{Due}
use Rattle.ticks.proofs.EarlierLaws.{earlier-left, earlier-right, earlier-above}
use Rattle.rows.proofs.RowLaws.{row_first}
use Rattle.ticks.specs.Running.{level, head, idles, ran, charge, earlier, limit, next}
use Rattle.due_search.specs.Search.{next_due, LeastFirstDue}
use Rattle.records.proofs.PolicyLaws.{by_zero, by_one, by_two}
use Rattle.moments.proofs.ChangeLaws.{totals-set}
use Rattle.due_search.proofs.DueLaws.{found}
use Rattle.state.specs.Updates.{state_of}

-- the running thread
pub record Runs (s : State) : Type 0 where
  pub small : head s < 32
  pub awake : is_blocked (thread_at s (head s)) ≡ false
  pub stands : assigned (thread_at s (head s)) (get_or s.counts (head s) 0) ≡ level s
  pub range : (1 ≤ level s) × (level s ≤ 32)

placed : (b : Bool) (a list : ℕ) → 0 < list → cond b 0 a ≡ list → (b ≡ false) × (a ≡ list)
placed true a list l e = absurd (omega arith)
placed false a list l e = (refl, e)

pub no_word : (w : ℕ) → w ≡ 0 → highest_of w ≡ 0
unfolding lib.Count.count_leading_zeros
no_word w e = ap highest_of e

pub runs : (lo : ℕ → ℕ) (s : State) → SoundFrom lo s → idles s ≡ false → Runs s
runs lo s h e =
    let d : level s ≡ 0 → ⊥ = eqb-false (level s) 0 e in
    let r = highest-sound (place s) s.word s.lists h.lists (λ z. d (no_word s.word z)) in
    let y = placed (is_blocked (thread_at s (head s))) (assigned (thread_at s (head s)) (get_or s.counts (head s) 0)) (level s) (omega (arith, r.held.low)) r.stands in
    record { small = r.thread; awake = y.0; stands = y.1; range = (r.held.low, r.held.high) }

-- ---- ticks add up

ran-left : (c x i j : ℕ) → by_policy c (by_policy c x (x - i) x) (by_policy c x (x - i) x - j) (by_policy c x (x - i) x) ≡ by_policy c x (x - (i + j)) x
ran-left zero x i j = refl
ran-left (suc zero) x i j = omega arith
ran-left (suc (suc c)) x i j = refl

ran-server : (c : ℕ) (b : Bool) (i j : ℕ) (v : Server)
    → by_policy c (by_policy c v v (cond b (charged i v) v)) (by_policy c v v (cond b (charged i v) v))
    (cond b (charged j (by_policy c v v (cond b (charged i v) v))) (by_policy c v v (cond b (charged i v) v)))
    ≡ by_policy c v v (cond b (charged (i + j) v) v)
ran-server zero b i j v = refl
ran-server (suc zero) b i j v = refl
ran-server (suc (suc c)) true i j v = account.charge-add i j v
ran-server (suc (suc c)) false i j v = refl

ran-twice : (list i j : ℕ) (t : Thread) → ran list j (ran list i t) ≡ ran list (i + j) t
ran-twice list i j t =
    λ x. record {
      parameters = t.parameters;
      blocked = t.blocked;
      total = q x;
      left = ran-left t.parameters.policy t.left i j x;
      server = ran-server t.parameters.policy (eqb list t.parameters.priority) i j t.server x;
    }
  where
    q : t.total + i + j ≡ t.total + (i + j)
    q = omega arith

pub charge-add : (lo : ℕ → ℕ) (i j : ℕ) (s : State) → SoundFrom lo s → charge j (charge i s) ≡ charge (i + j) s
charge-add lo i j s h =
    λ x. state_of s.header (n x) (d (idles s) x) s.word (t (idles s) refl x) s.counts s.dues s.amounts s.lists
  where
    n : s.now + i + j ≡ s.now + (i + j)
    n = omega arith

    d : (b : Bool) → s.idle + cond b i 0 + cond b j 0 ≡ s.idle + cond b (i + j) 0
    d true = omega arith
    d false = omega arith

    t : (b : Bool) → idles s ≡ b
        → cond b (cond b s.threads (set s.threads (head s) (ran (level s) i (thread_at s (head s)))))
        (set (cond b s.threads (set s.threads (head s) (ran (level s) i (thread_at s (head s))))) (head s)
        (ran (level s) j (get_or (cond b s.threads (set s.threads (head s) (ran (level s) i (thread_at s (head s))))) (head s) no_thread)))
        ≡ cond b s.threads (set s.threads (head s) (ran (level s) (i + j) (thread_at s (head s))))
    t true e = refl
    t false e =
        let r = runs lo s h e in
        rw (
          get_or-set_same s.threads (head s) (ran (level s) i (thread_at s (head s))) no_thread (omega (tests, h.sizes, r.small)),
          set-set s.threads (head s),
          ran-twice (level s) i j (thread_at s (head s)),
        )

-- ---- the limit and the dues of a sound state are after now

-- a sporadic thread that stands in the list of its priority has capacity and room
pub upper-at : (list : ℕ) (t : Thread) (q : Pending) → t.parameters.policy ≡ 2 → t.parameters.low < t.parameters.priority → assigned t q.count ≡ list
    → eqb list t.parameters.priority ≡ true → is_upper t.parameters (record { server = t.server; pending = q }) ≡ true
upper-at list t q z l a e = go (is_upper t.parameters (record { server = t.server; pending = q })) refl
  where
    go : (b : Bool) → is_upper t.parameters (record { server = t.server; pending = q }) ≡ b → b ≡ true
    go true f = refl
    go false f =
        let x = sym (by_two t.parameters.policy _ _ _ z) ∙ a in
        absurd (omega (arith, sym (cond-false _ t.parameters.priority t.parameters.low f) ∙ x, eqb-true list t.parameters.priority e))

-- what a running thread runs on is not used up
pub lasts : (start now lo list : ℕ) (b : Bool) (t : Thread) (q : Pending) → ThreadSound start now lo b t q → assigned t q.count ≡ list
    → 0 < by_policy t.parameters.policy 1 t.left (cond (eqb list t.parameters.priority) t.server.capacity 1)
lasts start now lo list b t q (absent n e f) a =
    let z : t.parameters.policy ≡ 0 = ap (λ (t : Thread). t.parameters.policy) e in
    rw (by_zero t.parameters.policy 1 t.left (cond (eqb list t.parameters.priority) t.server.capacity 1) z) (omega arith)
lasts start now lo list b t q (fifo n z h l v f) a = rw (by_zero t.parameters.policy 1 t.left (cond (eqb list t.parameters.priority) t.server.capacity 1) z) (omega arith)
lasts start now lo list b t q (rr n z h l v f) a = rw (by_one t.parameters.policy 1 t.left (cond (eqb list t.parameters.priority) t.server.capacity 1) z) (omega (tests, l))
lasts start now lo list b t q (sporadic n z h l v) a =
    rw (by_two t.parameters.policy 1 t.left (cond (eqb list t.parameters.priority) t.server.capacity 1) z) (go (eqb list t.parameters.priority) refl)
  where
    go : (c : Bool) → eqb list t.parameters.priority ≡ c → 0 < cond c t.server.capacity 1
    go true e = (upper-room t.parameters (record { server = t.server; pending = q }) (upper-at list t q z (omega (tests, h)) a e)).0
    go false e = omega arith

limit-ran : (c : ℕ) (b : Bool) (now k left cap : ℕ) → 0 < by_policy c 1 left (cond b cap 1)
    → (0 < by_policy c 0 (now + left) (cond b (now + cap) 0) → now + k < by_policy c 0 (now + left) (cond b (now + cap) 0))
    → by_policy c 0 (now + k + by_policy c left (left - k) left) (cond b (now + k + by_policy c cap cap (cond b (cap - k) cap)) 0)
    ≡ by_policy c 0 (now + left) (cond b (now + cap) 0)
limit-ran zero b now k left cap l h = refl
limit-ran (suc zero) b now k left cap l h = omega (arith, h (omega arith))
limit-ran (suc (suc c)) true now k left cap l h = omega (arith, h (omega arith))
limit-ran (suc (suc c)) false now k left cap l h = refl

capacity-ran : (c : ℕ) (b : Bool) (k : ℕ) (v : Server)
    → (by_policy c v v (cond b (charged k v) v)).capacity ≡ by_policy c v.capacity v.capacity (cond b (v.capacity - k) v.capacity)
capacity-ran zero b k v = refl
capacity-ran (suc zero) b k v = refl
capacity-ran (suc (suc c)) true k v = refl
capacity-ran (suc (suc c)) false k v = refl

limit-after : (c : ℕ) (b : Bool) (now left cap : ℕ) → 0 < by_policy c 1 left (cond b cap 1)
    → 0 < by_policy c 0 (now + left) (cond b (now + cap) 0) → now < by_policy c 0 (now + left) (cond b (now + cap) 0)
limit-after zero b now left cap l h = absurd (omega arith)
limit-after (suc zero) b now left cap l h = omega arith
limit-after (suc (suc c)) true now left cap l h = omega arith
limit-after (suc (suc c)) false now left cap l h = absurd (omega arith)

module _ (lo : ℕ → ℕ) (s : State) (h : SoundFrom lo s) (e : idles s ≡ false) where
  pub runner-lasts : 0 < by_policy (thread_at s (head s)).parameters.policy 1 (thread_at s (head s)).left
      (cond (eqb (level s) (thread_at s (head s)).parameters.priority) (thread_at s (head s)).server.capacity 1)
  runner-lasts =
      let r = runs lo s h e in
      lasts s.header.start s.now (lo (head s)) (level s) (ltb (head s) s.header.n) (thread_at s (head s)) (pending_at s (head s)) (h.each (head s) r.small) r.stands

pub limit-charge : (lo : ℕ → ℕ) (k : ℕ) (s : State) → SoundFrom lo s → (0 < limit s → s.now + k < limit s) → limit (charge k s) ≡ limit s
limit-charge lo k s h q = go (idles s) refl
  where
    go : (b : Bool) → idles s ≡ b → limit (charge k s) ≡ limit s
    go true e = rw e
    go false e =
        let r = runs lo s h e in
        let t = thread_at s (head s) in
        rw (
          e,
          get_or-set_same s.threads (head s) (ran (level s) k t) no_thread (omega (tests, h.sizes, r.small)),
          capacity-ran t.parameters.policy (eqb (level s) t.parameters.priority) k t.server,
        )
        (limit-ran t.parameters.policy (eqb (level s) t.parameters.priority) s.now k t.left t.server.capacity (runner-lasts lo s h e) (rw e at q))

pub limit-later : (lo : ℕ → ℕ) (s : State) → SoundFrom lo s → 0 < limit s → s.now < limit s
limit-later lo s h q = go (idles s) refl
  where
    go : (b : Bool) → idles s ≡ b → s.now < limit s
    go true e = absurd (omega (arith, rw e at q))
    go false e =
        let t = thread_at s (head s) in
        rw e (limit-after t.parameters.policy (eqb (level s) t.parameters.priority) s.now t.left t.server.capacity (runner-lasts lo s h e) (rw e at q))

pub next-charge : (lo : ℕ → ℕ) (k : ℕ) (s : State) → SoundFrom lo s → (0 < next s → s.now + k < next s) → next (charge k s) ≡ next s
next-charge lo k s h q =
    ap (λ (m : ℕ). earlier m (next_due s.counts s.dues s.header.n).due)
    (limit-charge lo k s h (λ l. let r = earlier-left (limit s) (next_due s.counts s.dues s.header.n).due l in omega (arith, q r.0)))

-- ---- dues

first-after : (start now lo : ℕ) (up : Bool) (p : Parameters) (a : Account) → AccountSound start now lo up p a → 0 < a.pending.count → lo < get_or a.pending.dues 0 0
first-after start now lo up p a h c = go a.pending.count a.pending.dues c (omega (tests, h.due_slots.0)) h.times
  where
    go : (n : ℕ) (ds : List ℕ) → 0 < n → length ds ≡ 8 → All (due_tests (lo + 1) (last_due now) (take n ds)) → lo < get_or ds 0 0
    go zero ds c l t = absurd (omega arith)
    go (suc n) [] c l t = absurd (omega arith)
    go (suc n) (d ∷ ds) c l t = omega (tests, t.0)

pub due-after : (start now lo : ℕ) (b : Bool) (t : Thread) (q : Pending) → ThreadSound start now lo b t q → 0 < q.count → lo < get_or q.dues 0 0
due-after start now lo b t q (absent n e f) c = absurd (omega (arith, ap (λ (q : Pending). q.count) f))
due-after start now lo b t q (fifo n z h l v f) c = absurd (omega (arith, ap (λ (q : Pending). q.count) f))
due-after start now lo b t q (rr n z h l v f) c = absurd (omega (arith, ap (λ (q : Pending). q.count) f))
due-after start now lo b t q (sporadic n z h l v) c =
    first-after start now lo (runs_upper (is_blocked t) t.parameters (record { server = t.server; pending = q })) t.parameters (record { server = t.server; pending = q }) v c

-- a thread that isn't there has nothing pending
pub absent_none : (start now lo : ℕ) (t : Thread) (q : Pending) → ThreadSound start now lo false t q → q.count ≡ 0
absent_none start now lo t q (absent n e f) = ap (λ (q : Pending). q.count) f
absent_none start now lo t q (fifo n z h l v f) = false-true n
absent_none start now lo t q (rr n z h l v f) = false-true n
absent_none start now lo t q (sporadic n z h l v) = false-true n

pub first-bound : (q : Pending) (m : ℕ) → (0 < q.count → m < get_or q.dues 0 0) → 0 < first_due q → m < first_due q
first-bound q m f h = go (ℕ_discrete q.count 0)
  where
    go : Dec (q.count ≡ 0) → m < first_due q
    go (yes e) = absurd (omega (arith, rw (eq-eqb q.count 0 e) at h))
    go (no e) = rw (ne_eqb q.count 0 e) (f (omega (arith, e)))

-- the next moment is at or before each due
pub next-due : (lo : ℕ → ℕ) (s : State) → SoundFrom lo s → (i : ℕ) → i < 32 → 0 < get_or s.counts i 0
    → (0 < (next_due s.counts s.dues s.header.n).due) × ((next_due s.counts s.dues s.header.n).due ≤ get_or (slots_at i s.dues) 0 0)
next-due lo s h i l c = go (ltb i s.header.n) refl (h.each i l) (ℕ_discrete x.thread 32)
  where
    x : Due
    x = next_due s.counts s.dues s.header.n

    f : LeastFirstDue s.counts s.dues s.header.n x
    f = found s.counts s.dues s.header.n (omega (tests, h.sizes))

    go : (b : Bool) → ltb i s.header.n ≡ b → ThreadSound s.header.start s.now (lo i) (ltb i s.header.n) (thread_at s i) (pending_at s i) → Dec (x.thread ≡ 32)
        → (0 < x.due) × (x.due ≤ get_or (slots_at i s.dues) 0 0)
    go false e (absent n t q) d = absurd (omega (arith, ap (λ (q : Pending). q.count) q))
    go false e (fifo n z g a v q) d = absurd (omega (arith, ap (λ (q : Pending). q.count) q))
    go false e (rr n z g a v q) d = absurd (omega (arith, ap (λ (q : Pending). q.count) q))
    go false e (sporadic n z g a v) d = false-true (sym e ∙ n)
    go true e k (yes d) = absurd (omega (arith, (f.none d).1 i (ltb-true _ _ e)))
    go true e k (no d) =
        let r = f.some d in
        let m : x.thread < 32 = omega (tests, r.0, h.sizes) in
        let y = due-after s.header.start s.now (lo x.thread) (ltb x.thread s.header.n) (thread_at s x.thread) (pending_at s x.thread) (h.each x.thread m) r.1 in
        (omega (arith, r.2, y, row_first x.thread s.dues), omega (arith, f.least d i (ltb-true _ _ e) c, row_first i s.dues))

-- each due is after m, where the next moment is
pub dues-after : (lo : ℕ → ℕ) (s : State) (m : ℕ) → SoundFrom lo s → (0 < next s → m < next s) → (i : ℕ) → i < 32 → 0 < get_or s.counts i 0
    → m < get_or (slots_at i s.dues) 0 0
dues-after lo s m h q i l c =
    let r = next-due lo s h i l c in
    let y = earlier-right (limit s) (next_due s.counts s.dues s.header.n).due r.0 in
    omega (arith, q y.0, y.1, r.1)

pub later : (s : State) → Sound s → 0 < next s → s.now < next s
later s h q = earlier-above s.now (limit s) x.due (limit-later (λ i. s.now) s h) due q
  where
    x : Due
    x = next_due s.counts s.dues s.header.n

    due : 0 < (next_due s.counts s.dues s.header.n).due → s.now < (next_due s.counts s.dues s.header.n).due
    due p = go (ℕ_discrete x.thread 32)
      where
        f : LeastFirstDue s.counts s.dues s.header.n x
        f = found s.counts s.dues s.header.n (omega (tests, h.sizes))

        go : Dec (x.thread ≡ 32) → s.now < x.due
        go (yes d) = absurd (omega (arith, (f.none d).0))
        go (no d) =
            let r = f.some d in
            let m : x.thread < 32 = omega (tests, r.0, h.sizes) in
            let y = due-after s.header.start s.now s.now (ltb x.thread s.header.n) (thread_at s x.thread) (pending_at s x.thread) (h.each x.thread m) r.1 in
            omega (arith, r.2, y, row_first x.thread s.dues)

-- ---- soundness while ticks go by

-- a thread that does not run
pub wait-thread : (start now now' lo lo' : ℕ) (b : Bool) (t : Thread) (q : Pending) → ThreadSound start now lo b t q → now ≤ now'
    → (0 < q.count → lo' < get_or q.dues 0 0) → ThreadSound start now' lo' b t q
wait-thread start now now' lo lo' b t q (absent n e f) l d = absent n e f
wait-thread start now now' lo lo' b t q (fifo n z h a v f) l d = fifo n z h a v f
wait-thread start now now' lo lo' b t q (rr n z h a v f) l d = rr n z h a v f
wait-thread start now now' lo lo' b t q (sporadic n z h a v) l d =
    sporadic n z h a
    (time-passes start now lo t.parameters (record { server = t.server; pending = q }) now' lo'
    (runs_upper (is_blocked t) t.parameters (record { server = t.server; pending = q })) v l (first-bound q lo' d))

-- ticks that do not use up what the thread runs on
pub record Within (list k : ℕ) (t : Thread) : Type 0 where
  pub quantum : t.parameters.policy ≡ 1 → k < t.left
  pub capacity : t.parameters.policy ≡ 2 → eqb list t.parameters.priority ≡ true → k < t.server.capacity

-- its server after so many ticks in a list
pub ran-upper : (list k : ℕ) (t : Thread) → t.parameters.policy ≡ 2 → eqb list t.parameters.priority ≡ true → (ran list k t).server ≡ charged k t.server
ran-upper list k t z e = by_two t.parameters.policy t.server t.server _ z ∙ cond-true (eqb list t.parameters.priority) _ _ e

pub ran-low : (list k : ℕ) (t : Thread) → t.parameters.policy ≡ 2 → eqb list t.parameters.priority ≡ false → (ran list k t).server ≡ t.server
ran-low list k t z e = by_two t.parameters.policy t.server t.server _ z ∙ cond-false (eqb list t.parameters.priority) _ _ e

upper-ran : (k : ℕ) (p : Parameters) (v : Server) (q : Pending) → k < v.capacity
    → is_upper p (record { server = charged k v; pending = q }) ≡ is_upper p (record { server = v; pending = q })
upper-ran k p v q l = rw (lt-ltb 0 (v.capacity - k) (omega arith), lt-ltb 0 v.capacity (omega arith))

-- the running thread
run-thread : (start now lo lo' k list : ℕ) (b : Bool) (t : Thread) (q : Pending) → ThreadSound start now lo b t q → is_blocked t ≡ false → assigned t q.count ≡ list → 1 ≤ list
    → (0 < q.count → lo' < get_or q.dues 0 0) → Within list k t → ThreadSound start (now + k) lo' b (ran list k t) q
run-thread start now lo lo' k list b t q (absent n e f) w a g d m = absurd (omega (arith, ap (λ (x : Thread). assigned x q.count) e))
run-thread start now lo lo' k list b t q (fifo n z h l v f) w a g d m = fifo n z h (by_zero t.parameters.policy _ _ _ z ∙ l) (by_zero t.parameters.policy _ _ _ z ∙ v) f
run-thread start now lo lo' k list b t q (rr n z h l v f) w a g d m =
    rr n z h (subst⁻¹ (λ (y : ℕ). All (leb 1 y ∷ leb y t.parameters.budget ∷ [])) (by_one t.parameters.policy t.left (t.left - k) t.left z) (omega (tests, l, m.quantum z)))
    (by_one t.parameters.policy _ _ _ z ∙ v) f
run-thread start now lo lo' k list b t q (sporadic n z h l v) w a g d m = go (eqb list t.parameters.priority) refl
  where
    go : (c : Bool) → eqb list t.parameters.priority ≡ c → ThreadSound start (now + k) lo' b (ran list k t) q
    go true e =
        let u = upper-at list t q z (omega (tests, h)) a e in
        let c = m.capacity z e in
        let y : AccountSound start now lo true t.parameters (record { server = t.server; pending = q }) =
        subst (λ (x : Bool). AccountSound start now lo x t.parameters (record { server = t.server; pending = q })) (cond-false (is_blocked t) false _ w ∙ u) v in
        sporadic n z h (by_two t.parameters.policy _ _ _ z ∙ l)
        (subst⁻¹
        (λ (x : Server). AccountSound start (now + k) lo' (runs_upper (is_blocked t) t.parameters (record { server = x; pending = q })) t.parameters (record { server = x; pending = q }))
        (ran-upper list k t z e)
        (subst⁻¹ (λ (x : Bool). AccountSound start (now + k) lo' x t.parameters (record { server = charged k t.server; pending = q }))
        (cond-false (is_blocked t) false _ w ∙ upper-ran k t.parameters t.server q c ∙ u)
        (charge-sound start now lo t.parameters (record { server = t.server; pending = q }) k lo' y (omega arith) (first-bound q lo' d))))
    go false e =
        sporadic n z h (by_two t.parameters.policy _ _ _ z ∙ l)
        (subst⁻¹
        (λ (x : Server). AccountSound start (now + k) lo' (runs_upper (is_blocked t) t.parameters (record { server = x; pending = q })) t.parameters (record { server = x; pending = q }))
        (ran-low list k t z e)
        (time-passes start now lo t.parameters (record { server = t.server; pending = q }) (now + k) lo'
        (runs_upper (is_blocked t) t.parameters (record { server = t.server; pending = q })) v (omega arith) (first-bound q lo' d)))

-- ticks within the limits leave the assigned priority
assigned-ran : (start now lo list k : ℕ) (b : Bool) (t : Thread) (q : Pending) → ThreadSound start now lo b t q → Within list k t
    → assigned (ran list k t) q.count ≡ assigned t q.count
assigned-ran start now lo list k b t q x m = go x
  where
    keep : (v : Server) → at_upper t.parameters v.capacity q.count ≡ at_upper t.parameters t.server.capacity q.count
        → by_policy t.parameters.policy t.parameters.priority t.parameters.priority
        (cond (at_upper t.parameters v.capacity q.count) t.parameters.priority t.parameters.low) ≡ assigned t q.count
    keep v e =
        ap (λ (u : Bool). by_policy t.parameters.policy t.parameters.priority t.parameters.priority (cond u t.parameters.priority t.parameters.low)) e

    same : (ran list k t).server ≡ t.server → assigned (ran list k t) q.count ≡ assigned t q.count
    same e = keep (ran list k t).server (ap (λ (v : Server). at_upper t.parameters v.capacity q.count) e)

    go : ThreadSound start now lo b t q → assigned (ran list k t) q.count ≡ assigned t q.count
    go (absent n e f) = same (by_zero t.parameters.policy _ _ _ (ap (λ (x : Thread). x.parameters.policy) e))
    go (fifo n z h l v f) = same (by_zero t.parameters.policy _ _ _ z)
    go (rr n z h l v f) = same (by_one t.parameters.policy _ _ _ z)
    go (sporadic n z h l v) = at (eqb list t.parameters.priority) refl
      where
        at : (c : Bool) → eqb list t.parameters.priority ≡ c → assigned (ran list k t) q.count ≡ assigned t q.count
        at true e =
            keep (ran list k t).server
            (ap (λ (v : Server). at_upper t.parameters v.capacity q.count) (ran-upper list k t z e) ∙ upper-ran k t.parameters t.server q (m.capacity z e))
        at false e = same (ran-low list k t z e)

-- a sound state after k ticks: dues are after lo', and nothing was used up
pub charged-sound : (lo lo' : ℕ → ℕ) (k : ℕ) (s : State) → SoundFrom lo s → ((i : ℕ) → i < 32 → 0 < get_or s.counts i 0 → lo' i < get_or (slots_at i s.dues) 0 0)
    → (idles s ≡ false → Within (level s) k (thread_at s (head s))) → s.now + k ≤ 1000000000000000 → SoundFrom lo' (charge k s)
charged-sound lo lo' k s h d w l = go (idles s) refl
  where
    go : (b : Bool) → idles s ≡ b → SoundFrom lo' (charge k s)
    go true e =
        record {
          sizes = rw e (omega (tests, h.sizes));
          each = λ i m. rw e (wait-thread s.header.start s.now (s.now + k) (lo i) (lo' i) (ltb i s.header.n) (thread_at s i) (pending_at s i) (h.each i m) (omega arith) (d i m));
          lists = rw e h.lists;
          timed = rw e (omega (arith, h.timed));
        }
    go false e =
        let r = runs lo s h e in
        let t = thread_at s (head s) in
        let q = pending_at s (head s) in
        let x = h.each (head s) r.small in
        let n : head s < length s.threads = omega (tests, h.sizes, r.small) in
        record {
          sizes = rw (e, length-set s.threads (head s) (ran (level s) k t)) (omega (tests, h.sizes));
          each = λ i m. rw e (each i m (ℕ_discrete i (head s)) e);
          lists = rw e (sound-same (place s) (λ i. place_of (get_or (set s.threads (head s) (ran (level s) k t)) i no_thread) (get_or s.counts i 0)) s.word s.lists
              (λ i m. places i (ℕ_discrete i (head s)) e) h.lists);
          timed = rw e (omega (arith, h.timed, totals-set s.threads (head s) (ran (level s) k t) n));
        }
      where
        each : (i : ℕ) → i < 32 → Dec (i ≡ head s) → idles s ≡ false
            → ThreadSound s.header.start (s.now + k) (lo' i) (ltb i s.header.n) (get_or (set s.threads (head s) (ran (level s) k (thread_at s (head s)))) i no_thread) (pending_at s i)
        each i m (yes c) e =
            let r = runs lo s h e in
            subst⁻¹ (λ (j : ℕ). ThreadSound s.header.start (s.now + k) (lo' j) (ltb j s.header.n) (get_or (set s.threads (head s) (ran (level s) k (thread_at s (head s)))) j no_thread) (pending_at s j)) c
            (rw (get_or-set_same s.threads (head s) (ran (level s) k (thread_at s (head s))) no_thread (omega (tests, h.sizes, r.small)))
            (run-thread s.header.start s.now (lo (head s)) (lo' (head s)) k (level s) (ltb (head s) s.header.n) (thread_at s (head s)) (pending_at s (head s))
            (h.each (head s) r.small) r.awake r.stands r.range.0 (d (head s) r.small) (w e)))
        each i m (no c) e =
            rw (get_or-set_other s.threads (head s) i (ran (level s) k (thread_at s (head s))) no_thread c)
            (wait-thread s.header.start s.now (s.now + k) (lo i) (lo' i) (ltb i s.header.n) (thread_at s i) (pending_at s i) (h.each i m) (omega arith) (d i m))

        places : (i : ℕ) → Dec (i ≡ head s) → idles s ≡ false
            → place_of (get_or (set s.threads (head s) (ran (level s) k (thread_at s (head s)))) i no_thread) (get_or s.counts i 0) ≡ place s i
        places i (yes c) e =
            let r = runs lo s h e in
            subst⁻¹ (λ (j : ℕ). place_of (get_or (set s.threads (head s) (ran (level s) k (thread_at s (head s)))) j no_thread) (get_or s.counts j 0) ≡ place s j) c
            (rw (get_or-set_same s.threads (head s) (ran (level s) k (thread_at s (head s))) no_thread (omega (tests, h.sizes, r.small)))
            (ap (λ (a : ℕ). cond (is_blocked (thread_at s (head s))) 0 a)
            (assigned-ran s.header.start s.now (lo (head s)) (level s) k (ltb (head s) s.header.n) (thread_at s (head s)) (pending_at s (head s)) (h.each (head s) r.small) (w e))))
        places i (no c) e = rw (get_or-set_other s.threads (head s) i (ran (level s) k (thread_at s (head s))) no_thread c)

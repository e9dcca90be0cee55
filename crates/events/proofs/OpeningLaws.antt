-- An accepted opening gives a sound state.
use Prim.Native.Nat.{ℕ, zero, suc, ◌+◌, ◌*◌, ◌≤◌, ◌<◌}
use mathlib.Core.Bool.{Bool, true, false, cond, ◌&&◌}
use mathlib.Core.Path.{◌≡◌, refl, sym, ap, ◌∙◌, subst, subst⁻¹}
use mathlib.Core.List.{List, [], ◌∷◌}
use lib.ListN.{length, get_or, take, drop, replicate, get_or-replicate}
use lib.Dec.{ltb, leb, eqb}
use native.Mathlib.Omega.{arith}
use native.Mathlib.Decide.{ℕ_discrete}
use borrow.Author.Tests.{not-false, eq-eqb, ne_eqb, lt-ltb, le-ltb, ltb-true, ltb-false, leb-true}
use Rattle.records.specs.declared.Parameters.{Parameters}
use Rattle.records.specs.declared.Header.{Header}
use Rattle.base.specs.Tests.{zeros}
use Rattle.records.specs.Ranges.{in_range, no_parameters}
use Rattle.base.proofs.TestLaws.{tests, All, below_at, zeros-eq, zeros-drop, zeros-replicate, cond-true, cond-false, false-true}
use Rattle.account.specs.declared.Pending.{Pending}
use Rattle.account.specs.Account.{new_account}
use Rattle.ready.specs.Lists.{appended}
use Rattle.ready.specs.Word.{occupancy}
use Rattle.ready.proofs.Soundness.{ListsSound}
use Rattle.ready.proofs.SoundLaws.{with_place, sound-same, append-sound, empty-sound}
use Rattle.passing.specs.Sequence.{Answer, accepted}
use Rattle.base.proofs.RefusalLaws.{passed}
use Rattle.thread.specs.declared.Thread.{Thread}
use Rattle.state.specs.declared.State.{State}
use Rattle.rows.specs.Rows.{slots_at}
use Rattle.state.specs.State.{thread_at, pending_at, place}
use Rattle.thread.specs.Thread.{no_thread, assigned, place_of, renewed, with_blocked, with_server}
use Rattle.state.specs.Sound.{totals, sound_state}
use Rattle.rows.proofs.RowLaws.{row-length}
use Rattle.state.proofs.SoundLaws.{no_pending, ThreadSound, Sound, state-in}
use Rattle.state.proofs.SoundLaws.ThreadSound.{absent, fifo, rr, sporadic}
use Rattle.moments.proofs.ChangeLaws.{with_bound, totals-set, changed-at}
use Rattle.moments.proofs.FireLaws.{bounds-same}
use Rattle.state.specs.Updates.{with_header, with_lists, with_account}
use Rattle.events.specs.Answers.{executive}
use Rattle.events.specs.Opening.{empty_state, no_state, without_flag, entered, entered_below, open_status, opening}
use Rattle.events.proofs.FitLaws.{Fits, set-fits}
use Rattle.events.proofs.EventLaws.{and_both}

-- the same state with another number of threads
abbrev with_n : ℕ → State → State
with_n k s = with_header (record { n = k; start = s.header.start }) s

-- what a state meets once k threads have entered
pub record Entered (k : ℕ) (s : State) : Type 0 where
  pub sizes : All (leb s.header.start s.now ∷ leb s.now 1000000000000000 ∷ eqb (length s.threads) 32 ∷ eqb (length s.counts) 32 ∷ eqb (length s.dues) 256 ∷ eqb (length s.amounts) 256 ∷ [])
  pub each : (i : ℕ) → i < 32 → ThreadSound s.header.start s.now s.now (ltb i k) (thread_at s i) (pending_at s i)
  pub lists : ListsSound (place s) s.word s.lists
  pub timed : s.header.start + totals s.threads + s.idle ≡ s.now

-- and the other way round
entered_of : (k : ℕ) (s : State) → Sound (with_n k s) → Entered k s
entered_of k s h = record { sizes = omega (tests, h.sizes); each = h.each; lists = h.lists; timed = h.timed }

sound-of : (k : ℕ) (s : State) → 1 ≤ k → k ≤ 32 → Entered k s → Sound (with_n k s)
sound-of k s a b h = record { sizes = omega (tests, h.sizes); each = h.each; lists = h.lists; timed = h.timed }

-- a place that is still empty
empty-place : (start now lo k : ℕ) (t : Thread) (q : Pending) → ThreadSound start now lo (ltb k k) t q → t ≡ no_thread
empty-place start now lo k t q (absent n e f) = e
empty-place start now lo k t q (fifo n z g l v f) = false-true (sym (le-ltb k k (omega arith)) ∙ n)
empty-place start now lo k t q (rr n z g l v f) = false-true (sym (le-ltb k k (omega arith)) ∙ n)
empty-place start now lo k t q (sporadic n z g l v) = false-true (sym (le-ltb k k (omega arith)) ∙ n)

same-range : (p : Parameters) → in_range 8 (without_flag p) ≡ in_range 8 p
unfolding in_range Rattle.records.specs.Ranges.fifo_in_range Rattle.records.specs.Ranges.rr_in_range Rattle.records.specs.Ranges.sporadic_in_range
same-range p = refl

-- the number of a thread that starts blocked, or not
flag-most : (b : Bool) → cond b 1 0 ≤ 1
flag-most true = omega arith
flag-most false = omega arith

flag-blocks : (b : Bool) → ltb 0 (cond b 1 0) ≡ b
flag-blocks true = refl
flag-blocks false = refl

module _ (k : ℕ) (s : State) (h : Entered k s) (l : k < 32) (p : Parameters) (r : in_range 8 p ≡ true) where
  t : Thread
  t = with_blocked (cond (eqb p.flag 0) 1 0) (thread_at s k)

  none : thread_at s k ≡ no_thread
  none = empty-place s.header.start s.now s.now k (thread_at s k) (pending_at s k) (h.each k l)

  pub unplaced : place s k ≡ 0
  unplaced = ap (λ (x : Thread). place_of x (get_or s.counts k 0)) none

  f : Fits s.header.start s.now true (renewed (without_flag p) t) (new_account s.now (without_flag p))
      × (assigned (with_server (new_account s.now (without_flag p)).server (renewed (without_flag p) t)) (new_account s.now (without_flag p)).pending.count ≡ p.priority)
      × (1 ≤ p.priority) × (p.priority ≤ 32)
  unfolding t
  f = set-fits s.header.start s.now t (without_flag p) (omega (tests, h.sizes)) (flag-most (eqb p.flag 0)) (same-range p ∙ r) refl

  ok : Fits s.header.start s.now (ltb k (suc k)) (renewed (without_flag p) t) (new_account s.now (without_flag p))
  ok = subst⁻¹ (λ (b : Bool). Fits s.header.start s.now b (renewed (without_flag p) t) (new_account s.now (without_flag p))) (lt-ltb k (suc k) (omega arith)) f.0

  others : (j : ℕ) → j < 32 → (j ≡ k → ⊥) → ThreadSound s.header.start s.now s.now (ltb j (suc k)) (thread_at s j) (pending_at s j)
  others j m d = subst (λ (b : Bool). ThreadSound s.header.start s.now s.now b (thread_at s j) (pending_at s j)) (go (ltb j k) refl) (h.each j m)
    where
      go : (b : Bool) → ltb j k ≡ b → ltb j k ≡ ltb j (suc k)
      go true q = q ∙ sym (lt-ltb j (suc k) (omega (arith, ltb-true j k q)))
      go false q = q ∙ sym (le-ltb j (suc k) (omega (arith, ltb-false j k q, d)))

  -- with lists that are sound for its place
  with-lists : (l' : List ℕ) → ListsSound (with_place (place s) k (cond (eqb p.flag 0) 0 p.priority)) (occupancy l') l'
      → Sound (with_n (suc k) (with_lists l' (with_account k (renewed (without_flag p) t) (new_account s.now (without_flag p)) s)))
  unfolding t
  with-lists l' q =
      bounds-same (with_bound (λ j. s.now) k s.now) (λ j. s.now) _
      (changed-at (λ j. s.now) (with_n (suc k) s) (omega (tests, h.sizes)) k l (renewed (without_flag p) t) (new_account s.now (without_flag p)) s.now ok.dues ok.amounts ok.sound others
      (omega (arith, h.timed, totals-set s.threads k (with_server (new_account s.now (without_flag p)).server (renewed (without_flag p) t)) (omega (tests, h.sizes)))) l'
      (subst⁻¹ (λ (x : Bool). ListsSound (with_place (place s) k (cond x 0 (assigned (with_server (new_account s.now (without_flag p)).server (renewed (without_flag p) t)) (new_account s.now (without_flag p)).pending.count))) (occupancy l') l') (flag-blocks (eqb p.flag 0))
      (subst⁻¹ (λ (y : ℕ). ListsSound (with_place (place s) k (cond (eqb p.flag 0) 0 y)) (occupancy l') l') f.1 q)))
      (λ j n. go (eqb j k))
    where
      go : (b : Bool) → s.now ≡ cond b s.now s.now
      go true = refl
      go false = refl

  entered-sound : Sound (with_n (suc k) (entered k p s))
  unfolding t
  entered-sound = by (eqb p.flag 0) refl
    where
      goal : List ℕ → Type 0
      goal l' = Sound (with_n (suc k) (with_lists l' (with_account k (renewed (without_flag p) t) (new_account s.now (without_flag p)) s)))

      same : (j : ℕ) → eqb p.flag 0 ≡ true → Dec (j ≡ k) → with_place (place s) k (cond (eqb p.flag 0) 0 p.priority) j ≡ place s j
      same j e (yes c) = cond-true (eqb j k) _ _ (eq-eqb j k c) ∙ cond-true (eqb p.flag 0) 0 p.priority e ∙ sym unplaced ∙ ap (place s) (sym c)
      same j e (no c) = cond-false (eqb j k) _ _ (ne_eqb j k c)

      by : (b : Bool) → eqb p.flag 0 ≡ b → goal (cond (eqb p.flag 0) s.lists (appended p.priority k s.lists))
      by true e =
          subst⁻¹ goal (cond-true (eqb p.flag 0) s.lists (appended p.priority k s.lists) e)
          (with-lists s.lists
          (subst (λ (w : ℕ). ListsSound (with_place (place s) k (cond (eqb p.flag 0) 0 p.priority)) w s.lists) h.lists.agrees
          (sound-same (place s) (with_place (place s) k (cond (eqb p.flag 0) 0 p.priority)) s.word s.lists (λ j n. same j e (ℕ_discrete j k)) h.lists)))
      by false e =
          subst⁻¹ goal (cond-false (eqb p.flag 0) s.lists (appended p.priority k s.lists) e)
          (with-lists (appended p.priority k s.lists)
          (subst⁻¹ (λ (y : ℕ). ListsSound (with_place (place s) k y) (occupancy (appended p.priority k s.lists)) (appended p.priority k s.lists)) (cond-false (eqb p.flag 0) 0 p.priority e)
          (append-sound (place s) s.word s.lists h.lists k l p.priority f.2 f.3 unplaced)))

-- ---- from the empty state on

zeros-take : (n : ℕ) (xs : List ℕ) → All (zeros xs) → All (zeros (take n xs))
zeros-take zero xs h = tt
zeros-take (suc n) [] h = tt
zeros-take (suc n) (x ∷ xs) h = (h.0, zeros-take n xs h.1)

empty-row : (i : ℕ) → i < 32 → slots_at i (replicate 256 0) ≡ replicate 8 0
empty-row i l =
    zeros-eq (slots_at i (replicate 256 0)) (zeros-take 8 (drop (i * 8) (replicate 256 0)) (zeros-drop (i * 8) (replicate 256 0) (zeros-replicate 256)))
    ∙ ap (λ (n : ℕ). replicate n 0) (row-length i (replicate 256 0) l refl)

module _ (header : Header) (top : header.start ≤ 1000000000000000) where
  no-thread : (i : ℕ) → i < 32 → thread_at (empty_state header) i ≡ no_thread
  no-thread i l = get_or-replicate 32 i no_thread no_thread l

  no-pending : (i : ℕ) → i < 32 → pending_at (empty_state header) i ≡ no_pending
  no-pending i l =
      λ x. record { count = get_or-replicate 32 i 0 0 l x; dues = empty-row i l x; amounts = empty-row i l x }

  empty-entered : Entered 0 (empty_state header)
  empty-entered =
      record {
        sizes = omega tests;
        each = λ i l. absent (le-ltb i 0 (omega arith)) (no-thread i l) (no-pending i l);
        lists = sound-same (λ i. 0) (place (empty_state header)) 0 (replicate 1056 0) (λ i l. ap (λ (t : Thread). place_of t (get_or (replicate 32 0) i 0)) (no-thread i l)) empty-sound;
        timed = omega arith;
      }

  pub below-entered : (table : List Parameters) (k : ℕ) → k ≤ 32 → ((i : ℕ) → i < k → in_range 8 (get_or table i no_parameters) ≡ true)
      → Entered k (entered_below k table (empty_state header))
  unfolding entered_below
  below-entered table zero l r = empty-entered
  below-entered table (suc k) l r =
      entered_of (suc k) (entered k (get_or table k no_parameters) (entered_below k table (empty_state header)))
      (entered-sound k (entered_below k table (empty_state header)) (below-entered table k (omega arith) (λ i m. r i (omega arith))) (omega arith) (get_or table k no_parameters) (r k (omega arith)))

-- N stays what the opening was given
pub header-entered : (table : List Parameters) (k : ℕ) (s : State) → (entered_below k table s).header ≡ s.header
unfolding entered_below
header-entered table zero s = refl
header-entered table (suc k) s = header-entered table k s

pub opened-sound : (header : Header) (table : List Parameters) → open_status header table ≡ 0 → Sound (entered_below header.n table (empty_state header))
unfolding open_status
opened-sound header table z =
    let n = header.n in
    let a = passed _ 4 _ z in
    let b = passed _ 2 _ a.1 in
    let c = passed _ 5 _ b.1 in
    let r = and_both (leb 1 n) (leb n 32) (not-false _ a.0) in
    let t = ltb-false 1000000000000000 header.start b.0 in
    let v = not-false _ c.0 in
    let s = entered_below n table (empty_state header) in
    let e = below-entered header t table n (leb-true n 32 r.1)
    (λ i m. (and_both (in_range 8 (get_or table i no_parameters)) (leb (get_or table i no_parameters).flag 1)
    (below_at n (λ i. in_range 8 (get_or table i no_parameters) && leb (get_or table i no_parameters).flag 1) v i m)).0) in
    subst Sound
    (ap (λ (x : Header). with_header (record { n = x.n; start = s.header.start }) s) (sym (header-entered table n (empty_state header))))
    (sound-of n s (leb-true 1 n r.0) (leb-true n 32 r.1) e)

-- an accepted opening is sound
pub opening-sound : (header : Header) (table : List Parameters) → (opening header table).status ≡ 0 → sound_state (opening header table).state ≡ true
unfolding opening
opening-sound header table z = go (ℕ_discrete (open_status header table) 0)
  where
    opened : Answer State
    opened = accepted executive (entered_below header.n table (empty_state header))

    closed : Answer State
    closed = record { status = open_status header table; running = 255; next = 0; state = no_state }

    go : Dec (open_status header table ≡ 0) → sound_state (cond (eqb (open_status header table) 0) opened closed).state ≡ true
    go (yes e) =
        subst⁻¹ (λ (a : Answer State). sound_state a.state ≡ true) (cond-true (eqb (open_status header table) 0) opened closed (eq-eqb (open_status header table) 0 e))
        (state-in (entered_below header.n table (empty_state header)) (opened-sound header table e))
    go (no e) = absurd (e (sym (ap (λ (a : Answer State). a.status) (cond-false (eqb (open_status header table) 0) opened closed (ne_eqb (open_status header table) 0 e))) ∙ z))

-- Soundness of an account as a proposition, and how the rules keep it.
use Prim.Native.Nat.{ℕ, zero, suc, ◌+◌, ◌-◌, ◌≤◌, ◌<◌, min}
use mathlib.Core.Bool.{Bool, true, false, cond, ◌&&◌}
use mathlib.Core.Path.{◌≡◌, refl, sym, ap, ◌∙◌, subst}
use mathlib.Core.List.{List, [], ◌∷◌, ◌++◌}
use lib.ListN.{length, take, drop, get_or, length-append}
use lib.Seq.{take-append-le, drop-append-le, drop-drop}
use lib.Dec.{ltb, leb, eqb}
use native.Mathlib.Omega.{arith}
use borrow.Author.Tests.{lt-ltb, le-ltb, ltb-true, leb-false, eq-eqb, ne_eqb}
use Rattle.records.specs.declared.Parameters.{Parameters}
use Rattle.base.proofs.TestLaws.{tests, All, all_true, true-all, false-true, zeros-drop, zeros-append, zeros-replicate}
use Rattle.sporadic.specs.declared.Server.{Server}
use Rattle.account.specs.declared.Pending.{Pending}
use Rattle.account.specs.declared.Account.{Account}
use Rattle.sporadic.specs.declared.Effect.{Effect}
use Rattle.sporadic.specs.declared.Place.{Place}
use Rattle.sporadic.specs.declared.Place.TheVariants.{Stays, Low, LowThenUpper, Upper}
use Rattle.account.specs.Account.{pending_dues, pending_amounts, is_upper, first_due, fresh_account}
use Rattle.account.specs.Rules.{without_first, slot_for, inserted, applied, first_is_due, return_first}
use Rattle.sporadic.specs.Rules.{charged, due_of, cleared, activated, pending_later, back_at_once, scheduled, limit_effect, block_effect, wake_effect, first_back}
use Rattle.account.specs.Sound.{sum, positive, due_tests, last_due, number_tests, amount_tests, slot_tests, runs_upper, sound_tests, sound_at}
use Rattle.entries.proofs.InsertLaws.{slot-for, parts, inserted-part, inserted-rest, inserted-length}
use Rattle.account.proofs.EntryLaws.{with_entry}
use Rattle.account_laws.proofs.OrderLaws.{sum-among, positive-among, times-inserted}
use Rattle.sporadic.proofs.ChargeLaws.{charge-sum}
use Rattle.sporadic.proofs.EffectLaws.{schedule-elim, at-limit-elim, return-elim}

abbrev pub made : Server → Pending → Account
made s q = record { server = s; pending = q }

-- dues are after lo, which is now in a sound account; `up`: runnable at the upper priority
pub record AccountSound (start now lo : ℕ) (up : Bool) (p : Parameters) (a : Account) : Type 0 where
  pub numbers : All (number_tests start now up p a.server a.pending.count)
  pub sums : All (amount_tests p.budget (a.server.capacity + a.server.used) (pending_amounts a.pending))
  pub times : All (due_tests (lo + 1) (last_due now) (pending_dues a.pending))
  pub due_slots : All (slot_tests a.pending.count a.pending.dues)
  pub amount_slots : All (slot_tests a.pending.count a.pending.amounts)

module _ (start now : ℕ) (blocked : Bool) (p : Parameters) (a : Account) where
  pub sound-out : sound_at start now blocked p a ≡ true → AccountSound start now now (runs_upper blocked p a) p a
  unfolding sound_at
  sound-out e =
      let h = all_true (sound_tests start now blocked p a) e in
      record {
        numbers = all_true (number_tests start now (runs_upper blocked p a) p a.server a.pending.count) h.0;
        sums = all_true (amount_tests p.budget (a.server.capacity + a.server.used) (pending_amounts a.pending)) h.1.0;
        times = all_true (due_tests (now + 1) (last_due now) (pending_dues a.pending)) h.1.1.0;
        due_slots = all_true (slot_tests a.pending.count a.pending.dues) h.1.1.1.0;
        amount_slots = all_true (slot_tests a.pending.count a.pending.amounts) h.1.1.1.1.0;
      }

  pub sound-in : AccountSound start now now (runs_upper blocked p a) p a → sound_at start now blocked p a ≡ true
  unfolding sound_at
  sound-in h =
      true-all (sound_tests start now blocked p a) (
        true-all (number_tests start now (runs_upper blocked p a) p a.server a.pending.count) h.numbers,
        (
          true-all (amount_tests p.budget (a.server.capacity + a.server.used) (pending_amounts a.pending)) h.sums,
          (
            true-all (due_tests (now + 1) (last_due now) (pending_dues a.pending)) h.times,
            (
              true-all (slot_tests a.pending.count a.pending.dues) h.due_slots,
              (true-all (slot_tests a.pending.count a.pending.amounts) h.amount_slots, tt),
            ),
          ),
        ),
      )

-- ---- lists of dues and amounts

-- another lower bound, before the first due
times-from : (lo hi lo' n : ℕ) (ds : List ℕ) → All (due_tests (lo + 1) hi (take n ds))
    → (0 < cond (eqb n 0) 0 (get_or ds 0 0) → lo' < cond (eqb n 0) 0 (get_or ds 0 0)) → All (due_tests (lo' + 1) hi (take n ds))
times-from lo hi lo' zero ds h q = tt
times-from lo hi lo' (suc n) [] h q = tt
times-from lo hi lo' (suc n) (d ∷ ds) h q =
    let r : 0 < d → lo' < d = rw (ne_eqb (suc n) 0 (λ e. omega arith)) at q in
    (omega (tests, r (omega (tests, h.0))), h.1)

-- a later end
times-wider : (lo hi hi' : ℕ) (ds : List ℕ) → hi ≤ hi' → All (due_tests lo hi ds) → All (due_tests lo hi' ds)
times-wider lo hi hi' [] l h = tt
times-wider lo hi hi' (d ∷ ds) l h = (h.0, (omega (tests, h.1.0), times-wider d hi hi' ds l h.1.1))

-- ---- time passes

module _ (start now lo : ℕ) (p : Parameters) (a : Account) where
  pub time-passes : (now' lo' : ℕ) (up : Bool) → AccountSound start now lo up p a → now ≤ now'
      → (0 < first_due a.pending → lo' < first_due a.pending) → AccountSound start now' lo' up p a
  time-passes now' lo' up h l q =
      record {
        numbers = omega (tests, h.numbers);
        sums = h.sums;
        times =
            times-from lo (last_due now') lo' a.pending.count a.pending.dues
            (times-wider (lo + 1) (last_due now) (last_due now') (pending_dues a.pending) (omega arith) h.times) q;
        due_slots = h.due_slots;
        amount_slots = h.amount_slots;
      }

  -- ticks at the upper priority
  pub charge-sound : (k lo' : ℕ) → AccountSound start now lo true p a → k ≤ a.server.capacity
      → (0 < first_due a.pending → lo' < first_due a.pending)
      → AccountSound start (now + k) lo' true p (made (charged k a.server) a.pending)
  charge-sound k lo' h l q =
      record {
        numbers = omega (tests, h.numbers);
        sums = rw (charge-sum k a.server l) h.sums;
        times =
            times-from lo (last_due (now + k)) lo' a.pending.count a.pending.dues
            (times-wider (lo + 1) (last_due now) (last_due (now + k)) (pending_dues a.pending) (omega arith) h.times) q;
        due_slots = h.due_slots;
        amount_slots = h.amount_slots;
      }

  -- nothing is charged: the same account of a thread that is blocked or low
  pub lower-sound : (up : Bool) → AccountSound start now lo up p a → a.server.used ≡ 0 → AccountSound start now lo false p a
  lower-sound up h e =
      record {
        numbers = omega (tests, h.numbers);
        sums = h.sums;
        times = h.times;
        due_slots = h.due_slots;
        amount_slots = h.amount_slots;
      }

  -- the activation time becomes now
  pub activate-sound : AccountSound start now lo false p a → start ≤ now → AccountSound start now lo true p (made (activated now a.server) a.pending)
  activate-sound h l = record { numbers = omega (tests, h.numbers); sums = h.sums; times = h.times; due_slots = h.due_slots; amount_slots = h.amount_slots }

  -- ---- U is scheduled

  -- it is pending, in due order
  later-is : 0 < a.server.used → applied (pending_later p a.server) a ≡ made (cleared a.server) (with_entry (due_of p a.server) a.server.used a.pending)
  later-is u = simp (ne_eqb a.server.used 0 (λ e. omega arith))

  later-sound : AccountSound start now lo true p a → lo ≤ now → a.pending.count < p.max_repl → p.max_repl ≤ 8 → p.period ≤ 1000000000 → 0 < a.server.used
      → now < due_of p a.server
      → AccountSound start now lo false p (applied (pending_later p a.server) a)
  later-sound h l m m8 mt u d =
      let t = due_of p a.server in
      let x = a.server.used in
      let ds = a.pending.dues in
      let xs = a.pending.amounts in
      let n = a.pending.count in
      let k = slot_for t n ds in
      let kn = (slot-for t n ds).within in
      let ld : n < length ds = omega (tests, h.due_slots.0) in
      let lx : n < length xs = omega (tests, h.amount_slots.0) in
      let s : All (positive (take k xs ++ take (n - k) (drop k xs))) = rw (parts k n x xs kn lx) at h.sums.1 in
      let e : sum (take n xs) ≡ sum (take k xs ++ take (n - k) (drop k xs)) = ap sum (parts k n x xs kn lx) in
      rw (later-is u)
      (record {
        numbers = omega (tests, h.numbers);
        sums =
            rw (inserted-part k n x xs kn lx, sum-among x (take k xs) (take (n - k) (drop k xs)))
            (omega (tests, h.sums.0, e), positive-among x (take k xs) (take (n - k) (drop k xs)) u s);
        times = times-inserted (lo + 1) (last_due now) t n ds ld h.times (omega arith) (omega (tests, h.numbers));
        due_slots = kept k n ds t kn ld h.due_slots;
        amount_slots = kept k n xs x kn lx h.amount_slots;
      })
    where
      kept : (k n : ℕ) (xs : List ℕ) (x : ℕ) → k ≤ n → n < length xs → All (slot_tests n xs) → All (slot_tests (n + 1) (inserted k n x xs))
      kept k n xs x kn l g = (
        ap (λ (m : ℕ). eqb m 8) (inserted-length k n x xs kn l) ∙ g.0,
        rw (inserted-rest k n x xs kn l ∙ sym (drop-drop 1 n xs)) (zeros-drop 1 (drop n xs) g.1),
      )

  -- it comes back at once
  once-sound : AccountSound start now lo true p a → AccountSound start now lo false p (applied (back_at_once p a.server) a)
  once-sound h =
      let e : min (a.server.capacity + a.server.used) p.budget + 0 ≡ a.server.capacity + a.server.used = omega (tests, h.sums.0) in
      record {
        numbers = omega (tests, h.numbers);
        sums = rw e h.sums;
        times = h.times;
        due_slots = h.due_slots;
        amount_slots = h.amount_slots;
      }

  -- whichever it is, the account is that of a thread that is blocked or low
  pub schedule-sound : (up : Bool) → AccountSound start now lo up p a → lo ≤ now → p.max_repl ≤ 8 → p.period ≤ 1000000000
      → (up ≡ true → a.pending.count < p.max_repl) → AccountSound start now lo false p (applied (scheduled now p a.server) a)
  schedule-sound up h l m8 mt m =
      schedule-elim now p a.server (λ (e : Effect). AccountSound start now lo false p (applied e a)) (λ u. lower-sound up h u) (λ u d. once-sound (upper up u h))
      (λ u d. later-sound (upper up u h) l (m (is up u h)) m8 mt u d)
    where
      -- what is charged is charged at the upper priority
      is : (up : Bool) → 0 < a.server.used → AccountSound start now lo up p a → up ≡ true
      is true u h = refl
      is false u h = absurd (omega (tests, h.numbers))

      upper : (up : Bool) → 0 < a.server.used → AccountSound start now lo up p a → AccountSound start now lo true p a
      upper true u h = h
      upper false u h = absurd (omega (tests, h.numbers))

-- ---- the rules: what each leaves, and where it sends a runnable thread

pub record Sent (start now lo : ℕ) (up : Bool) (p : Parameters) (x : Place) (a : Account) (e : Effect) : Type 0 where
  pub sound : AccountSound start now lo up p (applied e a)
  pub upper : is_upper p (applied e a) ≡ up
  pub place : e.place ≡ x

pub upper-yes : (p : Parameters) (a : Account) → 0 < a.server.capacity → a.pending.count < p.max_repl → is_upper p a ≡ true
upper-yes p a h l = simp (lt-ltb 0 a.server.capacity h, lt-ltb a.pending.count p.max_repl l)

upper-no : (p : Parameters) (a : Account) → a.server.capacity ≡ 0 → is_upper p a ≡ false
upper-no p a e = simp (le-ltb 0 a.server.capacity (omega arith))

pub upper-room : (p : Parameters) (a : Account) → is_upper p a ≡ true → (0 < a.server.capacity) × (a.pending.count < p.max_repl)
upper-room p a e = go (ltb 0 a.server.capacity) refl e
  where
    go : (b : Bool) → ltb 0 a.server.capacity ≡ b → (b && ltb a.pending.count p.max_repl) ≡ true
        → (0 < a.server.capacity) × (a.pending.count < p.max_repl)
    go true q r = (ltb-true 0 a.server.capacity q, ltb-true a.pending.count p.max_repl r)
    go false q r = false-true r

module _ (start now : ℕ) (p : Parameters) where
  -- an account as opening and a set give it
  pub fresh-sound : (up : Bool) → start ≤ now → 1 ≤ p.budget → 1 ≤ p.max_repl
      → AccountSound start now now up p (fresh_account now p) × (is_upper p (fresh_account now p) ≡ true)
  fresh-sound up l b m = (
    record {
      numbers = by up;
      sums = omega tests;
      times = tt;
      due_slots = (refl, zeros-replicate 8);
      amount_slots = (refl, zeros-replicate 8);
    },
    upper-yes p (fresh_account now p) b m,
  )
    where
      by : (up : Bool) → All (number_tests start now up p (fresh_account now p).server 0)
      by true = omega tests
      by false = omega tests

  module _ (lo : ℕ) (a : Account) where
    -- the limit, at its instant: a thread that was at its upper priority, with its capacity used up
    pub limit-sent : AccountSound start now lo true p a → 0 < a.server.used → a.server.capacity ≡ 0 → a.pending.count < p.max_repl → start ≤ now → lo ≤ now
        → p.max_repl ≤ 8 → p.period ≤ 1000000000 → (P : Effect → Type 0) → ((e : Effect) → Sent start now lo true p LowThenUpper a e → P e)
        → ((e : Effect) → Sent start now lo false p Low a e → P e) → P (limit_effect now false p a.server)
    unfolding limit_effect
    limit-sent h u z m st l m8 mt P up low =
        rw (eq-eqb a.server.capacity 0 z)
        (at-limit-elim now p a.server P (λ n. absurd (omega arith))
        (λ v d. up _ (record {
          sound = activate-sound start now lo p (applied (back_at_once p a.server) a) (once-sound start now lo p a h) st;
          upper = upper-yes p (applied (back_at_once p a.server) a) (omega (tests, h.sums.0)) m;
          place = refl;
        }))
        (λ v d. low _ (record {
          sound = later-sound start now lo p a h l m m8 mt u d;
          upper = upper-no p (applied (pending_later p a.server) a) z;
          place = refl;
        })))

    -- a block: the thread stands in no list afterwards
    pub block-sound : (up : Bool) → AccountSound start now lo up p a → lo ≤ now → p.max_repl ≤ 8 → p.period ≤ 1000000000
        → (up ≡ true → a.pending.count < p.max_repl) → AccountSound start now lo false p (applied (block_effect now false p a.server) a)
    block-sound up h l m8 mt m = schedule-sound start now lo p a up h l m8 mt m

    -- a wake of a blocked thread
    pub wake-upper : AccountSound start now lo false p a → start ≤ now → is_upper p a ≡ true
        → Sent start now lo true p Upper a (wake_effect now true p a.pending.count a.server)
    wake-upper h l e = rw e (record { sound = activate-sound start now lo p a h l; upper = e; place = refl })

    pub wake-low : AccountSound start now lo false p a → is_upper p a ≡ false → Sent start now lo false p Low a (wake_effect now true p a.pending.count a.server)
    wake-low h e = rw e (record { sound = h; upper = e; place = refl })

-- ---- an entry comes back

-- the first of n + 1 slots goes, and the others move up
pop-part : (n : ℕ) (xs : List ℕ) → suc n ≤ length xs → take n (without_first xs) ≡ drop 1 (take (suc n) xs)
pop-part n [] l = absurd (omega arith)
pop-part n (x ∷ xs) l = take-append-le n xs (0 ∷ []) (omega arith)

pop_places : (n : ℕ) (xs : List ℕ) → suc n ≤ length xs → All (slot_tests (suc n) xs) → All (slot_tests n (without_first xs))
pop_places n [] l g = absurd (omega arith)
pop_places n (x ∷ xs) l g = (
  rw (length-append xs (0 ∷ [])) (omega (tests, g.0)),
  rw (drop-append-le n xs (0 ∷ []) (omega arith)) (zeros-append (drop n xs) (0 ∷ []) g.1 (refl, tt)),
)

pop-sum : (n : ℕ) (xs : List ℕ) → suc n ≤ length xs → All (positive (take (suc n) xs))
    → (sum (take (suc n) xs) ≡ get_or xs 0 0 + sum (drop 1 (take (suc n) xs))) × (0 < get_or xs 0 0) × All (positive (drop 1 (take (suc n) xs)))
pop-sum n [] l g = absurd (omega arith)
pop-sum n (x ∷ xs) l g = (refl, omega (tests, g.0), g.1)

pop-times : (lo hi n : ℕ) (ds : List ℕ) → suc n ≤ length ds → All (due_tests lo hi (take (suc n) ds)) → All (due_tests lo hi (drop 1 (take (suc n) ds)))
pop-times lo hi n [] l g = absurd (omega arith)
pop-times lo hi n (d ∷ ds) l g = sooner (take n ds) g.1.1
  where
    sooner : (xs : List ℕ) → All (due_tests d hi xs) → All (due_tests lo hi xs)
    sooner [] h = tt
    sooner (x ∷ xs) h = (omega (tests, g.0, h.0), h.1)

module _ (start now lo : ℕ) (up : Bool) (p : Parameters) (a : Account) (h : AccountSound start now lo up p a) where
  abbrev first : Effect
  first = first_back p (get_or a.pending.amounts 0 0) a.server

  -- the first comes back: the others are no earlier
  back-sound : 0 < a.pending.count → AccountSound start now lo up p (applied first a)
  back-sound c = go a.pending.count refl
    where
      go : (n : ℕ) → a.pending.count ≡ n → AccountSound start now lo up p (applied first a)
      go zero z = absurd (omega arith)
      go (suc n) z =
          let m : a.pending.count - 1 ≡ n = omega arith in
          let ls : suc n ≤ length a.pending.amounts = omega (tests, h.numbers, h.amount_slots.0) in
          let lt : suc n ≤ length a.pending.dues = omega (tests, h.numbers, h.due_slots.0) in
          let s = pop-sum n a.pending.amounts ls (rw z at h.sums.1) in
          let f = rw z at h.sums.0 in
          record {
            numbers = omega (tests, h.numbers);
            sums = rw (m, pop-part n a.pending.amounts ls) (omega (tests, f, s.0), s.2);
            times = rw (m, pop-part n a.pending.dues lt) (pop-times (lo + 1) (last_due now) n a.pending.dues lt (rw z at h.times));
            due_slots = rw m (pop_places n a.pending.dues lt (rw z at h.due_slots));
            amount_slots = rw m (pop_places n a.pending.amounts ls (rw z at h.amount_slots));
          }

  -- capacity and room: at least 1 came back, and one fewer is pending
  back-upper : 0 < a.pending.count → 1 ≤ p.budget → is_upper p (applied first a) ≡ true
  back-upper c b = go a.pending.count refl
    where
      go : (n : ℕ) → a.pending.count ≡ n → is_upper p (applied first a) ≡ true
      go zero z = absurd (omega arith)
      go (suc n) z =
          let ls : suc n ≤ length a.pending.amounts = omega (tests, h.numbers, h.amount_slots.0) in
          let s = pop-sum n a.pending.amounts ls (rw z at h.sums.1) in
          upper-yes p (applied first a) (omega (arith, s.1)) (omega (tests, h.numbers))

  -- nothing is due: dues are after now
  pub none-sound : first_is_due now a.pending ≡ false → AccountSound start now now up p a
  none-sound e =
      record {
        numbers = h.numbers;
        sums = h.sums;
        times = go a.pending.count a.pending.dues e h.times;
        due_slots = h.due_slots;
        amount_slots = h.amount_slots;
      }
    where
      go : (n : ℕ) (ds : List ℕ) → (ltb 0 n && leb (get_or ds 0 0) now) ≡ false → All (due_tests (lo + 1) (last_due now) (take n ds))
          → All (due_tests (now + 1) (last_due now) (take n ds))
      go zero ds e t = tt
      go (suc n) [] e t = tt
      go (suc n) (d ∷ ds) e t =
          let f : leb d now ≡ false = rw (lt-ltb 0 (suc n) (omega arith)) at e in
          (omega (tests, leb-false d now f), t.1)

-- what the return of the first entry leaves, and where it sends the thread
pub data Returned (start now lo : ℕ) (blocked : Bool) (p : Parameters) (a : Account) (e : Effect) : Type 0 where
  stays : e.place ≡ Stays → AccountSound start now lo (runs_upper blocked p a) p (applied e a) → runs_upper blocked p (applied e a) ≡ runs_upper blocked p a
      → Returned start now lo blocked p a e
  raised : e.place ≡ Upper → blocked ≡ false → is_upper p a ≡ false → AccountSound start now lo true p (applied e a) → is_upper p (applied e a) ≡ true
      → Returned start now lo blocked p a e

pub return-sound : (start now lo : ℕ) (blocked : Bool) (p : Parameters) (a : Account) → AccountSound start now lo (runs_upper blocked p a) p a → 0 < a.pending.count
    → start ≤ now → 1 ≤ p.budget → Returned start now lo blocked p a (return_first now blocked p a)
return-sound start now lo blocked p a h c st b =
    return-elim now p a.server blocked a.pending.count (get_or a.pending.amounts 0 0) (Returned start now lo blocked p a) (λ z. absurd (omega arith))
    (λ n u. stays refl (back-sound start now lo (runs_upper blocked p a) p a h c) (same blocked u))
    (λ n w u. raised refl w u
    (activate-sound start now lo p _ (subst (λ (x : Bool). AccountSound start now lo x p (applied (first_back p (get_or a.pending.amounts 0 0) a.server) a)) (low blocked w u) (back-sound start now lo (runs_upper blocked p a) p a h c)) st)
    up)
  where
    up : is_upper p (applied (first_back p (get_or a.pending.amounts 0 0) a.server) a) ≡ true
    up = back-upper start now lo (runs_upper blocked p a) p a h c b

    low : (x : Bool) → x ≡ false → is_upper p a ≡ false → runs_upper x p a ≡ false
    low true w u = refl
    low false w u = u

    same : (x : Bool) → (x ≡ false → is_upper p a ≡ true) → runs_upper x p (applied (first_back p (get_or a.pending.amounts 0 0) a.server) a) ≡ runs_upper x p a
    same true u = refl
    same false u = up ∙ sym (u refl)

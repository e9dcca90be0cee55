-- `parts_sound::sound_parts` meets its contract: a part that fails makes the list of tests false, and where the others hold the
-- run times decide.
use Prim.Native.Nat.{ℕ, ◌+◌, ◌-◌, ◌≤◌, ◌<◌}
use mathlib.Core.Bool.{Bool, true, false}
use mathlib.Core.Path.{◌≡◌, refl, sym, ap, fun_ext, ◌∙◌}
use mathlib.Core.List.{List}
use native.Mathlib.Omega.{arith}
use lib.ListN.{length, drop, get_or, set, length-set, replicate, get_or-replicate}
use lib.Seq.{get_or-set_other}
use lib.Dec.{ltb, eqb}
use borrow.Author.Tests.{lt-leb, le-leb, eq-eqb, ne_eqb}
use Rattle.records.specs.Ranges.{most_threads, last_time}
use Rattle.base.specs.Tests.{all, below}
use Rattle.base.proofs.TestLaws.{tests, all-false, false-true, never_true, below_at, at-below}
use Rattle.ready.specs.Sound.{sound_lists}
use Rattle.thread.specs.declared.Thread.{Thread}
use Rattle.state.specs.declared.State.{State}
use Rattle.state.specs.State.{thread_at, pending_at, place}
use Rattle.state.specs.Sound.{thread_test, present_test, totals, sound_tests, sound_state}
use Rattle.state.specs.Updates.{state_of}
use Rattle.state.proofs.TestLaws.{◌and◌, by_last, below_next, below_false, eqb_same}
use Rattle.state.proofs.ThreadLaws.{Filled, fill-next, fill_end, totals-next}
use Rattle.state.proofs.AbsentLaws.{no_thread_tests, at-absent, at-present, none_in, none-thread, none-slots, none-run, absent-place, absent-total}
use Rattle.parts_sound.proofs.sound_parts.Invariants.{None, Passed}
use Rattle.parts_sound.proofs.sound_parts.Goals as goal

-- the start time, all run times and the idle time
abbrev sum : State → ℕ
sum s = s.header.start + totals s.threads + s.idle

more : (s : State) (k : ℕ) → None s k → k < 32 → all (no_thread_tests (thread_at s k) (get_or s.counts k 0)) ≡ true → None s (k + 1)
more s k h l e = record { many = h.many; low = omega (arith, h.low); high = omega arith; each = λ j a b. go j a b (ltb j k) refl }
  where
    go : (j : ℕ) → s.header.n ≤ j → j < k + 1 → (t : Bool) → ltb j k ≡ t → all (no_thread_tests (thread_at s j) (get_or s.counts j 0)) ≡ true
    go j a b true q = h.each j a (omega tests)
    go j a b false q = let z : j ≡ k = omega tests in rw z e

module _ {s : State} {left : ℕ} {places : List ℕ} {i : ℕ} (h : Passed s left places i) where
  -- a thread that has run for longer than what is left
  over : i < s.header.n → left < (thread_at s i).total → eqb (sum s) s.now ≡ false
  over g l =
      let t = totals-next s.threads i (omega (arith, h.many, h.few)) in
      ne_eqb (sum s) s.now (λ e. omega (arith, h.rest))

  next : (x : ℕ) → i < s.header.n → thread_test s i ≡ true → (thread_at s i).total ≤ left → x ≡ place s i
      → Passed s (left - (thread_at s i).total) (set places i x) (i + 1)
  next x g t l e = record {
    few = h.few;
    none = h.none;
    range = omega arith;
    many = h.many;
    held = below_next i (thread_test s) h.held t;
    array = simp length-set h.array;
    filled = fill-next s.threads s.counts places i x (omega (arith, h.array, h.few)) h.filled e;
    unfilled = λ j a b. get_or-set_other places i j x 0 (λ q. omega arith) ∙ h.unfilled j (omega arith) b;
    rest = omega (arith, h.rest, totals-next s.threads i (omega (arith, h.many, h.few)));
  }

  -- after the last thread
  module _ (g : s.header.n ≤ i) where
    last : i ≡ s.header.n
    last = omega (arith, h.range)

    every : below 32 (thread_test s) ≡ true
    every = at-below 32 (thread_test s) (λ j l. go j l (ltb j i) refl)
      where
        go : (j : ℕ) → j < 32 → (t : Bool) → ltb j i ≡ t → thread_test s j ≡ true
        go j l true q = below_at i (thread_test s) h.held j (omega tests)
        go j l false q =
            let z : s.header.n ≤ j = omega (tests, last) in
            at-absent s h.few j z ∙ h.none j z l

    placed : Filled s.threads s.counts places 32
    placed j l = go (ltb j i) refl
      where
        go : (t : Bool) → ltb j i ≡ t → get_or places j 0 ≡ place s j
        go true q = h.filled j (omega tests)
        go false q =
            let z : s.header.n ≤ j = omega (tests, last) in
            h.unfilled j (omega tests) l ∙ sym (absent-place (thread_at s j) (pending_at s j) (h.none j z l))

    listed : (r : Bool) → r ≡ sound_lists (λ k. get_or places k 0) s.word s.lists → r ≡ sound_lists (place s) s.word s.lists
    listed r e =
        e
        ∙ ap (λ (p : ℕ → ℕ). sound_lists p s.word s.lists) (fun_ext (fill_end s.threads s.counts places h.array h.many placed))

    timed : eqb left s.idle ≡ eqb (sum s) s.now
    timed =
        let z = none-run s h.few h.many (λ j a b. absent-total (thread_at s j) (pending_at s j) (h.none j a b)) in
        let y : totals (drop i s.threads) ≡ 0 = rw last z in
        eqb_same left s.idle (sum s) s.now (λ q. omega (arith, h.rest)) (λ q. omega (arith, h.rest))

-- facts on numbers alone: with a state of the code in scope `omega` would read all that is known there
below_all : (i n m : ℕ) → i < n → n ≤ m → i < m
below_all i n m l h = omega arith

none_between : {A : Type 0} (n j : ℕ) → n ≤ j → j < n → A
none_between n j h l = absurd (omega arith)

first_rest : (now start total : ℕ) → start ≤ now → now - start + (start + total) ≡ now + total
first_rest now start total h = omega arith

-- what was answered for thread i, below N
module _ (s : State) (few : s.header.n ≤ 32) (i : ℕ) (g : i < s.header.n) {r : Bool}
    (e : r ≡ present_test s.header.start s.now (thread_at s i) (pending_at s i)) where
  thread-true : r ≡ true → thread_test s i ≡ true
  thread-true f = at-present s few i g ∙ sym e ∙ f

  thread-false : r ≡ false → thread_test s i ≡ false
  thread-false f = at-present s few i g ∙ sym e ∙ f

-- no place is filled in at the start
unfilled-first : (ts : List Thread) (counts places : List ℕ) → Filled ts counts places 0
unfilled-first ts counts places j l = absurd (omega arith)

-- a test that every sound state passes
unsound : (s : State) {t : Bool} → t ≡ false → (sound_state s ≡ true → t ≡ true) → false ≡ sound_state s
unsound s e f = sym (never_true _ (λ y. false-true (sym e ∙ f y)))

pub returns-then-header-lt1 : goal.returns-then-header-lt1
unfolding sound_state
returns-then-header-lt1 c = sym (all-false (sound_tests (state_of c.args.header c.args.time c.args.idle c.args.word c.args.threads c.args.counts.now c.args.dues.now c.args.amounts.now c.args.lists.now)) 0 (lt-leb _ _ c.if-header-lt1.true))

pub returns-then-header-gt-MOST : goal.returns-then-header-gt-MOST
unfolding sound_state
returns-then-header-gt-MOST c =
    let s = (state_of c.args.header c.args.time c.args.idle c.args.word c.args.threads c.args.counts.now c.args.dues.now c.args.amounts.now c.args.lists.now) in
    let h : most_threads < s.header.n = omega (arith, c.if-header-gt-MOST.true) in
    sym (all-false (sound_tests s) 1 (lt-leb s.header.n most_threads h))

pub returns-then-time-header : goal.returns-then-time-header
unfolding sound_state
returns-then-time-header c = sym (all-false (sound_tests (state_of c.args.header c.args.time c.args.idle c.args.word c.args.threads c.args.counts.now c.args.dues.now c.args.amounts.now c.args.lists.now)) 2 (lt-leb _ _ c.if-time-header.true))

pub returns-then-time-gt-LAST_TIME : goal.returns-then-time-gt-LAST_TIME
unfolding sound_state
returns-then-time-gt-LAST_TIME c =
    let s = (state_of c.args.header c.args.time c.args.idle c.args.word c.args.threads c.args.counts.now c.args.dues.now c.args.amounts.now c.args.lists.now) in
    let h : last_time < s.now = omega (arith, c.if-time-gt-LAST_TIME.true) in
    sym (all-false (sound_tests s) 3 (lt-leb s.now last_time h))

pub overflow_cast-n : goal.overflow_cast-n
overflow_cast-n c = omega arith

pub loop-k-init : goal.loop-k-init
loop-k-init c = record { many = omega arith; low = omega arith; high = c.if-header-gt-MOST.false; each = λ j a b. none_between _ j a b }

pub returns-then-not-no_thread : goal.returns-then-not-no_thread
returns-then-not-no_thread c =
    let b = c in
    unsound (state_of c.args.header c.args.time c.args.idle c.args.word c.args.threads c.args.counts.now c.args.dues.now c.args.amounts.now c.args.lists.now) (sym c.no_thread.ensures ∙ c.if-not-no_thread.true)
    (λ y. none-thread (state_of c.args.header c.args.time c.args.idle c.args.word c.args.threads c.args.counts.now c.args.dues.now c.args.amounts.now c.args.lists.now) c.if-header-gt-MOST.false (omega arith) (omega arith) y b.loop-k.k b.loop-k.invariant.low c.loop-k-test.true)

pub loop-k-preserved : goal.loop-k-preserved
loop-k-preserved c =
    let b = c in
    more (state_of c.args.header c.args.time c.args.idle c.args.word c.args.threads c.args.counts.now c.args.dues.now c.args.amounts.now c.args.lists.now) b.loop-k.k b.loop-k.invariant c.loop-k-test.true (sym c.no_thread.ensures ∙ c.if-not-no_thread.false)

pub returns-then-not-no_slots : goal.returns-then-not-no_slots
returns-then-not-no_slots c =
    let b = c in
    unsound (state_of c.args.header c.args.time c.args.idle c.args.word c.args.threads c.args.counts.now c.args.dues.now c.args.amounts.now c.args.lists.now) (sym c.no_slots.ensures ∙ c.if-not-no_slots.true) (λ y. none-slots (state_of c.args.header c.args.time c.args.idle c.args.word c.args.threads c.args.counts.now c.args.dues.now c.args.amounts.now c.args.lists.now) c.if-header-gt-MOST.false (omega arith) (omega arith) y)

pub loop-i-init : goal.loop-i-init
unfolding below
loop-i-init c =
    let b = c in
    let k = c.loop-k-test.false in
    record {
      few = c.if-header-gt-MOST.false;
      none = none_in (state_of c.args.header c.args.time c.args.idle c.args.word c.args.threads c.args.counts.now c.args.dues.now c.args.amounts.now c.args.lists.now) c.if-header-gt-MOST.false (omega arith) (omega arith) (λ j lo up. b.loop-k.invariant.each j lo (below_all j 32 b.loop-k.k up k))
          (sym c.no_slots.ensures ∙ c.if-not-no_slots.false);
      range = omega arith;
      many = b.loop-k.invariant.many;
      held = refl;
      array = omega arith;
      filled = unfilled-first (state_of c.args.header c.args.time c.args.idle c.args.word c.args.threads c.args.counts.now c.args.dues.now c.args.amounts.now c.args.lists.now).threads (state_of c.args.header c.args.time c.args.idle c.args.word c.args.threads c.args.counts.now c.args.dues.now c.args.amounts.now c.args.lists.now).counts (replicate 32 0);
      unfilled = λ j lo up. get_or-replicate 32 j 0 0 up;
      rest = first_rest (state_of c.args.header c.args.time c.args.idle c.args.word c.args.threads c.args.counts.now c.args.dues.now c.args.amounts.now c.args.lists.now).now (state_of c.args.header c.args.time c.args.idle c.args.word c.args.threads c.args.counts.now c.args.dues.now c.args.amounts.now c.args.lists.now).header.start (totals (state_of c.args.header c.args.time c.args.idle c.args.word c.args.threads c.args.counts.now c.args.dues.now c.args.amounts.now c.args.lists.now).threads) b.if-time-header.false;
    }

pub bounds-threads-i : goal.bounds-threads-i
bounds-threads-i c = below_all _ c.args.header.n 32 c.loop-i-test.true c.loop-i.invariant.few

pub returns-then-not-thread_holds : goal.returns-then-not-thread_holds
unfolding sound_state
returns-then-not-thread_holds c =
    let b = c in
    let s = (state_of c.args.header c.args.time c.args.idle c.args.word c.args.threads c.args.counts.now c.args.dues.now c.args.amounts.now c.args.lists.now) in
    sym
    (all-false (sound_tests s) 8
    (below_false 32 (thread_test s) b.loop-i.i (below_all _ c.args.header.n 32 c.loop-i-test.true c.loop-i.invariant.few)
    (thread-false s b.loop-i.invariant.few b.loop-i.i c.loop-i-test.true c.thread_holds.ensures c.if-not-thread_holds.true)))

pub returns-then-left-t : goal.returns-then-left-t
unfolding sound_state
returns-then-left-t c =
    let b = c in
    sym (all-false (sound_tests (state_of c.args.header c.args.time c.args.idle c.args.word c.args.threads c.args.counts.now c.args.dues.now c.args.amounts.now c.args.lists.now)) 10 (over b.loop-i.invariant c.loop-i-test.true c.if-left-t.true))

pub bounds-places-i : goal.bounds-places-i
bounds-places-i c = below_all _ c.args.header.n 32 c.loop-i-test.true c.loop-i.invariant.few

pub loop-i-preserved : goal.loop-i-preserved
loop-i-preserved c =
    let p = c in
    let e = p in
    let h = e in
    let b = h in
    let s = (state_of c.args.header c.args.time c.args.idle c.args.word c.args.threads c.args.counts.now c.args.dues.now c.args.amounts.now c.args.lists.now) in
    next b.loop-i.invariant _ h.loop-i-test.true
    (thread-true s b.loop-i.invariant.few b.loop-i.i h.loop-i-test.true h.thread_holds.ensures h.if-not-thread_holds.false)
    e.if-left-t.false p.assigned_place.ensures

pub returns-then-not-sound : goal.returns-then-not-sound
unfolding sound_state
returns-then-not-sound c =
    let b = c in
    sym
    (all-false (sound_tests (state_of c.args.header c.args.time c.args.idle c.args.word c.args.threads c.args.counts.now c.args.dues.now c.args.amounts.now c.args.lists.now)) 9
    (sym (listed b.loop-i.invariant c.loop-i-test.false _ c.sound.ensures) ∙ c.if-not-sound.true))

pub returns : goal.returns
unfolding sound_state
returns c =
    let b = c in
    let s = (state_of c.args.header c.args.time c.args.idle c.args.word c.args.threads c.args.counts.now c.args.dues.now c.args.amounts.now c.args.lists.now) in
    let h = b.loop-i.invariant in
    let g = c.loop-i-test.false in
    let l = b in
    let e = l in
    let t : s.now ≤ last_time = omega (arith, e.if-time-gt-LAST_TIME.false) in
    by_last (sound_tests s) (timed h g)
    (le-leb _ _ e.if-header-lt1.false
    and le-leb s.header.n most_threads h.few
    and le-leb _ _ e.if-time-header.false
    and le-leb s.now last_time t
    and eq-eqb (length s.threads) 32 h.many
    and eq-eqb (length s.counts) 32 (omega arith)
    and eq-eqb (length s.dues) 256 (omega arith)
    and eq-eqb (length s.amounts) 256 (omega arith)
    and every h g
    and sym (listed h g _ c.sound.ensures) ∙ c.if-not-sound.false
    and tt)

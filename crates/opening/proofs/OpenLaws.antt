-- What the functions of the opening compute is what the definitions say, and each thread of an accepted table can enter.
use Prim.Native.Nat.{ℕ, ◌+◌, ◌≤◌, ◌<◌}
use mathlib.Core.Bool.{Bool, true, false, cond, ◌&&◌}
use mathlib.Core.Path.{◌≡◌, sym, ap, ◌∙◌, subst⁻¹, ap₂}
use mathlib.Core.List.{List}
use lib.ListN.{length, get_or, replicate}
use lib.Dec.{leb, eqb}
use native.Mathlib.Omega.{arith}
use native.Mathlib.Numerals.{add-one}
use borrow.Author.Tests.{not-false, eq-eqb, ne_eqb, lt-ltb, le-ltb, le-leb, lt-leb, leb-true, ltb-false}
use Rattle.records.specs.declared.Parameters.{Parameters}
use Rattle.records.specs.declared.Header.{Header}
use Rattle.base.specs.Tests.{below}
use Rattle.records.specs.Ranges.{in_range, no_parameters}
use Rattle.base.proofs.TestLaws.{tests, all_true, below_at, cond-true, cond-false, false-true, never_true}
use Rattle.ready.specs.Word.{occupancy}
use Rattle.ready.specs.Rules.{Joinable}
use Rattle.ready.proofs.SoundLaws.{joinable}
use Rattle.base.specs.Refusals.{first_refusal}
use Rattle.base.proofs.RefusalLaws.{passed}
use Rattle.state.specs.declared.State.{State}
use Rattle.state.specs.State.{place}
use Rattle.thread.specs.Thread.{no_thread}
use Rattle.state.specs.Updates.{state_of}
use Rattle.events.specs.Opening.{empty_state, no_state, entered, entered_below, open_status, opening}
use Rattle.events.proofs.EventLaws.{and_both}
use Rattle.events.proofs.OpeningLaws.{Entered, unplaced, below-entered, opened-sound}
use Rattle.passing.specs.Sequence as sequence
use Rattle.state.specs.Sound.{sound_state}
use Rattle.state.proofs.SoundLaws.{state-in}
use Rattle.events.specs.Answers.{executive}
use Rattle.answers.specs.Answer.{answered, unread}

pub empty-is : (header : Header) (l : List ℕ) → l ≡ replicate 1056 0
    → (state_of header header.start 0 0 (replicate 32 no_thread) (replicate 32 0) (replicate 256 0) (replicate 256 0) l)
    ≡ empty_state header
empty-is header l e =
    λ x. state_of header header.start 0 0 (replicate 32 no_thread) (replicate 32 0) (replicate 256 0) (replicate 256 0) (e x)

-- ---- the tests

-- a test of every number below n that fails at one of them
pub below-fails : (n : ℕ) (f : ℕ → Bool) (i : ℕ) → i < n → f i ≡ false → below n f ≡ false
below-fails n f i h e = never_true (below n f) (λ t. false-true (sym e ∙ below_at n f t i h))

-- thread i of the table may be opened
abbrev pub opens : List Parameters → ℕ → Bool
opens table i = in_range 8 (get_or table i no_parameters) && leb (get_or table i no_parameters).flag 1

module _ (header : Header) (table : List Parameters) where
  pub status-none : header.n < 1 → open_status header table ≡ 5
  unfolding open_status first_refusal
  status-none a = simp (lt-leb 1 header.n a)

  pub status-many : 32 < header.n → open_status header table ≡ 5
  unfolding open_status first_refusal
  status-many a = simp (le-leb 1 header.n (omega arith), lt-leb header.n 32 a)

  module _ (a : 1 ≤ header.n) (b : header.n ≤ 32) where
    pub status-late : 1000000000000000 < header.start → open_status header table ≡ 3
    unfolding open_status first_refusal
    status-late c = simp (le-leb 1 header.n a, le-leb header.n 32 b, lt-ltb 1000000000000000 header.start c)

    pub status-table : header.start ≤ 1000000000000000 → (t : Bool) → below header.n (opens table) ≡ t → open_status header table ≡ cond t 0 6
    unfolding open_status first_refusal
    status-table c true d = simp (le-leb 1 header.n a, le-leb header.n 32 b, le-ltb 1000000000000000 header.start c, d)
    status-table c false d = simp (le-leb 1 header.n a, le-leb header.n 32 b, le-ltb 1000000000000000 header.start c, d)

-- ---- a table that is accepted

pub below_next : (table : List Parameters) (k : ℕ) (s : State) → entered k (get_or table k no_parameters) (entered_below k table s) ≡ entered_below (k + 1) table s
unfolding entered_below
below_next table k s = ap (λ (x : ℕ). entered_below x table s) (sym (add-one k))

priority-range : (p : Parameters) → in_range 8 p ≡ true → (1 ≤ p.priority) × (p.priority ≤ 32)
unfolding in_range
priority-range p e = let a = all_true _ e in (leb-true 1 p.priority a.0, leb-true p.priority 32 a.1.0)

module _ (header : Header) (table : List Parameters) (z : open_status header table ≡ 0) where
  accepted : (header.n ≤ 32) × (header.start ≤ 1000000000000000) × (below header.n (opens table) ≡ true)
  unfolding open_status
  accepted =
      let a = passed _ 4 _ z in
      let b = passed _ 2 _ a.1 in
      let c = passed _ 5 _ b.1 in (
        leb-true header.n 32 (and_both (leb 1 header.n) (leb header.n 32) (not-false _ a.0)).1,
        ltb-false 1000000000000000 header.start b.0,
        not-false _ c.0,
      )

  pub few : header.n ≤ 32
  few = accepted.0

  in-range : (i : ℕ) → i < header.n → in_range 8 (get_or table i no_parameters) ≡ true
  in-range i l = (and_both (in_range 8 (get_or table i no_parameters)) (leb (get_or table i no_parameters).flag 1) (below_at header.n (opens table) accepted.2 i l)).0

  -- once k threads have entered, the next one can
  pub next-enters : (k : ℕ) → k < header.n → (s : State) → s ≡ entered_below k table (empty_state header)
      → (k < 32) × (length s.dues ≡ 256) × (length s.amounts ≡ 256) × (s.word ≡ occupancy s.lists)
      × (eqb (get_or table k no_parameters).flag 0 ≡ false → Joinable s.word (get_or table k no_parameters).priority s.lists)
  next-enters k l s e = go (subst⁻¹ (Entered k) e (below-entered header accepted.1 table k (omega (arith, few)) (λ i m. in-range i (omega arith))))
    where
      p : Parameters
      p = get_or table k no_parameters

      range : (1 ≤ p.priority) × (p.priority ≤ 32)
      range = priority-range p (in-range k l)

      go : Entered k s
          → (k < 32) × (length s.dues ≡ 256) × (length s.amounts ≡ 256) × (s.word ≡ occupancy s.lists)
          × (eqb p.flag 0 ≡ false → Joinable s.word p.priority s.lists)
      go h =
          let m : k < 32 = omega (arith, few) in (
            m,
            omega (tests, h.sizes),
            omega (tests, h.sizes),
            h.lists.agrees,
            λ f. joinable (place s) s.word s.lists h.lists p.priority range.0 range.1 k m
                (λ y. omega (arith, unplaced k s h m p (in-range k l), range.0)),
          )

-- ---- the answer of an opening

module _ (header : Header) (table : List Parameters) (k : ℕ) (z : k ≡ open_status header table) where
  opened : sequence.Answer State
  opened = sequence.accepted executive (entered_below header.n table (empty_state header))

  closed : sequence.Answer State
  closed = record { status = open_status header table; running = 255; next = 0; state = no_state }

  pub closed_is : (k ≡ 0 → ⊥) → (s : State) → s ≡ no_state → unread k s ≡ opening header table
  unfolding opening opened closed
  closed_is d s e =
      ap₂ unread z e
      ∙ sym (cond-false (eqb (open_status header table) 0) opened closed (ne_eqb (open_status header table) 0 (λ q. d (z ∙ q))))

  module _ (y : k ≡ 0) (s : State) (e : s ≡ entered_below header.n table (empty_state header)) where
    pub opened-state : sound_state s ≡ true
    opened-state = subst⁻¹ (λ (x : State). sound_state x ≡ true) e (state-in (entered_below header.n table (empty_state header)) (opened-sound header table (sym z ∙ y)))

    pub opened-is : answered 0 s ≡ opening header table
    unfolding opening opened closed
    opened-is =
        ap (answered 0) e
        ∙ sym (cond-true (eqb (open_status header table) 0) opened closed (eq-eqb (open_status header table) 0 (sym z ∙ y)))

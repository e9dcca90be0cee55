-- The listing as the code puts it together, and the buffer that holds it.
use Prim.Native.Nat.{ℕ, ◌+◌, ◌≤◌, ◌<◌}
use mathlib.Core.Bool.{Bool, true, false, not}
use mathlib.Core.List.{List, ◌++◌, append_assoc}
use mathlib.Core.Path.{◌≡◌, refl, sym, ap, ◌∙◌, subst, subst⁻¹}
use native.Mathlib.Omega.{arith}
use lib.Dec.{leb, eqb}
use lib.ListN.{length, take, drop}
use lib.Seq.{take_at, length-take-le}
use borrow.Author.Tests.{lt-ltb, le-ltb, le-leb, lt-leb, leb-true, eq-eqb, ne_eqb}
use Rattle.base.proofs.TestLaws.{cond-elim, cond-true, cond-false}
use Rattle.state.specs.declared.State.{State}
use Rattle.text.specs.Placed.{placed, Put}
use Rattle.text.proofs.PlacedLaws.{after}
use Rattle.passing.specs.Sequence.{Answer}
use Rattle.trace_records.specs.Layout.{most_events, longest_file}
use Rattle.trace_records.specs.Records.{fields_of}
use Rattle.trace_contents.specs.Read.{header_right, read_status}
use Rattle.trace_contents.proofs.ReadLaws.{right, read-refused}
use Rattle.replay_steps.specs.FileSteps.{Beginning, begun_of, answers_to, closing, answers_from, end_from}
use Rattle.replay_steps.proofs.FileLaws.{steps-answer-all, begun-unread}
use Rattle.listing.specs.declared.Listed.{Listed}
use Rattle.listing.specs.Lines.{header_line, event_lines, thread_lines, idle_line, refused_line}
use Rattle.listing.specs.Listing.{replay_of, listing_of, listed_of, buffer_of, largest, LongIsRefused}

replayed : (file : List ℕ) → (begun_of file).status ≡ 0 → listing_of file ≡ replay_of file
unfolding listing_of
replayed file z = cond-true (eqb (begun_of file).status 0) (replay_of file) (refused_line (begun_of file).status) (eq-eqb (begun_of file).status 0 z)

refused : (file : List ℕ) → ((begun_of file).status ≡ 0 → ⊥) → listing_of file ≡ refused_line (begun_of file).status
unfolding listing_of
refused file n = cond-false (eqb (begun_of file).status 0) (replay_of file) (refused_line (begun_of file).status) (ne_eqb (begun_of file).status 0 n)

-- the line of a refusal is the listing of a file that was refused
pub refusal-put : {o o₁ : List ℕ} {r : ℕ} (file : List ℕ) (b : Beginning) → b ≡ begun_of file → (b.status ≡ 0 → ⊥)
    → Put o 0 (refused_line b.status) o₁ r → Put o 0 (listing_of file) o₁ r
refusal-put {o} {o₁} {r} file b e n p =
    subst (λ (v : List ℕ). Put o 0 v o₁ r)
    (ap (λ (x : Beginning). refused_line x.status) e ∙ sym (refused file (λ z. n (ap (λ (x : Beginning). x.status) e ∙ z)))) p

-- header, events, threads and idle time, one after another, are that of any other
module _ {o o₁ o₂ o₃ : List ℕ} {r₁ r₂ r₃ : ℕ} (file : List ℕ) (s : State) (h₁ : r₁ ≤ length o) (h₂ : r₂ ≤ length o)
    (p : Put o 0 header_line o₁ r₁) (q : Put o₂ r₂ (thread_lines s s.header.n ++ idle_line s.idle) o₃ r₃) where
  replay-of : (begun_of file).status ≡ 0
      → Put o₁ r₁ (event_lines 0 (answers_from (begun_of file).answer.state file (begun_of file).offset most_events)) o₂ r₂
      → s ≡ end_from (begun_of file).answer.state file (begun_of file).offset most_events
      → Put o 0 (listing_of file) o₃ r₃
  unfolding begun_of replay_of
  replay-of z d e =
      let w = steps-answer-all file z in
      let events : Put o₁ r₁ (event_lines 0 (answers_to file)) o₂ r₂ =
      subst (λ (l : List (Answer State)). Put o₁ r₁ (event_lines 0 l) o₂ r₂) w.0 d in
      let rest : Put o₂ r₂ (thread_lines (closing file) (closing file).header.n ++ idle_line (closing file).idle) o₃ r₃ =
      subst (λ (x : State). Put o₂ r₂ (thread_lines x x.header.n ++ idle_line x.idle) o₃ r₃) (e ∙ w.1) q in
      subst (λ (v : List ℕ). Put o 0 v o₃ r₃)
      (sym
      (append_assoc (header_line ++ event_lines 0 (answers_to file)) (thread_lines (closing file) (closing file).header.n) (idle_line (closing file).idle))
      ∙ sym (replayed file z))
      (after h₂ (after h₁ p events) rest)

  pub replay-put : (b : Beginning) → b ≡ begun_of file → b.status ≡ 0
      → Put o₁ r₁ (event_lines 0 (answers_from b.answer.state file b.offset most_events)) o₂ r₂
      → s ≡ end_from b.answer.state file b.offset most_events
      → Put o 0 (listing_of file) o₃ r₃
  replay-put b e =
      subst⁻¹
      (λ (x : Beginning). x.status ≡ 0
      → Put o₁ r₁ (event_lines 0 (answers_from x.answer.state file x.offset most_events)) o₂ r₂
      → s ≡ end_from x.answer.state file x.offset most_events
      → Put o 0 (listing_of file) o₃ r₃)
      e
      replay-of

-- bytes put at a buffer's start: the buffer's first bytes are those
front : {o v o₁ : List ℕ} {r : ℕ} → Put o 0 v o₁ r → (o₁ ≡ v ++ drop (length v) o) × (r ≡ length v)
unfolding placed
front {o} {v} p = let z : 0 + length v ≡ length v = omega arith in (rw z at p.holds, p.next ∙ z)

pub taken : {o v o₁ : List ℕ} {r : ℕ} → Put o 0 v o₁ r → take r o₁ ≡ v
taken {o} {v} {o₁} {r} p =
    let f = front p in
    ap (take r) f.0 ∙ take_at v (drop (length v) o) r (sym f.1)

module _ (file out : List ℕ) {o text : List ℕ} {n : ℕ} (p : Put o 0 (listing_of file) text n) (l : n ≤ largest) where
  abbrev Answers : Listed → List ℕ → Type 0
  Answers r left = (r ≡ listed_of file (length out)) × ((left ≡ buffer_of file out) × (largest ≤ length out → r.status ≡ 0))

  -- a buffer that is too short stays as it is
  pub too_short : length out < n → Answers (record { status = 12; length = 0 }) out
  unfolding listed_of buffer_of
  too_short h =
      let k : leb (length (listing_of file)) (length out) ≡ false = lt-leb (length (listing_of file)) (length out) (omega (arith, (front p).1)) in (
        sym (cond-false (leb (length (listing_of file)) (length out)) (record { status = 0; length = length (listing_of file) }) (record { status = 12; length = 0 }) k),
        (sym (cond-false (leb (length (listing_of file)) (length out)) (listing_of file ++ drop (length (listing_of file)) out) out k), λ m. absurd (omega arith)),
      )

  -- any other holds the listing
  pub long-enough : {left : List ℕ} {r : ℕ} → n ≤ length out → Put out 0 (take n text) left r → Answers (record { status = 0; length = n }) left
  unfolding listed_of buffer_of
  long-enough {left} {r} h q =
      let k : leb (length (listing_of file)) (length out) ≡ true = le-leb (length (listing_of file)) (length out) (omega (arith, (front p).1)) in
      let f = front (subst (λ (v : List ℕ). Put out 0 v left r) (taken p) q) in (
        ap (λ (m : ℕ). record { status = 0; length = m }) (front p).1
            ∙ sym (cond-true (leb (length (listing_of file)) (length out)) (record { status = 0; length = length (listing_of file) }) (record { status = 12; length = 0 }) k),
        (f.0 ∙ sym (cond-true (leb (length (listing_of file)) (length out)) (listing_of file ++ drop (length (listing_of file)) out) out k), λ m. refl),
      )

  -- as many bytes as were put
  pub taken-size : n ≡ length (take n text)
  taken-size = (front p).1 ∙ ap length (sym (taken p))

-- what was listed is a part of the buffer, from its start on
pub listed-part : (file : List ℕ) (room : ℕ) (left : List ℕ) (r : Listed) → r ≡ listed_of file room → length left ≡ room
    → (r.length ≤ length left) × (r.length ≡ length (take r.length left))
unfolding listed_of
listed-part file room left r e l =
    let h : r.length ≤ length left =
    subst⁻¹ (λ (x : Listed). x.length ≤ length left) e
    (cond-elim (λ (x : Listed). x.length ≤ length left) (leb (length (listing_of file)) room)
    (record { status = 0; length = length (listing_of file) }) (record { status = 12; length = 0 })
    (λ k. omega (arith, leb-true (length (listing_of file)) room k))
    (λ k. omega arith)) in
    (h, sym (length-take-le r.length left h))

-- a file longer than any trace
long-status : (s : List ℕ) → longest_file < length s → read_status s ≡ 11
long-status s h = go (header_right (fields_of s)) refl
  where
    go : (b : Bool) → header_right (fields_of s) ≡ b → read_status s ≡ 11
    go false e = read-refused s (fields_of s) 1 refl (le-ltb (length s) 32 (omega arith), tt) (ap not e)
    go true e =
        let r = right (fields_of s) e in
        let t : (fields_of s).total ≤ longest_file = omega (arith, r.total, r.most, r.count) in
        read-refused s (fields_of s) 3 refl
        (le-ltb (length s) 32 (omega arith), (ap not e, (le-ltb (length s) (fields_of s).total (omega arith), tt)))
        (lt-ltb (fields_of s).total (length s) (omega arith))

pub long-is-refused : LongIsRefused
long-is-refused file h =
    let z = long-status file h in
    let b : (begun_of file).status ≡ 11 = begun-unread file (λ e. omega arith) ∙ z in
    refused file (λ e. omega arith) ∙ ap refused_line b

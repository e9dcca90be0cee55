-- How long a line can be, and lines that are put one after another.
use Prim.Native.Nat.{ℕ, ◌+◌, ◌≤◌, ◌<◌}
use mathlib.Core.Bool.{true, false}
use mathlib.Core.List.{List, [], ◌++◌}
use mathlib.Core.Path.{◌≡◌, sym, subst⁻¹}
use native.Mathlib.Omega.{arith}
use lib.ListN.{length, length-append}
use mir.Val.{Fits}
use mir.Syntax.{w8, w64}
use Rattle.base.proofs.TestLaws.{cond-true, cond-false}
use Rattle.records.specs.Ranges.{most_threads}
use Rattle.trace_records.specs.Layout.{most_events}
use Rattle.text.specs.Fields.{space, newline, field, row}
use Rattle.text.specs.Placed.{Put}
use Rattle.text.proofs.FieldLaws.{field-length, byte-length, long-length, row-length}
use Rattle.text.proofs.PlacedLaws.{nothing, after, room-first, room-second, both}
use Rattle.trace.specs.Lists.{joined}
use Rattle.trace.proofs.RunLaws.{joined-next}
use Rattle.counts_text.specs.Lines.{event_word, count_word, event_line, four_line, thread_line, quiet, count_line, event_text}
use Rattle.counts_text.specs.Room.{event_line_most, thread_line_most}

pub event-length : (i : ℕ) {status : ℕ} → i < most_events → Fits w8 status → length (event_line i status) ≤ event_line_most
unfolding event_line
event-length i {status} a b =
    omega (
      arith,
      length-append (event_word ++ field i space) (field status newline),
      length-append event_word (field i space),
      field-length 4 i space (omega arith) (omega arith),
      byte-length newline b,
    )

pub four-length : (word : List ℕ) (i : ℕ) {l q r x : ℕ} → i < most_threads → length word ≤ length count_word → Fits w64 l → Fits w64 q → Fits w64 r → Fits w64 x
    → length (four_line word i l q r x) ≤ thread_line_most
unfolding four_line
four-length word i {l} {q} {r} {x} a w b c d e =
    omega (
      arith,
      length-append (word ++ field i space) (row l q r x),
      length-append word (field i space),
      field-length 2 i space (omega arith) (omega arith),
      row-length l q r x (long-length space b) (long-length space c) (long-length space d) (long-length newline e),
    )

-- three texts
module _ (o : List ℕ) (at : ℕ) (a b c : List ℕ) (h : at + length (a ++ b ++ c) ≤ length o) where
  two : at + length (a ++ b) ≤ length o
  two = room-first o at (a ++ b) c h

  pub room-a : at + length a ≤ length o
  room-a = room-first o at a b two

  module _ {o₁ : List ℕ} {r₁ : ℕ} (p : Put o at a o₁ r₁) where
    pub room-b : r₁ + length b ≤ length o₁
    room-b = room-second o at a b two p

    module _ {o₂ : List ℕ} {r₂ : ℕ} (q : Put o₁ r₁ b o₂ r₂) where
      pub room-c : r₂ + length c ≤ length o₂
      room-c = room-second o at (a ++ b) c h (both o at a b two p q)

      pub all_three : {o₃ : List ℕ} {r₃ : ℕ} → Put o₂ r₂ c o₃ r₃ → Put o at (a ++ b ++ c) o₃ r₃
      all_three s = both o at (a ++ b) c h (both o at a b two p q) s

-- a thread to which nothing happened has no line, and any other its own
pub quiet_put : {o o₁ : List ℕ} {at r : ℕ} (xs : List ℕ) (i : ℕ) → true ≡ quiet xs i → Put o at [] o₁ r → Put o at (count_line xs i) o₁ r
unfolding count_line
quiet_put {o} {o₁} {at} {r} xs i e p =
    subst⁻¹ (λ (v : List ℕ). Put o at v o₁ r) (cond-true (quiet xs i) [] (thread_line count_word xs i) (sym e)) p

pub count-put : {o o₁ : List ℕ} {at r : ℕ} (xs : List ℕ) (i : ℕ) → false ≡ quiet xs i → Put o at (thread_line count_word xs i) o₁ r → Put o at (count_line xs i) o₁ r
unfolding count_line
count-put {o} {o₁} {at} {r} xs i e p =
    subst⁻¹ (λ (v : List ℕ). Put o at v o₁ r) (cond-false (quiet xs i) [] (thread_line count_word xs i) (sym e)) p

-- no line, and one more
pub lines_none : (f : ℕ → List ℕ) (o : List ℕ) (at : ℕ) → Put o at (joined f 0) o at
unfolding joined
lines_none f o at = nothing o at

pub lines_next : {o out out₂ : List ℕ} {at here next : ℕ} (f : ℕ → List ℕ) (i : ℕ) → here ≤ length o → Put o at (joined f i) out here
    → Put out here (f i) out₂ next → Put o at (joined f (i + 1)) out₂ next
lines_next {o} {out} {out₂} {at} {here} {next} f i h p q = subst⁻¹ (λ (v : List ℕ). Put o at v out₂ next) (joined-next f i) (after h p q)

-- the line of an event, and then those of its threads
pub event-put : {o o₁ o₂ : List ℕ} {r₁ r₂ : ℕ} (i status n : ℕ) (xs : List ℕ) → r₁ ≤ length o → Put o 0 (event_line i status) o₁ r₁
    → Put o₁ r₁ (joined (count_line xs) n) o₂ r₂ → Put o 0 (event_text i status n xs) o₂ r₂
unfolding event_text
event-put i status n xs h p q = after h p q

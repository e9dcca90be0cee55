-- How long a line can be.
use Prim.Native.Nat.{ℕ, ◌≤◌, ◌<◌}
use native.Mathlib.Omega.{arith}
use lib.ListN.{length, length-append}
use mir.Val.{Fits}
use mir.Syntax.{w8, w64}
use Rattle.records.specs.Ranges.{most_threads}
use Rattle.trace_records.specs.Layout.{most_events}
use Rattle.text.specs.Fields.{space, newline, row}
use Rattle.text.proofs.FieldLaws.{field-length, byte-length, long-length, row-length}
use Rattle.listing.specs.Lines.{thread_word, event_line, thread_line}
use Rattle.listing.specs.Private.{event_line_most, thread_line_most}

pub event-length : (i : ℕ) {status running next : ℕ} → i < most_events → Fits w8 status → Fits w8 running → Fits w64 next → length (event_line i status running next) ≤ event_line_most
unfolding event_line
event-length i {status} {running} {next} a b c d =
    row-length i status running next (field-length 4 i space (omega arith) (omega arith)) (byte-length space b) (byte-length space c) (long-length newline d)

pub thread-length : (i : ℕ) {capacity count total : ℕ} → i < most_threads → Fits w64 capacity → Fits w8 count → Fits w64 total → length (thread_line i capacity count total) ≤ thread_line_most
unfolding thread_line
thread-length i {capacity} {count} {total} a b c d =
    omega (
      arith,
      length-append thread_word (row i capacity count total),
      row-length i capacity count total (field-length 2 i space (omega arith) (omega arith)) (long-length space b) (byte-length space c) (long-length newline d),
    )

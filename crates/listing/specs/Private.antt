-- Cited by private functions alone: the most bytes of a line of each kind, and of the lines of each part of a listing.
use Rattle.std.specs.Prelude.{ℕ, ◌+◌, ◌*◌, length}
use Rattle.records.specs.Ranges.{most_threads}
use Rattle.trace_records.specs.Layout.{most_events}
use Rattle.text.specs.Widths.{byte_field, long_field}
use Rattle.listing.specs.Lines.{thread_word, idle_word}

-- an event's number has at most 4 digits, and a thread's 2
abbrev pub event_line_most : ℕ
event_line_most = (4 + 1) + byte_field + byte_field + long_field

abbrev pub thread_line_most : ℕ
thread_line_most = length thread_word + ((2 + 1) + long_field + byte_field + long_field)

abbrev pub event_lines_most : ℕ
event_lines_most = event_line_most * most_events

-- the lines of the threads and the idle line
abbrev pub closing_most : ℕ
closing_most = thread_line_most * most_threads + (length idle_word + long_field)

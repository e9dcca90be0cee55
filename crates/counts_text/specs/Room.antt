-- The most bytes of a line of each kind, and of the lines of an event or of the sums.
use Rattle.std.specs.Prelude.{ℕ, ◌+◌, ◌*◌, length}
use Rattle.records.specs.Ranges.{most_threads}
use Rattle.text.specs.Widths.{byte_field, long_field}
use Rattle.counts_text.specs.Lines.{event_word, count_word}

-- an event's number has at most 4 digits, and a thread's 2
abbrev pub event_line_most : ℕ
event_line_most = length event_word + (4 + 1) + byte_field

-- `count` is the longest word
abbrev pub thread_line_most : ℕ
thread_line_most = length count_word + (2 + 1) + (long_field + long_field + long_field + long_field)

-- a buffer of so many bytes is long enough for the lines of an event, and for the sums
abbrev pub room : ℕ
room = event_line_most + thread_line_most * most_threads

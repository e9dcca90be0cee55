-- The listing of a file, and what writing it into a lent buffer answers and leaves.
use Rattle.std.specs.Prelude.{ℕ, ◌<◌}
use mathlib.Core.{Bool.cond, List.List, List.◌++◌, Path.◌≡◌}
use lib.{Dec.leb, Dec.eqb, ListN.length, ListN.drop}
use Rattle.trace_records.specs.Layout.{longest_file}
use Rattle.replay_steps.specs.FileSteps.{begun_of, answers_to, closing}
use Rattle.listing.specs.{declared.Listed.Listed, Lines.header_line, Lines.event_lines, Lines.thread_lines, Lines.idle_line, Lines.refused_line}

-- a file that is replayed: the header line, a line for each event, a line for each thread of the state that the last event left, the idle line
unfoldable pub replay_of : List ℕ → List ℕ
replay_of file =
    header_line ++ event_lines 0 (answers_to file) ++ thread_lines (closing file) (closing file).header.n ++ idle_line (closing file).idle

-- 01 Replay 8: a file that is refused by the reader, or else by the opening, gives the line of that refusal
unfoldable pub listing_of : List ℕ → List ℕ
listing_of file = cond (eqb (begun_of file).status 0) (replay_of file) (refused_line (begun_of file).status)

-- the answer for a buffer of so many bytes: how many were written; or 12, as for the writer of a file (01 Status 13)
unfoldable pub listed_of : List ℕ → ℕ → Listed
listed_of file room =
    cond (leb (length (listing_of file)) room) (record { status = 0; length = length (listing_of file) }) (record { status = 12; length = 0 })

-- the buffer afterwards: the listing and then its own bytes; or its own bytes alone, as a refused write changes none (01 Status 22)
unfoldable pub buffer_of : List ℕ → List ℕ → List ℕ
buffer_of file out = cond (leb (length (listing_of file)) (length out)) (listing_of file ++ drop (length (listing_of file)) out) out

-- a buffer of so many bytes is never too short
abbrev pub largest : ℕ
largest = 54000

-- 01 Status 12: a file longer than any trace is refused with 11 whatever it holds. So its first bytes, if they are more than these, have the listing that all of it has.
abbrev pub LongIsRefused : Type 0
LongIsRefused = (file : List ℕ) → longest_file < length file → listing_of file ≡ refused_line 11

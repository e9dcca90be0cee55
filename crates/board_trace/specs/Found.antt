-- What the exported functions of the trace file answer.
use Rattle.std.specs.Prelude.{ℕ, List}
use Rattle.trace_contents.specs.{declared.Contents.Contents, Read.contents_of}
use Rattle.board_trace.specs.declared.Found.{Found}

-- 01 Trace 6: a read without its table
abbrev pub found_of : Contents → Found
found_of c = record { status = c.status; n = c.header.n; start = c.header.start; count = c.count }

abbrev pub found_in : List ℕ → Found
found_in file = found_of (contents_of file)

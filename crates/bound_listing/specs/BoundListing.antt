-- What the sporadic threads of a trace's table can take at their upper priority in so many ticks, as lines. The form is ours.
use Rattle.std.specs.Prelude.{ℕ, ◌+◌, ◌*◌, ◌<◌}
use mathlib.Core.{Bool.cond, List.List, List.[], List.◌++◌, Path.◌≡◌}
use lib.{Dec.eqb, ListN.length, ListN.get_or}
use Rattle.records.specs.{declared.Parameters.Parameters, Ranges.most_threads, Ranges.no_parameters}
use Rattle.text.specs.Fields.{space, newline, field}
use Rattle.text.specs.Widths.{long_field}
use Rattle.trace.specs.Lists.{joined}
use Rattle.trace_contents.specs.Read.{contents_of}
use Rattle.replay_steps.specs.FileSteps.{begun_of}
use Rattle.listing.specs.Lines.{thread_word, refused_line}
use Rattle.bound.specs.Most.{most_of}

-- the line of thread i, where it is sporadic: `thread`, its number, the most ticks, and of how many
unfoldable pub bound_line : ℕ → Parameters → ℕ → List ℕ
bound_line i p ticks = cond (eqb p.policy 2) (thread_word ++ field i space ++ field (most_of p ticks).ticks space ++ field ticks newline) []

-- by number; past the last thread stand records of zeros, which are no sporadic ones (01 State 17)
unfoldable pub bound_lines : List Parameters → ℕ → List ℕ
bound_lines table ticks = joined (λ i. bound_line i (get_or table i no_parameters) ticks) most_threads

-- a file that the reader or the opening refuses gives the line of that refusal, as its replay does (01 Replay 8)
unfoldable pub bound_listing : List ℕ → ℕ → List ℕ
bound_listing file ticks = cond (eqb (begun_of file).status 0) (bound_lines (contents_of file).table ticks) (refused_line (begun_of file).status)

-- so no line is that of parameters that are refused with 6
abbrev pub LinesAccepted : Type 0
LinesAccepted =
    (file : List ℕ) (ticks i : ℕ) → (begun_of file).status ≡ 0 → i < (contents_of file).header.n
    → (get_or (contents_of file).table i no_parameters).policy ≡ 2 → (most_of (get_or (contents_of file).table i no_parameters) ticks).status ≡ 0

-- the most bytes of a line, and of all lines
abbrev pub line_most : ℕ
line_most = length thread_word + long_field + long_field + long_field

abbrev pub largest : ℕ
largest = line_most * most_threads

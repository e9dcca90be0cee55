-- `listing::replay::put_threads` meets its contract: the lines so far are those of the first i threads.
use Prim.Native.Nat.{ℕ, ◌+◌, ◌*◌, ◌≤◌}
use mathlib.Core.List.{List}
use mathlib.Core.Path.{◌≡◌}
use lib.ListN.{length}
use Rattle.state.specs.Updates.{whole}
use Rattle.text.specs.Placed.{Put}
use Rattle.listing.specs.Lines.{thread_lines}
use Rattle.listing.specs.Private.{thread_line_most}
use Rattle.listing.proofs.replay.put_threads.Given as goal

abbrev pub invariant-loop-i : goal.invariant-loop-i
invariant-loop-i l =
    (length l.out ≡ length l.initial.out) × (l.here ≤ l.at + thread_line_most * l.i) × ((dues amounts : List ℕ) → Put l.initial.out l.at (thread_lines (whole l.c dues amounts) l.i) l.out l.here)

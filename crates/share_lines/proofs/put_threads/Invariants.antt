-- `share_lines::put_threads` meets its contract: the lines so far are those of the first i threads.
use Prim.Native.Nat.{◌+◌, ◌*◌, ◌≤◌}
use mathlib.Core.Path.{◌≡◌}
use lib.ListN.{length}
use Rattle.state.specs.Updates.{whole}
use Rattle.text.specs.Placed.{Put}
use Rattle.share_lines.specs.Lines.{share_lines}
use Rattle.share_lines.specs.Bounds.{share_line_most}
use Rattle.share_lines.proofs.put_threads.Given as goal

abbrev pub invariant-loop-i : goal.invariant-loop-i
invariant-loop-i l =
    (length l.out ≡ length l.initial.out) × (l.at ≤ l.initial.at + share_line_most * l.i) × Put l.initial.out l.initial.at (share_lines (whole l.c l.dues l.amounts) l.i) l.out l.at

-- `bound_listing::put_lines` meets its contract: the lines so far are those of the first i places.
use Prim.Native.Nat.{◌*◌, ◌≤◌}
use mathlib.Core.Path.{◌≡◌}
use lib.ListN.{length}
use Rattle.text.specs.Placed.{Put}
use Rattle.bound_listing.specs.BoundListing.{line_most}
use Rattle.bound_listing.proofs.LineLaws.{lines}
use Rattle.bound_listing.proofs.put_lines.Given as goal

abbrev pub invariant-loop-i : goal.invariant-loop-i
invariant-loop-i l = (length l.out ≡ length l.initial.out) × (l.here ≤ line_most * l.i) × Put l.initial.out 0 (lines l.table l.ticks l.i) l.out l.here

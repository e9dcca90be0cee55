-- `counts_event::put_event` meets its contract: the lines so far are the event's and those of the first t threads.
use Prim.Native.Nat.{◌+◌, ◌*◌, ◌≤◌}
use mathlib.Core.Path.{◌≡◌}
use lib.ListN.{length}
use Rattle.text.specs.Placed.{Put}
use Rattle.trace.specs.Lists.{joined}
use Rattle.counts_text.specs.Lines.{count_line}
use Rattle.counts_text.specs.Room.{thread_line_most}
use Rattle.counts_event.proofs.put_event.Given as goal

abbrev pub invariant-loop-t : goal.invariant-loop-t
invariant-loop-t l =
    (l.t ≤ l.n) × (length l.out ≡ length l.initial.out) × (l.here ≤ l.initial.here + thread_line_most * l.t) × Put l.initial.out l.initial.here (joined (count_line l.told) l.t) l.out l.here

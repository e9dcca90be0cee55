-- `counts_text::put_sums` meets its contract: the lines so far are those of the first t threads.
use Prim.Native.Nat.{◌*◌, ◌≤◌}
use mathlib.Core.Path.{◌≡◌}
use lib.ListN.{length}
use Rattle.text.specs.Placed.{Put}
use Rattle.trace.specs.Lists.{joined}
use Rattle.counts_text.specs.Lines.{sum_word, thread_line}
use Rattle.counts_text.specs.Room.{thread_line_most}
use Rattle.counts_text.proofs.put_sums.Given as goal

abbrev pub invariant-loop-t : goal.invariant-loop-t
invariant-loop-t l =
    (l.t ≤ l.n) × (length l.out ≡ length l.initial.out) × (l.here ≤ thread_line_most * l.t) × Put l.initial.out 0 (joined (thread_line sum_word l.sums) l.t) l.out l.here

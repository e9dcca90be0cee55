-- `counts_add::add` meets its contract: the first k places are added, and the others as they were.
use Prim.Native.Nat.{◌≤◌}
use Rattle.counts_text.proofs.SumLaws.{AddedTo}
use Rattle.counts_add.proofs.add.Given as goal

abbrev pub invariant-loop-k : goal.invariant-loop-k
invariant-loop-k l = (l.k ≤ 128) × AddedTo l.k l.initial.sums l.told l.sums

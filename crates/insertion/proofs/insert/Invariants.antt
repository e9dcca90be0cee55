-- `insertion::insert` meets its contract. The invariant: the numbers from i on are moved one slot down.
use Prim.Native.Nat.{◌≤◌}
use mathlib.Core.Path.{◌≡◌}
use Rattle.entries.proofs.InsertLaws.{moved_down}
use Rattle.insertion.proofs.insert.Given as goal

abbrev pub invariant-loop-i : goal.invariant-loop-i
invariant-loop-i l = (l.k ≤ l.i) × (l.r ≡ moved_down l.xs l.n l.i)

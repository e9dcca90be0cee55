-- `entries::without_first` meets its contract. The invariant: the first i numbers are moved one slot up.
use mathlib.Core.Path.{◌≡◌}
use Rattle.entries.proofs.SlotLaws.{moved_up}
use Rattle.entries.proofs.without_first.Given as goal

abbrev pub invariant-loop-i : goal.invariant-loop-i
invariant-loop-i l = l.r ≡ moved_up l.xs l.i

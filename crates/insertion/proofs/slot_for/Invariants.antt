-- `insertion::slot_for` meets its contract. The invariant: the slot is the one among the first k.
use mathlib.Core.Path.{◌≡◌}
use Rattle.entries.specs.Entries.{slot_for}
use Rattle.insertion.proofs.slot_for.Given as goal

abbrev pub invariant-loop-k : goal.invariant-loop-k
invariant-loop-k l = slot_for l.due l.k l.dues ≡ slot_for l.due l.count l.dues

-- `row_entries::insert_entry` meets its contract. The invariant: the numbers after slot k are moved one slot down, and the slot is the one among the first k.
use Prim.Native.Nat.{◌≤◌}
use mathlib.Core.Path.{◌≡◌}
use lib.ListN.{length}
use Rattle.entries.specs.Entries.{slot_for}
use Rattle.rows.specs.Rows.{slots_at}
use Rattle.row_entries.proofs.InsertLaws.{moved_after}
use Rattle.row_entries.proofs.insert_entry.Given as goal

abbrev pub invariant-loop-dues : goal.invariant-loop-dues
invariant-loop-dues l =
    (l.k ≤ l.count) × (length l.dues ≡ 256) × (length l.amounts ≡ 256) × (l.dues ≡ moved_after l.i l.count l.initial.dues l.k) × (l.amounts ≡ moved_after l.i l.count l.initial.amounts l.k)
    × (slot_for l.due l.k (slots_at l.i l.initial.dues) ≡ slot_for l.due l.count (slots_at l.i l.initial.dues))

abbrev pub decreases-loop-dues : goal.decreases-loop-dues
decreases-loop-dues l = l.k

-- `rows::write_row` meets its contract. The invariant: the first j slots are written.
use mathlib.Core.Path.{◌≡◌}
use Rattle.rows.proofs.RowLaws.{written_to}
use Rattle.rows.proofs.write_row.Given as goal

abbrev pub invariant-loop-j : goal.invariant-loop-j
invariant-loop-j l = l.xs ≡ written_to l.i l.row l.initial.xs l.j

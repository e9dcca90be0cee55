-- `rows::read_row` meets its contract. The invariant: the first j slots are read.
use mathlib.Core.Path.{◌≡◌}
use Rattle.rows.proofs.RowLaws.{read_to}
use Rattle.rows.proofs.read_row.Given as goal

abbrev pub invariant-loop-j : goal.invariant-loop-j
invariant-loop-j l = l.row ≡ read_to l.i l.xs l.j

-- `rows::read_row` meets its contract.
use native.Mathlib.Omega.{arith}
use Rattle.rows.proofs.RowLaws.{read_step}
use Rattle.rows.proofs.read_row.Goals as goal

pub loop-j-preserved : goal.loop-j-preserved
loop-j-preserved c =
    let a = c.args in
    read_step a.i a.xs.now (omega arith) (omega arith) c.loop-j.row c.loop-j.j (omega arith) c.loop-j.invariant

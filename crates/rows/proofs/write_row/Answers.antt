-- `rows::write_row` meets its contract.
use mathlib.Core.Path.{◌≡◌, ap, ◌∙◌}
use native.Mathlib.Omega.{arith}
use Rattle.rows.proofs.RowLaws.{written_to, write_step, write-end}
use Rattle.rows.proofs.write_row.Goals as goal

pub loop-j-preserved : goal.loop-j-preserved
loop-j-preserved c =
    let a = c.args in
    let xs = a.xs.now in
    write_step a.i xs (omega arith) (omega arith) a.row (omega arith) c.loop-j.xs c.loop-j.j (omega arith) c.loop-j.invariant

pub returns : goal.returns
returns c =
    let a = c.args in
    let xs = a.xs.now in
    let e : c.loop-j.j ≡ 8 = omega arith in
    c.loop-j.invariant ∙ ap (written_to a.i a.row xs) e ∙ write-end a.i xs (omega arith) (omega arith) a.row (omega arith)

-- `opening::open_status` meets its contract.
use mathlib.Core.Bool.{true, false}
use mathlib.Core.Path.{sym, ◌∙◌}
use Rattle.opening.proofs.OpenLaws.{status-none, status-many, status-late, status-table}
use Rattle.opening.proofs.open_status.Goals as goal
use Rattle.opening.proofs.open_status.Goals.{then-header-lt1-via-then-header-lt1, then-header-lt1-via-else-header-lt1+then-header}

pub returns-then-header-lt1 : goal.returns-then-header-lt1
returns-then-header-lt1 c =
    let a = c.args in
    elim c.then-header-lt1.branch [ then-header-lt1-via-then-header-lt1 w ↦ sym (status-none a.header a.table w.if-header-lt1.true) | then-header-lt1-via-else-header-lt1+then-header w ↦ sym (status-many a.header a.table w.if-header.true) ]

pub returns-then-header-gt-LAST_TIME : goal.returns-then-header-gt-LAST_TIME
returns-then-header-gt-LAST_TIME c = let a = c.args in sym (status-late a.header a.table c.if-header-lt1.false c.if-header.false c.if-header-gt-LAST_TIME.true)

pub returns-then-not-table_holds : goal.returns-then-not-table_holds
returns-then-not-table_holds c =
    let a = c.args in
    sym (status-table a.header a.table c.if-header-lt1.false c.if-header.false c.if-header-gt-LAST_TIME.false false (sym c.table_holds.ensures ∙ c.if-not-table_holds.true))

pub returns : goal.returns
returns c =
    let a = c.args in
    sym (status-table a.header a.table c.if-header-lt1.false c.if-header.false c.if-header-gt-LAST_TIME.false true (sym c.table_holds.ensures ∙ c.if-not-table_holds.false))

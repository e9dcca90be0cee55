-- `board_search::thawonlai_next_due` meets its contract: a thread's number fits a byte.
use Rattle.std.proofs.Common.{◌≡◌, ap}
use native.Mathlib.Omega.{arith}
use Rattle.due_search.specs.declared.Due.{Due}
use Rattle.due_search.specs.Search.{next_due}
use Rattle.due_search.proofs.DueLaws.{named_small}
use Rattle.board_search.proofs.thawonlai_next_due.Goals as goal

pub found-requires : goal.found-requires
found-requires c =
    let a = c.args in
    let e : c.next_due.result ≡ next_due a.counts.now a.dues.now a.n = c.next_due.ensures in
    omega (arith, ap (λ (x : Due). x.thread) e, named_small a.counts.now a.dues.now a.n (omega (arith, c.if-n.false)))

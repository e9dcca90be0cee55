-- `bound_listing::put_line` meets its contract.
use native.Mathlib.Omega.{arith}
use Rattle.bound_listing.proofs.LineLaws.{no_line, a-line}
use Rattle.bound_listing.proofs.put_line.Goals as goal

pub returns-then-p-ne-SCHED_SPORADIC : goal.returns-then-p-ne-SCHED_SPORADIC
returns-then-p-ne-SCHED_SPORADIC c =
    let a = c.args in
    record { put = no_line a.i a.p a.ticks c.if-p-ne-SCHED_SPORADIC.true; upper_bound = omega arith }

pub returns : goal.returns
returns c =
    let p = c.put_numbers in
    let a = c.args in
    record { put = a-line a.i a.p a.ticks c.if-p-ne-SCHED_SPORADIC.false c.most_of-m.result c.most_of-m.ensures p.ensures.put; upper_bound = p.ensures.upper_bound }

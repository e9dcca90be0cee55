-- `counts_add::add` meets its contract: the first k places are added, and the others as they were.
use native.Mathlib.Omega.{arith}
use Rattle.counts_text.proofs.SumLaws.{added_none, added_next, added-all}
use Rattle.counts_add.proofs.add.Goals as goal

pub loop-k-init : goal.loop-k-init
loop-k-init c = (omega arith, added_none _ _)

pub overflow_add-sums : goal.overflow_add-sums
overflow_add-sums c =
    let w = c.loop-k in
    omega (arith, w.invariant.1.left w.k (omega arith), c.requires.fit w.k)

pub loop-k-preserved : goal.loop-k-preserved
loop-k-preserved c =
    let w = c.loop-k in
    (omega arith, added_next w.k c.args.sums.now c.args.told.now w.sums (omega (arith, c.requires.all)) w.invariant.1)

pub returns : goal.returns
returns c =
    let w = c.loop-k in
    added-all w.k c.args.sums.now c.args.told.now w.sums (omega (arith, c.requires.all)) w.invariant.1

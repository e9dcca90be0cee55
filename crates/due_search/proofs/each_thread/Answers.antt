-- `due_search::each_thread` meets its contract: after i threads `best` is what the definition gives for i.
use Rattle.std.proofs.Common.{◌≡◌, refl, arith}
use Rattle.due_search.specs.Search.{next_due}
use Rattle.due_search.proofs.SearchLaws.{thread-passed, thread-compared}
use Rattle.due_search.proofs.each_thread.Goals as goal

pub loop-i-init : goal.loop-i-init
unfolding next_due
loop-i-init c = refl

pub loop-i-preserved-then-counts-i-eq0 : goal.loop-i-preserved-then-counts-i-eq0
loop-i-preserved-then-counts-i-eq0 c =
    thread-passed c.args.counts.now c.args.dues.now c.loop-i.i c.loop-i.best c.loop-i.invariant c.if-counts-i-eq0.true

pub loop-i-preserved : goal.loop-i-preserved
loop-i-preserved c =
    thread-compared c.args.counts.now c.args.dues.now c.loop-i.i c.loop-i.best c.loop-i.invariant c.if-counts-i-eq0.false c.first_due.result
    c.sooner_of-best.result c.first_due.ensures c.sooner_of-best.ensures

pub returns : goal.returns
returns c = let e : c.loop-i.i ≡ c.args.n = omega arith in rw (← e) c.loop-i.invariant

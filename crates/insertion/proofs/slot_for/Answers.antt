-- `insertion::slot_for` meets its contract.
use Rattle.std.proofs.Common.{◌≡◌, ◌+◌, ◌-◌, sym, ◌∙◌, arith}
use Rattle.entries.proofs.InsertLaws.{slot-here, slot-earlier, slot-none}
use Rattle.insertion.proofs.slot_for.Goals as goal

pub returns-then-dues-k : goal.returns-then-dues-k
returns-then-dues-k c =
    let e : c.loop-k.k - 1 + 1 ≡ c.loop-k.k = omega arith in
    rw e (sym (slot-here c.args.due c.loop-k.k c.args.dues (omega arith) (omega (arith, c.if-dues-k.true))) ∙ c.loop-k.invariant)

pub loop-k-preserved : goal.loop-k-preserved
loop-k-preserved c = sym (slot-earlier c.args.due c.loop-k.k c.args.dues (omega arith) (omega (arith, c.if-dues-k.false))) ∙ c.loop-k.invariant

pub returns : goal.returns
returns c = slot-none c.args.due c.loop-k.k c.args.dues (omega arith) ∙ c.loop-k.invariant

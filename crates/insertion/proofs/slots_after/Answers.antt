-- `insertion::slots_after` meets its contract.
use Rattle.std.proofs.Common.{arith}
use Rattle.entries.proofs.InsertLaws.{slot-for}
use Rattle.insertion.proofs.slots_after.Goals as goal

pub insert-requires : goal.insert-requires
insert-requires c =
    let at = slot-for c.args.due c.from-n.result c.args.dues in
    (omega (arith, at.within, c.slot_for-k.ensures), omega (arith, c.from-n.ensures, c.requires.1 c.if-first.false (omega arith)))

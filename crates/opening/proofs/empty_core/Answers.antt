-- `opening::empty_core` meets its contract.
use Rattle.opening.proofs.OpenLaws.{empty-is}
use Rattle.opening.proofs.empty_core.Goals as goal

pub returns : goal.returns
returns c = empty-is c.args.header c.empty.result c.empty.ensures

-- `slots_clear::clear` meets its contract.
use mathlib.Core.Path.{sym, ap}
use mathlib.Core.Bool.{Bool, false, cond}
use Rattle.base.specs.Tests.{all, zeros}
use Rattle.base.proofs.TestLaws.{all_one}
use Rattle.base.proofs.ZeroLaws.{or-none}
use Rattle.slots_clear.proofs.clear.Goals as goal

pub returns : goal.returns
unfolding all
returns c =
    rw (or-none c.bits_of.result c.bits_of-2.result, c.bits_of.ensures, c.bits_of-2.ensures)
    (ap (λ (none : Bool). cond (all (zeros c.args.dues.now)) none false) (sym (all_one (all (zeros c.args.amounts.now)))))

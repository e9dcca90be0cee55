-- `reports::tell_quantum` meets its contract.
use mathlib.Core.Path.{◌∙◌}
use native.Mathlib.Omega.{arith}
use Rattle.reports.proofs.TellLaws.{quantum-told}
use Rattle.reports.proofs.tell_quantum.Goals as goal

pub add-requires : goal.add-requires
add-requires c = (omega arith, c.requires.1.1 _)

pub returns : goal.returns
returns c = let a = c.args in c.add.ensures ∙ quantum-told a.i a.told.now

-- `slots_clear::bits_of` meets its contract.
use mathlib.Core.Path.{◌≡◌, sym, ap, ◌∙◌}
use mathlib.Core.Bool.{false, cond}
use mathlib.Core.List.{List, []}
use Prim.Native.Nat.{ℕ}
use native.Mathlib.Omega.{arith}
use lib.ListN.{drop, drop_of_length-le}
use lib.Dec.{eqb}
use Rattle.base.specs.Tests.{all, zeros}
use Rattle.base.proofs.TestLaws.{all_one}
use Rattle.slots_clear.proofs.ClearLaws.{clear_step}
use Rattle.slots_clear.proofs.bits_of.Goals as goal

pub loop-x-preserved : goal.loop-x-preserved
loop-x-preserved c = clear_step c.loop-x.bits c.loop-x.x-index c.args.xs.now (omega arith) ∙ c.loop-x.invariant

pub returns : goal.returns
unfolding all
returns c =
    let xs = c.args.xs.now in
    let none = eqb c.loop-x.bits 0 in
    let end : drop c.loop-x.x-index xs ≡ [] = drop_of_length-le xs {i = c.loop-x.x-index} (omega arith) in
    sym (all_one none) ∙ sym (ap (λ (ys : List ℕ). cond none (all (zeros ys)) false) end) ∙ c.loop-x.invariant

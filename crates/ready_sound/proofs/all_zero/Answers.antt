-- `ready_sound::all_zero` meets its contract: the bits that were seen and what is left to test give the whole answer.
use Rattle.std.proofs.Common.{◌≡◌, sym, ap, ◌∙◌, false, cond, List, [], ℕ, drop, eqb, arith}
use lib.ListN.{drop_of_length-le}
use Rattle.base.specs.Tests.{all, zeros}
use Rattle.base.proofs.TestLaws.{all_one}
use Rattle.ready_sound.proofs.StepLaws.{zeros-next}
use Rattle.ready_sound.proofs.all_zero.Goals as goal

pub loop-x-preserved : goal.loop-x-preserved
loop-x-preserved c = zeros-next c.args.s.now c.loop-x.x-index (omega arith) c.loop-x.bits ∙ c.loop-x.invariant

pub returns : goal.returns
unfolding all
returns c =
    let s = c.args.s.now in
    let d : drop c.loop-x.x-index s ≡ [] = drop_of_length-le s {i = c.loop-x.x-index} (omega arith) in
    sym (all_one (eqb c.loop-x.bits 0))
    ∙ sym (ap (λ (t : List ℕ). cond (eqb c.loop-x.bits 0) (all (zeros t)) false) d)
    ∙ c.loop-x.invariant

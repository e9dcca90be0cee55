-- `ready_sound::strike` meets its contract: what is left to strike off gives the whole answer.
use Rattle.std.proofs.Common.{◌≡◌, sym, ap, ◌∙◌, List, [], ℕ, drop, get_or, arith}
use lib.ListN.{length-set, drop_of_length-le, get_or-eq_default}
use Rattle.base.proofs.TestLaws.{false-true}
use Rattle.ready_sound.specs.Private.{strikes, struck}
use Rattle.ready_sound.proofs.StepLaws.{strikes-here, strikes-next, struck-next}
use Rattle.ready_sound.proofs.strike.Goals as goal

pub returns-then-i-ge-THREADS : goal.returns-then-i-ge-THREADS
returns-then-i-ge-THREADS c =
    let s = c.args.s.now in
    let z = get_or-eq_default c.loop-x.left 0 {n = get_or s c.loop-x.x-index 0} (omega arith) in
    let e = strikes-here s c.loop-x.x-index (omega arith) c.args.p c.loop-x.left (λ y. omega arith) in
    record { test = sym e ∙ c.loop-x.invariant.1; rest = λ y. false-true y }

pub returns-then-left-i : goal.returns-then-left-i
returns-then-left-i c =
    let e = strikes-here c.args.s.now c.loop-x.x-index (omega arith) c.args.p c.loop-x.left (rw c.from-i.ensures at c.if-left-i.true) in
    record { test = sym e ∙ c.loop-x.invariant.1; rest = λ y. false-true y }

pub loop-x-preserved : goal.loop-x-preserved
loop-x-preserved c =
    let s = c.args.s.now in
    let j = c.loop-x.x-index in
    let e = strikes-next s j (omega arith) c.args.p c.loop-x.left (rw c.from-i.ensures at c.if-left-i.false) in
    let f = struck-next s j (omega arith) c.loop-x.left in
    rw c.from-i.ensures (length-set c.loop-x.left _ 0 ∙ c.loop-x.invariant.0, sym e ∙ c.loop-x.invariant.1, sym f ∙ c.loop-x.invariant.2)

pub returns : goal.returns
unfolding strikes struck
returns c =
    let s = c.args.s.now in
    let d : drop c.loop-x.x-index s ≡ [] = drop_of_length-le s {i = c.loop-x.x-index} (omega arith) in
    record {
      test = sym (ap (λ (t : List ℕ). strikes c.args.p t c.loop-x.left) d) ∙ c.loop-x.invariant.1;
      rest = λ y. sym (ap (λ (t : List ℕ). struck t c.loop-x.left) d) ∙ c.loop-x.invariant.2;
    }

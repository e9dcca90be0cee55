-- `text::put_word` meets its contract.
use mathlib.Core.Path.{refl, ◌∙◌}
use native.Mathlib.Omega.{arith}
use lib.Seq.{take_all}
use Rattle.text.proofs.PlacedLaws.{nothing, word_next, word-offset}
use Rattle.text.proofs.put_word.Goals as goal

pub loop-i-init : goal.loop-i-init
loop-i-init c = (refl, nothing _ _)

pub put_byte-here-requires : goal.put_byte-here-requires
put_byte-here-requires c =
    let w = c.loop-i in
    omega (arith, w.invariant.0, word-offset _ w.i (omega arith) w.invariant.1, c.requires)

pub loop-i-preserved : goal.loop-i-preserved
loop-i-preserved c =
    let w = c.loop-i in (
      c.put_byte-here.auto.out ∙ w.invariant.0,
      word_next c.args.word.now w.i c.requires (omega arith) w.invariant.1 c.put_byte-here.ensures,
    )

pub returns : goal.returns
returns c = rw (take_all c.loop-i.i c.args.word.now (omega arith)) at c.loop-i.invariant.1

-- `listing::replay::put_threads` meets its contract: the lines so far are those of the first i threads.
use mathlib.Core.Path.{◌≡◌, refl, ◌∙◌}
use native.Mathlib.Omega.{arith}
use Rattle.state.specs.Updates.{whole}
use Rattle.text.proofs.FieldLaws.{labelled-length}
use Rattle.text.proofs.PlacedLaws.{after}
use Rattle.listing.specs.Lines.{idle_word, idle_line}
use Rattle.listing.proofs.PrintLaws.{threads-none, threads-next}
use Rattle.listing.proofs.replay.put_threads.Goals as goal

pub loop-i-init : goal.loop-i-init
loop-i-init c = (refl, omega arith, λ d m. threads-none (whole c.args.c d m) c.args.out.now c.args.at)

pub put_thread-here-requires : goal.put_thread-here-requires
put_thread-here-requires c =
    let w = c.loop-i in
    let f = c.requires.0 in
    (omega (arith, f), omega (arith, f, c.requires.1, w.invariant.0, w.invariant.1))

pub loop-i-preserved : goal.loop-i-preserved
loop-i-preserved c =
    let w = c.loop-i in
    let p = c.put_thread-here in (
      p.auto.out ∙ w.invariant.0,
      omega (arith, w.invariant.1, p.ensures.upper_bound),
      λ d m. threads-next (whole c.args.c d m) w.i (omega (arith, c.requires.0, c.requires.1, w.invariant.1)) (w.invariant.2 d m) p.ensures.put,
    )

pub put_labelled-requires : goal.put_labelled-requires
put_labelled-requires c =
    let w = c.loop-i in
    omega (arith, c.requires.0, c.requires.1, w.invariant.0, w.invariant.1, labelled-length idle_word {n = c.args.c.idle} (omega arith))

pub shape_of-out : goal.shape_of-out
shape_of-out c = c.put_labelled.auto.out ∙ c.loop-i.invariant.0

pub returns : goal.returns
unfolding idle_line
returns c =
    let w = c.loop-i in
    let p = c.put_labelled in
    let f = c.requires.0 in
    let k : w.i ≡ c.args.c.header.n = omega arith in
    record {
      by_index = λ d m. after (omega (arith, f, c.requires.1, w.invariant.1)) (rw k at (w.invariant.2 d m)) p.ensures;
      upper_bound = omega (arith, w.invariant.1, p.ensures.next, labelled-length idle_word {n = c.args.c.idle} (omega arith), f);
    }

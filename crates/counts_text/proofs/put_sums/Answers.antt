-- `counts_text::put_sums` meets its contract: the lines so far are those of the first t threads.
use mathlib.Core.Path.{◌≡◌, refl, ◌∙◌}
use native.Mathlib.Omega.{arith}
use Rattle.counts_text.specs.Lines.{sum_word, thread_line, sums_text}
use Rattle.counts_text.proofs.LineLaws.{lines_none, lines_next}
use Rattle.counts_text.proofs.put_sums.Goals as goal

pub loop-t-init : goal.loop-t-init
loop-t-init c = (omega arith, refl, omega arith, lines_none _ _ _)

pub put_thread-here-requires : goal.put_thread-here-requires
put_thread-here-requires c =
    let w = c.loop-t in
    (omega (arith, c.requires.0), omega arith, omega (arith, c.requires.0, c.requires.1, w.invariant.1, w.invariant.2))

pub loop-t-preserved : goal.loop-t-preserved
loop-t-preserved c =
    let p = c.put_thread-here in
    let w = c.loop-t in (
      omega arith,
      p.auto.out ∙ w.invariant.1,
      omega (arith, w.invariant.2, p.ensures.upper_bound),
      lines_next (thread_line sum_word c.args.sums.now) w.t (omega (arith, c.requires.0, c.requires.1, w.invariant.2)) w.invariant.3 p.ensures.put,
    )

pub shape_of-out : goal.shape_of-out
shape_of-out c = c.loop-t.invariant.1

pub returns : goal.returns
unfolding sums_text
returns c =
    let w = c.loop-t in
    let k : w.t ≡ c.args.n = omega arith in
    record { put = rw k at w.invariant.3; upper_bound = omega (arith, w.invariant.2, c.requires.0) }

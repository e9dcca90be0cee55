-- `share_lines::put_threads` meets its contract: the lines so far are those of the first i threads.
use mathlib.Core.Path.{◌≡◌, refl, ◌∙◌}
use native.Mathlib.Omega.{arith}
use Rattle.state.specs.Updates.{whole}
use Rattle.shares.proofs.ShareLaws.{times}
use Rattle.share_lines.proofs.ShownLaws.{share-shown-as}
use Rattle.share_lines.proofs.LineLaws.{lines_none, lines_next}
use Rattle.share_lines.proofs.put_threads.Goals as goal

pub overflow_cast-n : goal.overflow_cast-n
overflow_cast-n c = omega (arith, (times (whole c.args.c c.args.dues.now c.args.amounts.now) 0 c.requires.0).few)

pub overflow_sub-elapsed : goal.overflow_sub-elapsed
overflow_sub-elapsed c = (times (whole c.args.c c.args.dues.now c.args.amounts.now) 0 c.requires.0).order

pub loop-i-init : goal.loop-i-init
loop-i-init c = (refl, omega arith, lines_none _ _ _)

pub offset_bounds-c-from : goal.offset_bounds-c-from
offset_bounds-c-from c = omega (arith, c.from-in-loop-i.ensures, (times (whole c.args.c c.args.dues.now c.args.amounts.now) 0 c.requires.0).few)

pub bounds-c-from : goal.bounds-c-from
bounds-c-from c = omega (arith, c.from-in-loop-i.ensures, (times (whole c.args.c c.args.dues.now c.args.amounts.now) 0 c.requires.0).few)

pub put_line-at-requires : goal.put_line-at-requires
put_line-at-requires c =
    let s = c in
    let w = c.loop-i in
    let k = c.loop-i-test.true in
    let x = c.share_of-x in (
      share-shown-as (whole c.args.c c.args.dues.now c.args.amounts.now) s.requires.0 w.i k x.result x.ensures,
      omega (arith, s.requires.1, w.invariant.0, w.invariant.1, k, (times (whole c.args.c c.args.dues.now c.args.amounts.now) 0 c.requires.0).few),
    )

pub loop-i-preserved : goal.loop-i-preserved
loop-i-preserved c =
    let p = c.put_line-at in
    let x = c.share_of-x in
    let k = c.loop-i-test.true in
    let w = c.loop-i in
    let s = c in (
      p.auto.out ∙ w.invariant.0,
      omega (arith, w.invariant.1, p.ensures.upper_bound),
      lines_next (whole c.args.c c.args.dues.now c.args.amounts.now) w.i x.result (omega (arith, s.requires.1, w.invariant.1, k, (times (whole c.args.c c.args.dues.now c.args.amounts.now) 0 c.requires.0).few)) w.invariant.2 x.ensures (simp (c.from.ensures, c.from-in-loop-i.ensures) at p.ensures.put),
    )

pub shape_of-out : goal.shape_of-out
shape_of-out c = c.loop-i.invariant.0

pub returns : goal.returns
returns c =
    let w = c.loop-i in
    let s = c in
    let k : w.i ≡ s.args.c.header.n = omega arith in
    record { put = rw k at w.invariant.2; upper_bound = omega (arith, w.invariant.1, (times (whole c.args.c c.args.dues.now c.args.amounts.now) 0 c.requires.0).few) }

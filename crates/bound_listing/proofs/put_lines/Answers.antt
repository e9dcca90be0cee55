-- `bound_listing::put_lines` meets its contract: the lines so far are those of the first i places.
use mathlib.Core.Path.{◌≡◌, refl, ◌∙◌}
use native.Mathlib.Omega.{arith}
use Rattle.bound_listing.specs.BoundListing.{bound_lines}
use Rattle.bound_listing.proofs.LineLaws.{lines_none, lines_next}
use Rattle.bound_listing.proofs.put_lines.Goals as goal

pub loop-i-init : goal.loop-i-init
loop-i-init c = (refl, omega arith, lines_none c.args.table.now c.args.ticks _)

pub put_line-here-requires : goal.put_line-here-requires
put_line-here-requires c =
    let w = c.loop-i in
    omega (arith, c.requires, w.invariant.0, w.invariant.1, c.loop-i-test.true)

pub loop-i-preserved : goal.loop-i-preserved
loop-i-preserved c =
    let p = c.put_line-here in
    let t = c in
    let w = t.loop-i in
    let s = t in (
      p.auto.out ∙ w.invariant.0,
      omega (arith, w.invariant.1, p.ensures.upper_bound),
      lines_next s.args.table.now s.args.ticks w.i (omega (arith, s.requires, w.invariant.1, t.loop-i-test.true)) w.invariant.2 p.ensures.put,
    )

pub shape_of-out : goal.shape_of-out
shape_of-out c = c.loop-i.invariant.0

pub returns : goal.returns
unfolding bound_lines
returns c =
    let w = c.loop-i in
    let k : w.i ≡ 32 = omega arith in
    record { put = rw k at w.invariant.2; upper_bound = omega (arith, w.invariant.1) }

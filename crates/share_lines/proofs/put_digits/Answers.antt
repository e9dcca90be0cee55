-- `share_lines::put_digits` meets its contract: the share, and then the newline.
use mathlib.Core.Path.{◌∙◌}
use native.Mathlib.Omega.{arith}
use Rattle.text.proofs.PlacedLaws.{then}
use Rattle.share_lines.proofs.put_digits.Goals as goal

pub put_float-at-requires : goal.put_float-at-requires
put_float-at-requires c =
    let s = c in
    (s.requires.0, omega (arith, s.requires.1))

pub put_byte-requires : goal.put_byte-requires
put_byte-requires c =
    let p = c.put_float-at in
    let s = c in
    omega (arith, p.ensures.upper_bound, p.auto.out, s.requires.1)

pub shape_of-out : goal.shape_of-out
shape_of-out c = c.put_byte.auto.out ∙ c.put_float-at.auto.out

pub returns : goal.returns
returns c =
    let p = c.put_float-at in
    let s = c in
    let q = c.put_byte in
    record { put = then (omega (arith, p.ensures.put.next, p.ensures.upper_bound, s.requires.1)) p.ensures.put q.ensures; upper_bound = omega (arith, q.ensures.next, p.ensures.upper_bound) }

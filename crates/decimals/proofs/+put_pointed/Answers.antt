-- `decimals::put_pointed` meets its contract: the digits of a tenth with one place less, and then the last one; with no place the number as a
-- field that ends in the point.
use mathlib.Core.Path.{sym}
use native.Mathlib.Omega.{arith}
use lib.ListN.{length}
use Rattle.text.proofs.PlacedLaws.{then}
use Rattle.decimals.proofs.TextLaws.{none_after, one-after, positive, longer, room}
use Rattle.decimals.proofs.+put_pointed.Goals as goal

pub put_field-requires : goal.put_field-requires
put_field-requires t c = rw (sym (none_after c.args.places c.args.digits c.if-places-eq0.true)) c.requires

pub returns-then-places-eq0 : goal.returns-then-places-eq0
returns-then-places-eq0 t c = rw (none_after c.args.places c.args.digits c.if-places-eq0.true) c.put_field.ensures

pub overflow_sub-places : goal.overflow_sub-places
overflow_sub-places t c = positive c.args.places c.if-places-eq0.false

pub put_pointed-here-requires : goal.put_pointed-here-requires
put_pointed-here-requires t c =
    let a = c.args in
    let d = c.if-places-eq0.false in
    (omega (arith, positive a.places d), room a.at a.places a.digits (length a.out.now) d c.requires)

pub put_byte-requires : goal.put_byte-requires
put_byte-requires t c =
    omega (arith, c.requires, c.put_pointed-here.ensures.next, longer c.args.places c.args.digits c.if-places-eq0.false)

pub returns : goal.returns
returns t c =
    let a = c.args in
    let d = c.if-places-eq0.false in
    rw (one-after a.places a.digits d)
    (then (room a.at a.places a.digits (length a.out.now) d c.requires) c.put_pointed-here.ensures c.put_byte.ensures)

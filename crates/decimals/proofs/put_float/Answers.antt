-- `decimals::put_float` meets its contract: it is 0 where its bits are, and else its decimals are put.
use mathlib.Core.Path.{ap}
use native.Mathlib.Omega.{arith}
use lib.ListN.{length}
use Rattle.text.proofs.DecimalLaws.{small}
use Rattle.decimals.proofs.TextLaws.{within-most, none-text, unit-text, shown-number, no_bits, some_bits}
use Rattle.decimals.proofs.put_float.Goals as goal

pub float_to_bits-x : goal.float_to_bits-x
float_to_bits-x c = shown-number c.args.x c.requires.0

pub put_number-requires : goal.put_number-requires
put_number-requires c = omega (arith, c.requires.1, ap length (small 0 (omega arith)))

pub returns-then-x-eq0 : goal.returns-then-x-eq0
returns-then-x-eq0 c =
    let n = c in
    let s = n in
    let e = no_bits s.args.x s.well_formed.1.1.0.1 n.if-x-eq0.true in
    record { put = rw (none-text s.args.x e) n.put_number.ensures; upper_bound = omega (arith, n.put_number.ensures.next, ap length (small 0 (omega arith))) }

pub decimals_of-d-requires : goal.decimals_of-d-requires
decimals_of-d-requires c = some_bits c.args.x c.requires.0 c.if-x-eq0.false

pub put_pointed-requires : goal.put_pointed-requires
put_pointed-requires c =
    let d = c.decimals_of-d in
    omega (arith, within-most d.result d.ensures.within, c.requires.1)

pub returns : goal.returns
returns c =
    let p = c in
    let d = p.decimals_of-d in
    let i = p in
    let s = i in
    let u = some_bits s.args.x s.requires.0 i.if-x-eq0.false in
    record { put = rw (unit-text s.args.x d.result u d.ensures.value) p.put_pointed.ensures; upper_bound = omega (arith, p.put_pointed.ensures.next, within-most d.result d.ensures.within) }

-- `text::put_number` meets its contract: the digits of a tenth, and then the last one.
use mathlib.Core.Path.{ap}
use native.Mathlib.Omega.{arith}
use lib.ListN.{length}
use Rattle.text.proofs.DecimalLaws.{small, large, longer}
use Rattle.text.proofs.PlacedLaws.{then}
use Rattle.text.proofs.+put_number.Goals as goal

pub put_byte-requires : goal.put_byte-requires
put_byte-requires t c = omega (arith, c.requires, ap length (small c.args.n c.if-n-lt10.true))

pub returns-then-n-lt10 : goal.returns-then-n-lt10
returns-then-n-lt10 t c = rw (small c.args.n c.if-n-lt10.true) c.put_byte.ensures

pub put_number-here-requires : goal.put_number-here-requires
put_number-here-requires t c = omega (arith, c.requires, longer c.args.n c.if-n-lt10.false)

pub put_byte-requires-2 : goal.put_byte-requires-2
put_byte-requires-2 t c = omega (arith, c.requires, longer c.args.n c.if-n-lt10.false, c.put_number-here.ensures.next)

pub returns : goal.returns
returns t c =
    let l = c.if-n-lt10.false in
    rw (large c.args.n l)
    (then (omega (arith, c.requires, longer c.args.n l)) c.put_number-here.ensures c.put_byte-2.ensures)

-- `refusal_line::put_refusal` meets its contract: the longest number has room.
use native.Mathlib.Omega.{arith}
use Rattle.text.proofs.FieldLaws.{labelled-length}
use Rattle.listing.specs.Lines.{refused_word, refused_line}
use Rattle.refusal_line.proofs.put_refusal.Goals as goal

pub put_labelled-requires : goal.put_labelled-requires
put_labelled-requires c =
    omega (arith, labelled-length refused_word {n = c.from.result} (omega arith), c.requires)

pub returns : goal.returns
unfolding refused_line
returns c =
    let p = rw c.from.ensures at c.put_labelled.ensures in
    record { put = p; upper_bound = omega (arith, p.next, labelled-length refused_word {n = c.args.status} (omega arith)) }

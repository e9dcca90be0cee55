-- `text_fields::put_field` meets its contract: a number, and then a byte.
use mathlib.Core.List.{[], ◌∷◌}
use native.Mathlib.Omega.{arith}
use borrow.Author.Rules.{rules}
use Rattle.text.specs.Decimal.{decimal}
use Rattle.text.proofs.PlacedLaws.{room-first, room-second, both}
use Rattle.text.specs.Fields.{field}
use Rattle.text_fields.proofs.put_field.Goals as goal

pub put_number-here-requires : goal.put_number-here-requires
unfolding field
put_number-here-requires c = let s = c in room-first s.args.out.now s.args.at (decimal s.args.n) (s.args.end ∷ []) s.requires

pub put_byte-requires : goal.put_byte-requires
unfolding field
put_byte-requires c =
    let s = c in
    omega (arith, room-second s.args.out.now s.args.at (decimal s.args.n) (s.args.end ∷ []) s.requires c.put_number-here.ensures)

pub returns : goal.returns
unfolding field
returns c =
    let s = c in
    both s.args.out.now s.args.at (decimal s.args.n) (s.args.end ∷ []) s.requires c.put_number-here.ensures c.put_byte.ensures

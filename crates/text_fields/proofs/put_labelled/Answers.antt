-- `text_fields::put_labelled` meets its contract: a word, and then a field.
use borrow.Author.Rules.{rules}
use Rattle.text.specs.Fields.{newline, field, labelled}
use Rattle.text.proofs.PlacedLaws.{room-first, room-second, both}
use Rattle.text_fields.proofs.put_labelled.Goals as goal

pub put_word-here-requires : goal.put_word-here-requires
unfolding labelled
put_word-here-requires c =
    let s = c in
    room-first s.args.out.now s.args.at s.args.word.now (field s.args.n newline) s.requires

pub put_field-requires : goal.put_field-requires
unfolding labelled
put_field-requires c =
    let cw = c in
    let s = cw in
    room-second s.args.out.now s.args.at s.args.word.now (field s.args.n newline) s.requires cw.put_word-here.ensures

pub returns : goal.returns
unfolding labelled
returns c =
    let cw = c in
    let s = cw in
    both s.args.out.now s.args.at s.args.word.now (field s.args.n newline) s.requires cw.put_word-here.ensures c.put_field.ensures

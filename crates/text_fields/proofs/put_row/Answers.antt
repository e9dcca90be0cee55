-- `text_fields::put_row` meets its contract: four fields, one after another.
use borrow.Author.Rules.{rules}
use Rattle.text.specs.Fields.{space, newline, field, row}
use Rattle.text.proofs.PlacedLaws.{room-a, room-b, room-c, room-d, all-four}
use Rattle.text_fields.proofs.put_row.Goals as goal

pub put_field-second-requires : goal.put_field-second-requires
unfolding row
put_field-second-requires c =
    let s = c in
    let a = s.args in
    room-a a.out.now a.at (field a.a space) (field a.b space) (field a.c space) (field a.d newline) s.requires

pub put_field-third-requires : goal.put_field-third-requires
unfolding row
put_field-third-requires c =
    let c1 = c in
    let s = c1 in
    let a = s.args in
    room-b a.out.now a.at (field a.a space) (field a.b space) (field a.c space) (field a.d newline) s.requires c1.put_field-second.ensures

pub put_field-fourth-requires : goal.put_field-fourth-requires
unfolding row
put_field-fourth-requires c =
    let c2 = c in
    let c1 = c2 in
    let s = c1 in
    let a = s.args in
    room-c a.out.now a.at (field a.a space) (field a.b space) (field a.c space) (field a.d newline) s.requires c1.put_field-second.ensures c2.put_field-third.ensures

pub put_field-requires : goal.put_field-requires
unfolding row
put_field-requires c =
    let c3 = c in
    let c2 = c3 in
    let c1 = c2 in
    let s = c1 in
    let a = s.args in
    room-d a.out.now a.at (field a.a space) (field a.b space) (field a.c space) (field a.d newline) s.requires c1.put_field-second.ensures c2.put_field-third.ensures c3.put_field-fourth.ensures

pub returns : goal.returns
unfolding row
returns c =
    let c4 = c in
    let c3 = c4 in
    let c2 = c3 in
    let c1 = c2 in
    let s = c1 in
    let a = s.args in
    all-four a.out.now a.at (field a.a space) (field a.b space) (field a.c space) (field a.d newline) s.requires c1.put_field-second.ensures c2.put_field-third.ensures c3.put_field-fourth.ensures c4.put_field.ensures

-- `bound_listing::put_numbers` meets its contract: its word and three fields.
use Rattle.text.specs.Fields.{field, space, newline}
use Rattle.text.proofs.FieldLaws.{within, ended}
use Rattle.text.proofs.PlacedLaws.{room-b, room-c, room-d, all-four}
use Rattle.listing.specs.Lines.{thread_word}
use Rattle.bound_listing.proofs.LineLaws.{numbers-length}
use Rattle.bound_listing.proofs.put_numbers.Goals as goal

pub put_field-second-requires : goal.put_field-second-requires
put_field-second-requires c =
    let a = c.args in
    let room = within a.at (numbers-length c.ranges.i c.ranges.most c.ranges.ticks) c.requires in
    room-b a.out.now a.at thread_word (field a.i space) (field a.most space) (field a.ticks newline) room c.put_word-first.ensures

pub put_field-third-requires : goal.put_field-third-requires
put_field-third-requires c =
    let a = c.args in
    let room = within a.at (numbers-length c.ranges.i c.ranges.most c.ranges.ticks) c.requires in
    room-c a.out.now a.at thread_word (field a.i space) (field a.most space) (field a.ticks newline) room c.put_word-first.ensures c.put_field-second.ensures

pub put_field-requires : goal.put_field-requires
put_field-requires c =
    let a = c.args in
    let room = within a.at (numbers-length c.ranges.i c.ranges.most c.ranges.ticks) c.requires in
    room-d a.out.now a.at thread_word (field a.i space) (field a.most space) (field a.ticks newline) room c.put_word-first.ensures c.put_field-second.ensures
    c.put_field-third.ensures

pub returns : goal.returns
returns c =
    let a = c.args in
    let room = within a.at (numbers-length c.ranges.i c.ranges.most c.ranges.ticks) c.requires in
    let got = ended (numbers-length c.ranges.i c.ranges.most c.ranges.ticks)
    (all-four a.out.now a.at thread_word (field a.i space) (field a.most space) (field a.ticks newline) room c.put_word-first.ensures c.put_field-second.ensures
    c.put_field-third.ensures c.put_field.ensures) in
    record { put = got.0; upper_bound = got.1 }

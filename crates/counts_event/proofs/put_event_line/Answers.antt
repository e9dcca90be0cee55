-- `counts_event::put_event_line` meets its contract: its word and its two fields.
use Rattle.text.specs.Fields.{space, newline, field}
use Rattle.text.proofs.FieldLaws.{within, ended}
use Rattle.counts_text.specs.Lines.{event_word, event_line}
use Rattle.counts_text.proofs.LineLaws.{event-length, room-b, room-c, all_three}
use Rattle.counts_event.proofs.put_event_line.Goals as goal

pub put_field-there-requires : goal.put_field-there-requires
unfolding event_line
put_field-there-requires c =
    let a = c.args in
    let h = within 0 (event-length a.i c.requires.0 c.ranges.status) c.requires.1 in
    room-b a.out.now 0 event_word (field a.i space) (field a.status newline) h c.put_word-here.ensures

pub put_field-requires : goal.put_field-requires
unfolding event_line
put_field-requires c =
    let a = c.args in
    let h = within 0 (event-length a.i c.requires.0 c.ranges.status) c.requires.1 in
    rw c.from.ensures (room-c a.out.now 0 event_word (field a.i space) (field a.status newline) h c.put_word-here.ensures c.put_field-there.ensures)

pub returns : goal.returns
unfolding event_line
returns c =
    let a = c.args in
    let l = event-length a.i c.requires.0 c.ranges.status in
    let e = ended l (all_three a.out.now 0 event_word (field a.i space) (field a.status newline) (within 0 l c.requires.1) c.put_word-here.ensures c.put_field-there.ensures (rw c.from.ensures at c.put_field.ensures)) in
    record { put = e.0; upper_bound = e.1 }

-- `listing::lines::put_thread` meets its contract: its word and its four fields.
use Rattle.text.specs.Fields.{row}
use Rattle.text.proofs.PlacedLaws.{room-first, room-second, both}
use Rattle.listing.specs.Lines.{thread_word, thread_line}
use Rattle.text.proofs.FieldLaws.{within, ended}
use Rattle.listing.proofs.LineLaws.{thread-length}
use Rattle.listing.proofs.lines.put_thread.Goals as goal

pub put_word-here-requires : goal.put_word-here-requires
unfolding thread_line
put_word-here-requires c =
    let a = c.args in
    let h = within a.at (thread-length a.i c.requires.0 c.ranges.capacity c.ranges.count c.ranges.total) c.requires.1 in
    room-first a.out.now a.at thread_word (row a.i a.capacity a.count a.total) h

pub put_row-requires : goal.put_row-requires
unfolding thread_line
put_row-requires c =
    let a = c.args in
    let h = within a.at (thread-length a.i c.requires.0 c.ranges.capacity c.ranges.count c.ranges.total) c.requires.1 in
    rw c.from.ensures (room-second a.out.now a.at thread_word (row a.i a.capacity a.count a.total) h c.put_word-here.ensures)

pub returns : goal.returns
unfolding thread_line
returns c =
    let a = c.args in
    let l = thread-length a.i c.requires.0 c.ranges.capacity c.ranges.count c.ranges.total in
    let p = rw c.from.ensures at c.put_row.ensures in
    let y =
    ended l
    (both a.out.now a.at thread_word (row a.i a.capacity a.count a.total) (within a.at l c.requires.1) c.put_word-here.ensures p) in
    record { put = y.0; upper_bound = y.1 }

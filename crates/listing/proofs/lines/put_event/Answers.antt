-- `listing::lines::put_event` meets its contract: its four fields.
use Rattle.listing.specs.Lines.{event_line}
use Rattle.text.proofs.FieldLaws.{within, ended}
use Rattle.listing.proofs.LineLaws.{event-length}
use Rattle.listing.proofs.lines.put_event.Goals as goal

pub put_row-requires : goal.put_row-requires
unfolding event_line
put_row-requires c =
    simp (c.from.ensures, c.from-2.ensures) (within c.args.at (event-length c.args.i c.requires.0 c.ranges.status c.ranges.running c.ranges.next) c.requires.1)

pub returns : goal.returns
unfolding event_line
returns c =
    let p = simp (c.from.ensures, c.from-2.ensures) at c.put_row.ensures in
    let y = ended (event-length c.args.i c.requires.0 c.ranges.status c.ranges.running c.ranges.next) p in
    record { put = y.0; upper_bound = y.1 }

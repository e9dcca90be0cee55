-- `trace_from_text::turn` is safe: the file is a part of the buffer.
use Rattle.trace_making.proofs.StatusLaws.{made-part}
use Rattle.trace_from_text.proofs.turn.Goals as goal

pub slice_bounds-out-end : goal.slice_bounds-out-end
slice_bounds-out-end g c = let t = c.from_text-made in (made-part _ t.new.out t.result t.auto.out _ t.ensures.value).0

pub slice_bounds-write_all-end-2 : goal.slice_bounds-write_all-end-2
slice_bounds-write_all-end-2 g c = let t = c.from_text-made in (made-part _ t.new.out t.result t.auto.out _ t.ensures.value).1

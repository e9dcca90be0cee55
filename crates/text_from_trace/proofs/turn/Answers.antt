-- `text_from_trace::turn` is safe: the text is a part of the buffer.
use Rattle.trace_telling.proofs.StatusLaws.{told_part}
use Rattle.text_from_trace.proofs.turn.Goals as goal

pub slice_bounds-out-end : goal.slice_bounds-out-end
slice_bounds-out-end g c = let t = c.to_text-made in (told_part _ t.new.out t.result t.auto.out _ t.ensures.value).0

pub slice_bounds-write_all-end : goal.slice_bounds-write_all-end
slice_bounds-write_all-end g c = let t = c.to_text-made in (told_part _ t.new.out t.result t.auto.out _ t.ensures.value).1

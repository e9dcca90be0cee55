-- `bound_of_trace::list` is safe: the lines are a part of the buffer.
use Rattle.bound_of_trace.proofs.ListLaws.{listed-part}
use Rattle.bound_of_trace.proofs.list.Goals as goal

pub slice_bounds-out-end : goal.slice_bounds-out-end
slice_bounds-out-end g c = let p = c.bound_listing-length in (listed-part 2240 _ _ _ p.ensures.put p.ensures.within).0

pub slice_bounds-write_all-end : goal.slice_bounds-write_all-end
slice_bounds-write_all-end g c = let p = c.bound_listing-length in (listed-part 2240 _ _ _ p.ensures.put p.ensures.within).1

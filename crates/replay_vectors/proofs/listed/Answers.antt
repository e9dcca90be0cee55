-- `replay_vectors::listed` is safe: the listing is a part of the buffer.
use Rattle.listing.proofs.ListingLaws.{listed-part}
use Rattle.replay_vectors.proofs.listed.Goals as goal

pub slice_bounds-out-end : goal.slice_bounds-out-end
slice_bounds-out-end g c = let l = c.listing-r in (listed-part _ _ l.new.out _ l.ensures.value l.auto.out).0

pub slice_bounds-text-end : goal.slice_bounds-text-end
slice_bounds-text-end g c = let l = c.listing-r in (listed-part _ _ l.new.out _ l.ensures.value l.auto.out).1

-- `check_listing::show_both` is safe: our listing is a part of the buffer.
use Rattle.listing.proofs.ListingLaws.{listed-part}
use Rattle.check_listing.proofs.show_both.Goals as goal

pub slice_bounds-ours-end : goal.slice_bounds-ours-end
slice_bounds-ours-end c = let l = c.listing-listed in (listed-part _ _ l.new.out _ l.ensures.value l.auto.out).0

pub slice_bounds-show-end-2 : goal.slice_bounds-show-end-2
slice_bounds-show-end-2 c = let l = c.listing-listed in (listed-part _ _ l.new.out _ l.ensures.value l.auto.out).1

-- `listing_verdict::compared` meets its contract: what is compared is the listing.
use native.Mathlib.Omega.{arith}
use Rattle.listing.proofs.ListingLaws.{listed-part}
use Rattle.listing_check.proofs.VerdictLaws.{listed-whole, of-the-listing}
use Rattle.listing_verdict.proofs.compared.Goals as goal

pub slice_bounds-ours-end : goal.slice_bounds-ours-end
slice_bounds-ours-end c =
    let p = c.listing-listed in
    (listed-part c.args.file.now 54000 p.new.out p.result p.ensures.value p.auto.out).0

pub slice_bounds-first_difference-end : goal.slice_bounds-first_difference-end
slice_bounds-first_difference-end c =
    let p = c.listing-listed in
    (listed-part c.args.file.now 54000 p.new.out p.result p.ensures.value p.auto.out).1

pub returns : goal.returns
returns c =
    let p = c.listing-listed in
    of-the-listing _ _ _ _ c.first_difference.ensures (listed-whole _ _ p.new.out _ p.ensures.value p.ensures.out_after (p.ensures.status_value (omega arith)))

-- `listing::listing` meets its contract.
use Prim.Native.Nat.{ℕ}
use mathlib.Core.Path.{ap, ◌∙◌}
use native.Mathlib.Omega.{arith}
use Rattle.listing.proofs.ListingLaws.{too_short, long-enough, taken-size}
use Rattle.listing.proofs.listing.Goals as goal

pub returns-then-out-length : goal.returns-then-out-length
returns-then-out-length c =
    let p = c.put_listing-length in
    let y = too_short c.args.file.now c.args.out.now p.ensures.put p.ensures.upper_bound c.if-out-length.true in
    record { value = ap (λ (k : ℕ). record { status = k; length = 0 }) c.from.ensures ∙ y.0; out_after = y.1.0; status_value = λ h. c.from.ensures ∙ y.1.1 h }

pub slice_bounds-put_word-end : goal.slice_bounds-put_word-end
slice_bounds-put_word-end c =
    let p = c.put_listing-length in
    taken-size c.args.file.now c.args.out.now p.ensures.put p.ensures.upper_bound

pub put_word-requires : goal.put_word-requires
put_word-requires c =
    let p = c.put_listing-length in
    omega (arith, taken-size c.args.file.now c.args.out.now p.ensures.put p.ensures.upper_bound, c.if-out-length.false)

pub returns : goal.returns
returns c =
    let p = c.put_listing-length in
    let y = long-enough c.args.file.now c.args.out.now p.ensures.put p.ensures.upper_bound c.if-out-length.false c.put_word.ensures in
    record { value = y.0; out_after = y.1.0; status_value = y.1.1 }

-- `listing_check::checked_of` meets its contract, variant by variant.
use mathlib.Core.Path.{sym, ap}
use Rattle.listing_check.specs.Verdict.{checked_of}
use Rattle.listing_check.proofs.checked_of.Goals as goal

pub returns-in-Same : goal.returns-in-Same
returns-in-Same c = sym (ap checked_of c.in-Same.is)

pub returns-in-Differs : goal.returns-in-Differs
returns-in-Differs c = sym (ap checked_of c.in-Differs.is)

pub returns-in-Refused : goal.returns-in-Refused
returns-in-Refused c = sym (ap checked_of c.in-Refused.is)

-- How the bits of a list's numbers are put together, place by place: what is left gives the whole answer.
use Prim.Native.Nat.{ℕ, ◌+◌, ◌<◌}
use mathlib.Core.Bool.{false, cond}
use mathlib.Core.Path.{◌≡◌}
use mathlib.Core.List.{List}
use lib.ListN.{length, drop, get_or}
use lib.Seq.{drop-cons}
use lib.Dec.{eqb}
use lib.Bits.{bit_or}
use native.Mathlib.Numerals.{add-one}
use Rattle.base.specs.Tests.{all, zeros}
use Rattle.base.proofs.ZeroLaws.{or-none, cond_both}

pub clear_step : (bits i : ℕ) (xs : List ℕ) → i < length xs
    → cond (eqb (bit_or bits (get_or xs i 0)) 0) (all (zeros (drop (i + 1) xs))) false ≡ cond (eqb bits 0) (all (zeros (drop i xs))) false
unfolding all
clear_step bits i xs h =
    rw (drop-cons xs i 0 h, add-one i, or-none bits (get_or xs i 0))
    (cond_both (eqb bits 0) (eqb (get_or xs i 0) 0) _)

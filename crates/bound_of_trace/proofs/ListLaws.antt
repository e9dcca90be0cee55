-- What was listed is a part of the buffer, from its start on.
use Prim.Native.Nat.{ℕ, ◌≤◌}
use mathlib.Core.List.{List}
use mathlib.Core.Path.{◌≡◌, sym}
use native.Mathlib.Omega.{arith}
use lib.ListN.{length, take, replicate, length-replicate}
use lib.Seq.{length-take-le}
use Rattle.text.specs.Placed.{Put}
use Rattle.text.proofs.PlacedLaws.{length-put}

pub listed-part : (size : ℕ) (v left : List ℕ) (r : ℕ) → Put (replicate size 0) 0 v left r → r ≤ size → (r ≤ length left) × (r ≡ length (take r left))
listed-part size v left r p h =
    let z = length-replicate {A = ℕ} size 0 in
    let e = length-put (omega (arith, p.next)) p in
    let l : r ≤ length left = omega (arith, e) in
    (l, sym (length-take-le r left l))

-- How long a field and a line of fields can be.
use Prim.Native.Nat.{ℕ, ◌+◌, ◌≤◌, ◌<◌, ◌^◌}
use mathlib.Core.List.{List, [], ◌∷◌, ◌++◌}
use native.Mathlib.Omega.{arith}
use lib.ListN.{length, length-append}
use mir.Val.{Fits}
use mir.Syntax.{w8, w64}
use Rattle.text.specs.Decimal.{decimal}
use Rattle.text.specs.Fields.{field, space, newline, labelled, row}
use Rattle.text.specs.Widths.{byte_field, long_field}
use Rattle.text.specs.Placed.{Put}
use Rattle.text.proofs.DecimalLaws.{digits-fit}

-- a number below 10 ^ k and the byte after it
pub field-length : (k n end : ℕ) → 0 < k → n < 10 ^ k → length (field n end) ≤ k + 1
unfolding field
field-length k n end p h = omega (arith, length-append (decimal n) (end ∷ []), digits-fit k n p h)

pub byte-length : {n : ℕ} (end : ℕ) → Fits w8 n → length (field n end) ≤ byte_field
byte-length {n} end h = field-length 3 n end (omega arith) (omega arith)

pub long-length : {n : ℕ} (end : ℕ) → Fits w64 n → length (field n end) ≤ long_field
long-length {n} end h = field-length 20 n end (omega arith) (omega arith)

pub labelled-length : (word : List ℕ) {n : ℕ} → Fits w64 n → length (labelled word n) ≤ length word + long_field
unfolding labelled
labelled-length word {n} h = omega (arith, length-append word (field n newline), long-length newline h)

pub row-length : (a b c d : ℕ) {k l m n : ℕ} → length (field a space) ≤ k → length (field b space) ≤ l → length (field c space) ≤ m → length (field d newline) ≤ n
    → length (row a b c d) ≤ k + l + m + n
unfolding row
row-length a b c d p q r s =
    let three : List ℕ = field a space ++ field b space ++ field c space in
    omega (arith, length-append three (field d newline), length-append (field a space ++ field b space) (field c space), length-append (field a space) (field b space))

-- a line of at most k bytes has room where k bytes are left, and ends at most k bytes on
pub within : {n k m : ℕ} (at : ℕ) → n ≤ k → at + k ≤ m → at + n ≤ m
within at l h = omega arith

pub ended : {o v o' : List ℕ} {at r k : ℕ} → length v ≤ k → Put o at v o' r → (Put o at v o' r) × (r ≤ at + k)
ended {v = v} l p = (p, omega (arith, p.next))

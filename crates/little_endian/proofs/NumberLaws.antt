-- Bytes and numbers, both ways round, over the width.
use Prim.Native.Nat.{ℕ, zero, suc, ◌+◌, ◌/◌, ◌^◌, ◌≤◌, ◌<◌}
use mathlib.Core.Path.{◌≡◌, refl, ap, sym, ◌∙◌}
use mathlib.Core.List.{List, [], ◌∷◌}
use native.Mathlib.Omega.{arith}
use native.Mathlib.Nat.{div-lt_iff_lt-mul, div-add-mod', pow-suc}
use lib.Arith.{digits_div, digits_mod}
use lib.ListN.{length, take, drop, length-drop}
use lib.Seq.{length-take-le, get_or-drop}
use Rattle.little_endian.specs.LittleEndian.{Bytes, bytes_of, number_of, number_at}

pub length-bytes : (k n : ℕ) → length (bytes_of k n) ≡ k
unfolding bytes_of
length-bytes zero n = refl
length-bytes (suc k) n = ap suc (length-bytes k (n / 256))

-- a number that fits its width is read back
pub number-bytes : (k n : ℕ) → n < 256 ^ k → number_of (bytes_of k n) ≡ n
unfolding bytes_of number_of
number-bytes zero n h = omega arith
number-bytes (suc k) n h =
    let q : n / 256 < 256 ^ k = (div-lt_iff_lt-mul {k = 256} (omega arith)).1 (rw pow-suc at h) in
    rw (number-bytes k (n / 256) q) (div-add-mod' n 256)

-- bytes that were read are written back
pub bytes-number : (bs : List ℕ) → Bytes bs → bytes_of (length bs) (number_of bs) ≡ bs
unfolding bytes_of number_of
bytes-number [] h = refl
bytes-number (b ∷ bs) h = rw (digits_mod (number_of bs) (h 0), digits_div (number_of bs) (h 0), bytes-number bs (λ i. h (suc i)))

pub bytes_take : (k : ℕ) (s : List ℕ) → Bytes s → Bytes (take k s)
bytes_take zero s b i = omega arith
bytes_take (suc k) [] b i = omega arith
bytes_take (suc k) (x ∷ s) b zero = b 0
bytes_take (suc k) (x ∷ s) b (suc i) = bytes_take k s (λ j. b (suc j)) i

pub bytes_drop : (n : ℕ) (s : List ℕ) → Bytes s → Bytes (drop n s)
bytes_drop n s b i = rw get_or-drop (b (n + i))

-- the same at an offset of a list
pub bytes-at : (s : List ℕ) (k at : ℕ) → at + k ≤ length s → Bytes s → bytes_of k (number_at k at s) ≡ take k (drop at s)
unfolding number_at
bytes-at s k at h b =
    let l : length (take k (drop at s)) ≡ k = length-take-le k (drop at s) (rw length-drop (omega arith)) in
    ap (λ (n : ℕ). bytes_of n (number_of (take k (drop at s)))) (sym l)
    ∙ bytes-number (take k (drop at s)) (bytes_take k (drop at s) (bytes_drop at s b))

-- a number that stands at an offset of a list is read from there
pub number-at : (s : List ℕ) (k at n : ℕ) → n < 256 ^ k → take k (drop at s) ≡ bytes_of k n → number_at k at s ≡ n
unfolding number_at
number-at s k at n h e = ap number_of e ∙ number-bytes k n h

-- The text of numbers: how long it is, and how it ends.
use Prim.Native.Nat.{ℕ, suc, ◌+◌, ◌*◌, ◌/◌, ◌%◌, ◌^◌, ◌≤◌, ◌<◌}
use mathlib.Core.List.{List, [], ◌∷◌}
use mathlib.Core.Path.{refl}
use native.Mathlib.Omega.{arith}
use lib.ListN.{length, get_or, length-append}
use Rattle.text.specs.Decimal.{decimal}
use Rattle.text.proofs.DecimalLaws.{digits-fit, every}
use Rattle.text_numbers.specs.Numbers.{end_of, numbers_text}
use Rattle.text_lines.proofs.LineLaws.{Ended, Inside, inside-ended, inside-append}

-- a number of 64 bits has at most 20 digits, so that with its end byte it takes at most 21
pub numbers-short : (ns : List ℕ) → ((i : ℕ) → get_or ns i 0 < 2 ^ 64) → length (numbers_text ns) ≤ 21 * length ns
unfolding numbers_text
numbers-short [] h = omega arith
numbers-short (n ∷ ns) h =
    let d : length (decimal n) ≤ 20 = digits-fit 20 n (omega arith) (omega (arith, h 0)) in
    let r = numbers-short ns (λ i. h (suc i)) in
    rw length-append (omega arith)

-- the text of numbers is the end of a line
decimal-inside : (n : ℕ) → Inside (decimal n)
decimal-inside =
    every (λ (n : ℕ) (ds : List ℕ). Inside ds)
    (λ n l. (λ e. omega arith, tt))
    (λ n l h. inside-append (decimal (n / 10)) ((48 + n % 10) ∷ []) h (λ e. omega arith, tt))

pub numbers-ended : (n : ℕ) (ns : List ℕ) → Ended (numbers_text (n ∷ ns))
unfolding numbers_text
numbers-ended n [] = inside-ended (decimal n) (end_of [] ∷ []) (decimal-inside n) refl
numbers-ended n (m ∷ ns) =
    inside-ended (decimal n) (end_of (m ∷ ns) ∷ numbers_text (m ∷ ns)) (decimal-inside n)
    (inside-ended (end_of (m ∷ ns) ∷ []) (numbers_text (m ∷ ns)) (λ e. omega arith, tt) (numbers-ended m ns))

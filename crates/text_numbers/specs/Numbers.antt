-- 02 E1 2: numbers in a line: decimal, without leading zeros, one space between two of them and a newline after the last.
use Rattle.std.specs.Prelude.{ℕ, suc, ◌+◌, ◌-◌, ◌≤◌, Bool, true, false, cond, List, [], ◌∷◌, ◌++◌, ◌≡◌, Option, Some, None, leb, eqb, length, take, drop, get_or, replicate}
use Rattle.base.specs.Tests.{all}
use Rattle.text.specs.Decimal.{decimal, read_from}
use Rattle.text.specs.Fields.{space, newline}

abbrev pub digit : ℕ → Bool
digit b = all (leb 48 b ∷ leb b 57 ∷ [])

-- how many digits a text starts with, and their number
unfoldable pub digit_count : List ℕ → ℕ
digit_count [] = 0
digit_count (b ∷ bs) = cond (digit b) (suc (digit_count bs)) 0

unfoldable pub leading_value : List ℕ → ℕ
leading_value s = read_from 0 (take (digit_count s) s)

-- 02 E1 2, 6: a text starts with a number and the byte that ends it: there is a digit, a zero in front stands alone, the number is at most
-- `most`, and the byte after its last digit is `end`
unfoldable pub starts_with_number : ℕ → ℕ → List ℕ → Bool
starts_with_number most end s =
    all
    (leb 1 (digit_count s)
    ∷ leb (digit_count s) (cond (eqb (get_or s 0 0) 48) 1 (digit_count s))
    ∷ leb (leading_value s) most
    ∷ eqb (get_or s (digit_count s) 0) end
    ∷ [])

-- the number at a place of a text with the place after its end, or none
unfoldable pub decimal_at : ℕ → ℕ → List ℕ → ℕ → Option (ℕ × ℕ)
decimal_at most end s at =
    cond (starts_with_number most end (drop at s)) (Some (leading_value (drop at s), at + digit_count (drop at s) + 1)) None

-- 02 E1 2: the byte after a number, the last one or not
abbrev pub end_byte : Bool → ℕ
end_byte last = cond last newline space

-- the byte after a number, by the numbers that follow it
abbrev pub end_of : List ℕ → ℕ
end_of [] = end_byte true
end_of (n ∷ ns) = end_byte false

-- 02 E1 2: the text of some numbers
unfoldable pub numbers_text : List ℕ → List ℕ
numbers_text [] = []
numbers_text (n ∷ ns) = decimal n ++ (end_of ns ∷ numbers_text ns)

-- 02 E1 2, 6: a text is made of one number for each of the largest ones `ms` and of nothing else; and these numbers
unfoldable pub are_numbers : List ℕ → List ℕ → Bool
are_numbers [] s = eqb (length s) 0
are_numbers (m ∷ ms) s = all (starts_with_number m (end_of ms) s ∷ are_numbers ms (drop (suc (digit_count s)) s) ∷ [])

unfoldable pub numbers_of : List ℕ → List ℕ → List ℕ
numbers_of [] s = []
numbers_of (m ∷ ms) s = leading_value s ∷ numbers_of ms (drop (suc (digit_count s)) s)

-- what is answered of a text: its numbers and zeros after them, or none
unfoldable pub numbers_found : List ℕ → List ℕ → Option (List ℕ)
numbers_found ms s = cond (are_numbers ms s) (Some (numbers_of ms s ++ replicate (8 - length ms) 0)) None

-- as many numbers as largest ones, and none above its own
abbrev pub Within : List ℕ → List ℕ → Type 0
Within [] [] = Unit {0}
Within [] (n ∷ ns) = ⊥
Within (m ∷ ms) [] = ⊥
Within (m ∷ ms) (n ∷ ns) = (n ≤ m) × Within ms ns

-- the same of an array: a number past the largest ones is 0
abbrev pub Below : List ℕ → List ℕ → Type 0
Below ms vs = (i : ℕ) → get_or vs i 0 ≤ get_or ms i 0

-- the text of numbers is read as those numbers
abbrev pub TextIsRead : Type 0
TextIsRead = (ms ns : List ℕ) → Within ms ns → (are_numbers ms (numbers_text ns) ≡ true) × (numbers_of ms (numbers_text ns) ≡ ns)

-- and no other text is: what is read is the text of its numbers, byte for byte
abbrev pub OnlyTextIsRead : Type 0
OnlyTextIsRead = (ms s : List ℕ) → are_numbers ms s ≡ true → (s ≡ numbers_text (numbers_of ms s)) × Within ms (numbers_of ms s)

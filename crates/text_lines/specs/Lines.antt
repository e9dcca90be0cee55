-- The lines of a text, and the first in which two texts differ. A line is its bytes with its newline. Ours: bytes after the last newline are
-- a line that has none, and the empty text has no line.
use Rattle.std.specs.Prelude.{ℕ, zero, suc, ◌+◌, Bool, true, false, cond, List, [], ◌∷◌, ◌≡◌, eqb, length, take, drop}
use Rattle.text.specs.Fields.{newline}

-- a byte that is no newline stands before the first of the lines after it
abbrev pub before : ℕ → List (List ℕ) → List (List ℕ)
before b [] = (b ∷ []) ∷ []
before b (l ∷ ls) = (b ∷ l) ∷ ls

-- 02 E1 2: the lines of a text
unfoldable pub lines_of : List ℕ → List (List ℕ)
lines_of [] = []
lines_of (b ∷ bs) = cond (eqb b newline) ((b ∷ []) ∷ lines_of bs) (before b (lines_of bs))

-- how many bytes the first line of a text has
unfoldable pub line_length : List ℕ → ℕ
line_length [] = 0
line_length (b ∷ bs) = cond (eqb b newline) 1 (suc (line_length bs))

-- how many bytes so many lines at the start of a text have
unfoldable pub lines_length : ℕ → List ℕ → ℕ
lines_length zero s = 0
lines_length (suc n) s = line_length s + lines_length n (drop (line_length s) s)

-- the same bytes
unfoldable pub equal : List ℕ → List ℕ → Bool
equal [] [] = true
equal [] (b ∷ t) = false
equal (a ∷ s) [] = false
equal (a ∷ s) (b ∷ t) = cond (eqb a b) (equal s t) false

-- 02 E1 4: a text starts with a word, byte for byte
unfoldable pub starts_with : List ℕ → List ℕ → Bool
starts_with word text = equal (take (length word) text) word

-- 02 E11 2: of lines whose first has the number k, the number of the first that differs, is missing or is surplus; 0 where there is none
unfoldable pub difference_from : ℕ → List (List ℕ) → List (List ℕ) → ℕ
difference_from k [] [] = 0
difference_from k [] (b ∷ t) = k
difference_from k (a ∷ s) [] = k
difference_from k (a ∷ s) (b ∷ t) = cond (equal a b) (difference_from (suc k) s t) k

-- 02 E11 2: the same of two texts, their lines numbered from 1
unfoldable pub first_difference : List ℕ → List ℕ → ℕ
first_difference a b = difference_from 1 (lines_of a) (lines_of b)

-- 02 E11 2: there is no such line exactly where the texts agree byte for byte
abbrev pub NoDifference : Type 0
NoDifference = (a b : List ℕ) → (first_difference a b ≡ 0 → a ≡ b) × (a ≡ b → first_difference a b ≡ 0)

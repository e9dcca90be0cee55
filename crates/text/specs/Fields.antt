-- Numbers as the fields of a line. A space stands between two fields, and a newline ends a line.
use Rattle.std.specs.Prelude.{ℕ, List, [], ◌∷◌, ◌++◌}
use Rattle.text.specs.Decimal.{decimal}

abbrev pub space : ℕ
space = 32

abbrev pub newline : ℕ
newline = 10

-- a number and the byte after it
unfoldable pub field : ℕ → ℕ → List ℕ
field n end = decimal n ++ (end ∷ [])

-- a line of a word, with its space, and a number
unfoldable pub labelled : List ℕ → ℕ → List ℕ
labelled word n = word ++ field n newline

-- a line of four numbers
unfoldable pub row : ℕ → ℕ → ℕ → ℕ → List ℕ
row a b c d = field a space ++ field b space ++ field c space ++ field d newline

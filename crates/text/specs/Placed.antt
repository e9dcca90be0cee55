-- Bytes at an offset of a buffer.
use Rattle.std.specs.Prelude.{ℕ, ◌+◌, length, take, drop}
use mathlib.Core.{List.List, List.◌++◌, Path.◌≡◌}

-- the buffer o with the bytes v at an offset; every other byte is kept
unfoldable pub placed : List ℕ → ℕ → List ℕ → List ℕ
placed o at v = take at o ++ (v ++ drop (at + length v) o)

-- what a function that puts the bytes v at an offset of o leaves, o', and answers, r: the offset after them
pub record Put (o : List ℕ) (at : ℕ) (v o' : List ℕ) (r : ℕ) : Type 0 where
  pub next : r ≡ at + length v
  pub holds : o' ≡ placed o at v

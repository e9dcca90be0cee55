-- The most bytes of a field: so many digits, and the byte after them.
use Rattle.std.specs.Prelude.{ℕ, ◌+◌}

-- a byte's number
abbrev pub byte_field : ℕ
byte_field = 3 + 1

-- any number of 64 bits
abbrev pub long_field : ℕ
long_field = 20 + 1

-- The most bytes of the line of a refusal.
use Rattle.std.specs.Prelude.{ℕ, ◌+◌, length}
use Rattle.text.specs.Widths.{long_field}
use Rattle.listing.specs.Lines.{refused_word}

abbrev pub refusal_most : ℕ
refusal_most = length refused_word + long_field

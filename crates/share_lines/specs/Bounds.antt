-- The most bytes of a line of each kind and of all lines, and which shares have a text.
use Rattle.std.specs.Prelude.{ℕ, ◌+◌, ◌*◌, length}
use Rattle.records.specs.Ranges.{most_threads}
use Rattle.text.specs.Widths.{byte_field, long_field}
use Rattle.decimals.specs.Decimals.{Shown, longest_text}
use Rattle.shares.specs.declared.Share.{Share}
use Rattle.shares.specs.declared.Share.TheVariants as share
use Rattle.share_summary.specs.declared.Summarized.{Summarized}
use Rattle.share_summary.specs.declared.Summarized.TheVariants as summarized
use Rattle.share_lines.specs.Lines.{share_word, smallest_word}

-- a share and its newline
abbrev pub end_most : ℕ
end_most = longest_text + 1

-- the numbers of a thread's line, with its word
abbrev pub numbers_most : ℕ
numbers_most = length share_word + long_field + long_field + long_field

abbrev pub share_line_most : ℕ
share_line_most = numbers_most + end_most

abbrev pub leader_line_most : ℕ
leader_line_most = length smallest_word + byte_field + end_most

abbrev pub share_lines_most : ℕ
share_lines_most = share_line_most * most_threads

abbrev pub summary_most : ℕ
summary_most = leader_line_most + leader_line_most

-- each share in it is a float that has a text
abbrev pub ShownShare : Share → Type 0
ShownShare (share.Of x) = Shown x
ShownShare share.NoTime = Unit {0}
ShownShare (share.Refused n) = ⊥

abbrev pub ShownSummary : Summarized → Type 0
ShownSummary (summarized.Of s) = Shown s.largest × Shown s.smallest
ShownSummary summarized.NoTime = Unit {0}
ShownSummary (summarized.Refused n) = ⊥

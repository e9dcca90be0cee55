-- The lines of shares as bytes. Fields are in decimal with one space between; a line ends in one newline.
use Rattle.std.specs.Prelude.{ℕ, List, [], ◌∷◌, ◌++◌}
use Rattle.text.specs.Fields.{space, newline, field}
use Rattle.state.specs.declared.State.{State}
use Rattle.trace.specs.Lists.{joined}
use Rattle.shares.specs.{declared.Share.Share, Shares.elapsed, Shares.total_at, Shares.share_of}
use Rattle.shares.specs.declared.Share.TheVariants as share
use Rattle.share_summary.specs.{declared.Summarized.Summarized, Summaries.summarized_of}
use Rattle.share_summary.specs.declared.Summarized.TheVariants as summarized
use Rattle.decimals.specs.Decimals.{float_text}

-- the words `share`, `largest` and `smallest`, each with a space after it, and `none`
abbrev pub share_word : List ℕ
share_word = 115 ∷ 104 ∷ 97 ∷ 114 ∷ 101 ∷ space ∷ []

abbrev pub largest_word : List ℕ
largest_word = 108 ∷ 97 ∷ 114 ∷ 103 ∷ 101 ∷ 115 ∷ 116 ∷ space ∷ []

abbrev pub smallest_word : List ℕ
smallest_word = 115 ∷ 109 ∷ 97 ∷ 108 ∷ 108 ∷ 101 ∷ 115 ∷ 116 ∷ space ∷ []

abbrev pub none_word : List ℕ
none_word = 110 ∷ 111 ∷ 110 ∷ 101 ∷ []

-- 02 E13 1, 2: a share's own digits; or `none`, where no time has passed. A refusal has no line.
abbrev pub share_text : Share → List ℕ
share_text (share.Of x) = float_text x
share_text share.NoTime = none_word
share_text (share.Refused n) = []

-- the line of thread i: `share`, its number, its total, the elapsed time, and its share
unfoldable pub share_line : ℕ → ℕ → ℕ → Share → List ℕ
share_line i total ticks x =
    (share_word ++ field i space ++ field total space ++ field ticks space) ++ (share_text x ++ (newline ∷ []))

-- a line for each of the first n threads, by number
unfoldable pub share_lines : State → ℕ → List ℕ
share_lines s n = joined (λ i. share_line i (total_at s.threads i) (elapsed s) (share_of s i)) n

-- a line of the summary: its word, the thread's number, and its share
unfoldable pub leader_line : List ℕ → ℕ → Share → List ℕ
leader_line word thread x = (word ++ field thread space) ++ (share_text x ++ (newline ∷ []))

-- 02 E13 3: the largest and the smallest share; no line, where no time has passed
unfoldable pub summary_lines : Summarized → List ℕ
summary_lines (summarized.Of s) =
    leader_line largest_word s.largest_thread (share.Of s.largest) ++ leader_line smallest_word s.smallest_thread (share.Of s.smallest)
summary_lines summarized.NoTime = []
summary_lines (summarized.Refused n) = []

-- a line for each thread of a state, and the summary
unfoldable pub shares_in : State → List ℕ
shares_in s = share_lines s s.header.n ++ summary_lines (summarized_of s)

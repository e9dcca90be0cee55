-- The shares at the end of a file's replay.
use Rattle.std.specs.Prelude.{ℕ, eqb}
use mathlib.Core.{Bool.cond, List.List}
use Rattle.replay_steps.specs.FileSteps.{begun_of, closing}
use Rattle.listing.specs.Lines.{refused_line}
use Rattle.share_lines.specs.Lines.{shares_in}

-- 01 Replay 8: those of the state that the last event left; a file that is refused gives the line of that refusal
unfoldable pub share_listing : List ℕ → List ℕ
share_listing file = cond (eqb (begun_of file).status 0) (shares_in (closing file)) (refused_line (begun_of file).status)

-- a buffer of so many bytes is never too short
abbrev pub largest : ℕ
largest = 4096

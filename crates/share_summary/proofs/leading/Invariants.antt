-- `share_summary::leading` meets its contract: of the threads so far the first with the most and the first with the least run time.
use mathlib.Core.Path.{◌≡◌}
use Rattle.share_summary.specs.Summaries.{most_of, least_of}
use Rattle.share_summary.specs.Private.{leader_at}
use Rattle.share_summary.proofs.leading.Given as goal

abbrev pub invariant-loop-i : goal.invariant-loop-i
invariant-loop-i l =
    (l.most ≡ leader_at l.threads (most_of l.threads l.i)) × (l.least ≡ leader_at l.threads (least_of l.threads l.i))

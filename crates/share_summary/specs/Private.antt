-- Cited by private functions alone: the threads with the most and the least run time, each with its total.
use Rattle.std.specs.Prelude.{ℕ, List}
use Rattle.thread.specs.declared.Thread.{Thread}
use Rattle.share_summary.specs.declared.{Leader.Leader, Leaders.Leaders}
use Rattle.shares.specs.Shares.{total_at}
use Rattle.share_summary.specs.Summaries.{most_of, least_of}

abbrev pub leader_at : List Thread → ℕ → Leader
leader_at ts i = record { thread = i; total = total_at ts i }

abbrev pub leaders_of : List Thread → ℕ → Leaders
leaders_of ts n = record { most = leader_at ts (most_of ts n); least = leader_at ts (least_of ts n) }

-- Each answer of 02 E13 in numbers: which of its cases it is, the number of the refusal, and its values. What doesn't apply is 0.
use Rattle.std.specs.Prelude.{ℕ, false, pos}
use Rattle.std.specs.Float.Ieee as Ieee
use Rattle.shares.specs.declared.Share.{Share}
use Rattle.shares.specs.declared.Share.TheVariants as share
use Rattle.share_summary.specs.declared.Summarized.{Summarized}
use Rattle.share_summary.specs.declared.Summarized.TheVariants as summarized
use Rattle.board_shares.specs.declared.{ShareReply.ShareReply, SummaryReply.SummaryReply}

-- the float 0
abbrev pub no_share : Ieee.Float
no_share = Ieee.fin false 0 (pos 0)

-- 0 a share, 1 no time has passed, 2 refused
abbrev pub share_reply : Share → ShareReply
share_reply (share.Of x) = record { form = 0; status = 0; share = x }
share_reply share.NoTime = record { form = 1; status = 0; share = no_share }
share_reply (share.Refused n) = record { form = 2; status = n; share = no_share }

abbrev pub no_summary : ℕ → ℕ → SummaryReply
no_summary form status =
    record { form = form; status = status; largest_thread = 0; smallest_thread = 0; largest = no_share; smallest = no_share }

abbrev pub summary_reply : Summarized → SummaryReply
summary_reply (summarized.Of s) =
    record {
      form = 0;
      status = 0;
      largest_thread = s.largest_thread;
      smallest_thread = s.smallest_thread;
      largest = s.largest;
      smallest = s.smallest;
    }
summary_reply summarized.NoTime = no_summary 1 0
summary_reply (summarized.Refused n) = no_summary 2 n

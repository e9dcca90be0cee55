-- What a rule does to an account: its Effect applied.
use Rattle.std.specs.Prelude.{ℕ, zero, suc, ◌<◌, ◌^◌, Bool, cond, ◌&&◌}
use lib.{ListN.get_or, Dec.ltb, Dec.leb}
use Rattle.records.specs.declared.Parameters.{Parameters}
use Rattle.sporadic.specs.{declared.Server.Server, declared.Place.TheVariants.Stays, declared.Effect.Effect, Rules.due_of, Rules.block_effect, Rules.wake_effect, Rules.return_effect}
use Rattle.account.specs.declared.{Pending.Pending, Account.Account, Outcome.Outcome}
pub use Rattle.entries.specs.Entries.{without_first, slot_for, inserted, count_after, slots_after, Room}
use Rattle.entries.specs.Entries.{entries}

-- what an Effect does to the pending entries: an entry that comes stands in due order, after those of equal due (02 E7 3)
abbrev pub pending_after : Effect → Pending → Pending
pending_after e q =
    record {
      count = count_after e.first e.amount q.count;
      dues = slots_after e.first e.amount (slot_for e.due q.count q.dues) q.count e.due q.dues;
      amounts = slots_after e.first e.amount (slot_for e.due q.count q.dues) q.count e.amount q.amounts;
    }

-- and to an account, and the answer of a rule: that account, and where the thread goes
abbrev pub applied : Effect → Account → Account
applied e a = record { server = e.server; pending = pending_after e a.pending }

abbrev pub outcome : Effect → Account → Outcome
outcome e a = record { account = applied e a; place = e.place }

-- ---- the rules

-- what scheduling U needs: its due time fits, and a slot is free for it
abbrev pub Schedulable : Parameters → Server → ℕ → Type 0
Schedulable p s count = (due_of p s < 2 ^ 64) × (0 < s.used → count < entries)

-- the answers of a block and of a wake on a whole account
abbrev pub blocking : ℕ → Bool → Parameters → Account → Outcome
blocking now blocked p a = outcome (block_effect now blocked p a.server) a

abbrev pub waking : ℕ → Bool → Parameters → Account → Outcome
waking now blocked p a = outcome (wake_effect now blocked p a.pending.count a.server) a

-- ---- all that is due

-- 01 Passing 8: the first pending entry is due
abbrev pub first_is_due : ℕ → Pending → Bool
first_is_due now q = ltb 0 q.count && leb (get_or q.dues 0 0) now

-- 01 Passing 13 to 15: the first entry of an account comes back
abbrev pub return_first : ℕ → Bool → Parameters → Account → Effect
return_first now blocked p a = return_effect now blocked p a.pending.count (get_or a.pending.amounts 0 0) a.server

-- 01 Passing 8: what is due comes back, one entry after the other, at most k of them
unfoldable pub returned : ℕ → ℕ → Bool → Parameters → Account → Account
returned zero now blocked p a = a
returned (suc k) now blocked p a = cond (first_is_due now a.pending) (returned k now blocked p (applied (return_first now blocked p a) a)) a

-- the thread goes where the first of them sends it: it is blocked or at upper then, and stays
abbrev pub returning : ℕ → Bool → Parameters → Account → Outcome
returning now blocked p a =
    record { account = returned a.pending.count now blocked p a; place = cond (first_is_due now a.pending) (return_first now blocked p a).place Stays }

-- The state (01 State 1 to 4) and its parts.
use Rattle.std.specs.Prelude.{ℕ, get_or}
use Rattle.account.specs.declared.{Pending.Pending, Account.Account}
use Rattle.rows.specs.Rows.{pending_of}
use Rattle.thread.specs.{declared.Thread.Thread, Thread.no_thread, Thread.place_of}
use Rattle.state.specs.declared.State.{State}

-- 01 State 2: thread i
abbrev pub thread_at : State → ℕ → Thread
thread_at s i = get_or s.threads i no_thread

-- 01 State 2: the pending replenishments and the account of thread i
abbrev pub pending_at : State → ℕ → Pending
pending_at s i = pending_of s.counts s.dues s.amounts i

abbrev pub account_at : State → ℕ → Account
account_at s i = record { server = (thread_at s i).server; pending = pending_at s i }

-- 01 State 7: the list in which thread i stands, 0 for none
abbrev pub place : State → ℕ → ℕ
place s i = place_of (thread_at s i) (get_or s.counts i 0)

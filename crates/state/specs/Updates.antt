-- A state made of its parts, and with one part changed. No other file lists all its fields.
use Rattle.std.specs.Prelude.{ℕ, List, set}
use Rattle.records.specs.declared.Header.{Header}
use Rattle.account.specs.declared.Account.{Account}
use Rattle.ready.specs.Word.{occupancy}
use Rattle.rows.specs.Rows.{with_slots}
use Rattle.thread.specs.{declared.Thread.Thread, Thread.with_server}
use Rattle.state.specs.declared.State.{State}
use Rattle.state.specs.declared.Core.{Core}

abbrev pub state_of : Header → ℕ → ℕ → ℕ → List Thread → List ℕ → List ℕ → List ℕ → List ℕ → State
state_of header now idle word threads counts dues amounts lists =
    record { header = header; now = now; idle = idle; word = word; threads = threads; counts = counts; dues = dues; amounts = amounts; lists = lists }

-- a state of a core and its slots
abbrev pub whole : Core → List ℕ → List ℕ → State
whole c dues amounts = state_of c.header c.now c.idle c.word c.threads c.counts dues amounts c.lists

abbrev pub with_header : Header → State → State
with_header h s = state_of h s.now s.idle s.word s.threads s.counts s.dues s.amounts s.lists

-- another time now, of which so much was idle
abbrev pub with_time : ℕ → ℕ → State → State
with_time now idle s = state_of s.header now idle s.word s.threads s.counts s.dues s.amounts s.lists

abbrev pub with_all_threads : List Thread → State → State
with_all_threads ts s = state_of s.header s.now s.idle s.word ts s.counts s.dues s.amounts s.lists

abbrev pub with_thread : ℕ → Thread → State → State
with_thread i t s = with_all_threads (set s.threads i t) s

-- other pending replenishments of all threads
abbrev pub with_entries : List ℕ → List ℕ → List ℕ → State → State
with_entries counts dues amounts s = state_of s.header s.now s.idle s.word s.threads counts dues amounts s.lists

-- 01 State 8: the word follows the lists
abbrev pub with_lists : List ℕ → State → State
with_lists l s = state_of s.header s.now s.idle (occupancy l) s.threads s.counts s.dues s.amounts l

-- another thread and account at place i
abbrev pub with_account : ℕ → Thread → Account → State → State
with_account i t a s =
    with_entries (set s.counts i a.pending.count) (with_slots i a.pending.dues s.dues) (with_slots i a.pending.amounts s.amounts)
    (with_thread i (with_server a.server t) s)

-- The slots of each thread's pending replenishments (01 State 2) in the arrays of all threads.
use Rattle.std.specs.Prelude.{ℕ, ◌+◌, ◌*◌, List, ◌++◌, take, drop, get_or}
use Rattle.records.specs.Ranges.{most_threads}
use Rattle.account.specs.declared.Pending.{Pending}
use Rattle.entries.specs.Entries.{entries}

-- how many slots all threads have
abbrev pub all_slots : ℕ
all_slots = most_threads * entries

-- thread i's slots among those of all threads, and the array with other numbers there
abbrev pub slots_at : ℕ → List ℕ → List ℕ
slots_at i xs = take entries (drop (i * entries) xs)

unfoldable pub with_slots : ℕ → List ℕ → List ℕ → List ℕ
with_slots i row xs = take (i * entries) xs ++ (row ++ drop (i * entries + entries) xs)

-- 01 State 2: the pending replenishments of thread i
abbrev pub pending_of : List ℕ → List ℕ → List ℕ → ℕ → Pending
pending_of counts dues amounts i = record { count = get_or counts i 0; dues = slots_at i dues; amounts = slots_at i amounts }

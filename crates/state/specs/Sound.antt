-- When a state is sound (01 State 5 to 17), as tests that compute.
use Rattle.std.specs.Prelude.{ℕ, ◌+◌}
use mathlib.Core.{Bool.Bool, Bool.cond, List.List, List.[], List.◌∷◌, List.◌++◌}
use lib.{ListN.length, Dec.ltb, Dec.leb, Dec.eqb}
use Rattle.base.specs.Tests.{all, below, zeros}
use Rattle.records.specs.Ranges.{by_policy, most_threads, most_replenishments, last_time, in_range, all_zero}
use Rattle.sporadic.specs.declared.Server.{Server}
use Rattle.account.specs.{declared.Pending.Pending, Sound.sound_at}
use Rattle.ready.specs.Sound.{sound_lists}
use Rattle.rows.specs.Rows.{all_slots}
use Rattle.thread.specs.{declared.Thread.Thread, Thread.is_blocked}
use Rattle.state.specs.{declared.State.State, State.thread_at, State.pending_at, State.place}

-- 01 State 17: no capacity, no U and no activation time
abbrev pub server_tests : Server → List Bool
server_tests s = eqb s.capacity 0 ∷ eqb s.used 0 ∷ eqb s.activation 0 ∷ []

-- 01 State 17: a thread that is not sporadic has no account
abbrev pub no_account_tests : Server → Pending → List Bool
no_account_tests s q = server_tests s ++ (eqb q.count 0 ∷ all (zeros q.dues) ∷ all (zeros q.amounts) ∷ [])

-- 01 State 15 and 17: the quantum left is 1 to quantum for RR, and 0 for any other
abbrev pub left_tests : Thread → List Bool
left_tests t =
    by_policy t.parameters.policy
    (eqb t.left 0 ∷ [])
    (leb 1 t.left ∷ leb t.left t.parameters.budget ∷ [])
    (eqb t.left 0 ∷ [])

-- 01 State 10 to 14, 17: a sporadic thread's account is sound, and any other has none
abbrev pub account_test : ℕ → ℕ → Thread → Pending → Bool
account_test start now t q =
    by_policy t.parameters.policy
    (all (no_account_tests t.server q))
    (all (no_account_tests t.server q))
    (sound_at start now (is_blocked t) t.parameters (record { server = t.server; pending = q }))

-- 01 State 2, 6, 15, 17: a thread below N, less its account; it is blocked (1) or runnable (0)
abbrev pub present_fields : Thread → List Bool
present_fields t =
    in_range most_replenishments t.parameters ∷ eqb t.parameters.flag 0 ∷ leb t.blocked 1 ∷ all (left_tests t) ∷ []

-- 01 State 17: no thread, less its account
abbrev pub absent_fields : Thread → List Bool
absent_fields t = all_zero t.parameters ∷ eqb t.blocked 0 ∷ eqb t.total 0 ∷ eqb t.left 0 ∷ []

-- 01 State 2, 6, 10 to 15, 17: a thread below N
unfoldable pub present_test : ℕ → ℕ → Thread → Pending → Bool
present_test start now t q = all (present_fields t ++ (account_test start now t q ∷ []))

-- 01 State 17: a place from N on holds nothing
unfoldable pub absent_test : Thread → Pending → Bool
absent_test t q = all (absent_fields t ++ (all (no_account_tests t.server q) ∷ []))

-- a thread below N (`present`), and none from N on
abbrev pub presence_test : Bool → ℕ → ℕ → Thread → Pending → Bool
presence_test present start now t q = cond present (present_test start now t q) (absent_test t q)

abbrev pub thread_test : State → ℕ → Bool
thread_test s i = presence_test (ltb i s.header.n) s.header.start s.now (thread_at s i) (pending_at s i)

-- 01 State 16: the sum of all run times
abbrev pub totals : List Thread → ℕ
totals [] = 0
totals (t ∷ ts) = t.total + totals ts

-- 01 State 6 to 8, 16: N, the times, every thread, the lists and the word, and the run times.
-- The arrays have the lengths that their types say.
abbrev pub sound_tests : State → List Bool
sound_tests s =
    leb 1 s.header.n ∷ leb s.header.n most_threads
    ∷ leb s.header.start s.now ∷ leb s.now last_time
    ∷ eqb (length s.threads) most_threads ∷ eqb (length s.counts) most_threads
    ∷ eqb (length s.dues) all_slots ∷ eqb (length s.amounts) all_slots
    ∷ below most_threads (thread_test s)
    ∷ sound_lists (place s) s.word s.lists
    ∷ eqb (s.header.start + totals s.threads + s.idle) s.now
    ∷ []

-- 01 State 5: a state is sound
unfoldable pub sound_state : State → Bool
sound_state s = all (sound_tests s)

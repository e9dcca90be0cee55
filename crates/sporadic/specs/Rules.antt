-- The rules of a sporadic server. Each is an Effect, which takes the server and numbers and leaves the entries aside. That a
-- rule which doesn't concern the thread changes nothing is ours.
use Rattle.std.specs.Prelude.{ℕ, ◌+◌, ◌-◌, min, Bool, true, false, cond, not, ◌&&◌, ltb, leb, eqb}
use Rattle.records.specs.declared.Parameters.{Parameters}
use Rattle.sporadic.specs.declared.{Server.Server, Place.Place, Place.TheVariants.Stays, Place.TheVariants.Low, Place.TheVariants.LowThenUpper, Place.TheVariants.Upper, Effect.Effect}

-- ---- the server

-- 01 Passing 3: k ticks at the upper priority are moved from capacity to U
abbrev pub charged : ℕ → Server → Server
charged k s = record { capacity = s.capacity - k; used = s.used + k; activation = s.activation }

-- 01 Passing 13: an amount comes back to the capacity, held at the budget
abbrev pub replenished : ℕ → Parameters → Server → Server
replenished amount p s = record { capacity = min (s.capacity + amount) p.budget; used = s.used; activation = s.activation }

-- 01 Passing 9: U is due a period after the activation time, and becomes 0 when it is scheduled
abbrev pub due_of : Parameters → Server → ℕ
due_of p s = s.activation + p.period

abbrev pub cleared : Server → Server
cleared s = record { capacity = s.capacity; used = 0; activation = s.activation }

-- 01 Passing 14: the activation time becomes now
abbrev pub activated : ℕ → Server → Server
activated now s = record { capacity = s.capacity; used = s.used; activation = now }

-- 01 State 9: the upper priority takes capacity and fewer than max_repl pending; otherwise the thread is at low
abbrev pub at_upper : Parameters → ℕ → ℕ → Bool
at_upper p capacity count = ltb 0 capacity && ltb count p.max_repl

-- ---- the rules

-- nothing happens
abbrev pub unchanged : Server → Effect
unchanged s = record { server = s; place = Stays; due = 0; amount = 0; back = 0; first = false }

-- 01 Passing 9: U becomes pending
abbrev pub pending_later : Parameters → Server → Effect
pending_later p s = record { server = cleared s; place = Stays; due = due_of p s; amount = s.used; back = 0; first = false }

-- 01 Passing 11: U comes back at once and is never pending
abbrev pub back_at_once : Parameters → Server → Effect
back_at_once p s = record { server = replenished s.used p (cleared s); place = Stays; due = 0; amount = 0; back = s.used; first = false }

-- 01 Passing 9 to 11: scheduling U. Amount 0 schedules nothing; due at or before now, it comes back at once
unfoldable pub scheduled : ℕ → Parameters → Server → Effect
scheduled now p s = cond (eqb s.used 0) (unchanged s) (cond (leb (due_of p s) now) (back_at_once p s) (pending_later p s))

-- with another server, the thread goes there
abbrev pub sent : Place → Server → Effect → Effect
sent x s e = record { server = s; place = x; due = e.due; amount = e.amount; back = e.back; first = e.first }

-- 01 Passing 14 and 15: an amount came back: a runnable thread that was at low goes to the tail of its upper list (by the place
-- x) and its activation time becomes now; any other stays and keeps it
abbrev pub raised : ℕ → Bool → Place → Effect → Effect
raised now low x e = cond low (sent x (activated now e.server) e) e

-- 01 Passing 6 and 14: at the limit the thread goes to low and U is scheduled; where U came back at once it goes on to upper
abbrev pub at_limit : ℕ → Effect → Effect
at_limit now e = raised now (ltb 0 e.back) LowThenUpper (sent Low e.server e)

-- a blocked thread, and one with capacity left, has no limit to reach
unfoldable pub limit_effect : ℕ → Bool → Parameters → Server → Effect
limit_effect now blocked p s = cond (not blocked && eqb s.capacity 0) (at_limit now (scheduled now p s)) (unchanged s)

-- 01 Events 3: a block schedules U; the thread stands in no list, so nothing moves it. One that is blocked already can't block
abbrev pub block_effect : ℕ → Bool → Parameters → Server → Effect
block_effect now blocked p s = cond blocked (unchanged s) (scheduled now p s)

-- 01 Events 5: a wake at the upper priority makes now the activation time; either way the thread goes to the tail of its list.
-- One that is runnable already can't wake
abbrev pub wake_effect : ℕ → Bool → Parameters → ℕ → Server → Effect
wake_effect now blocked p count s =
    cond blocked (cond (at_upper p s.capacity count) (sent Upper (activated now s) (unchanged s)) (sent Low s (unchanged s))) (unchanged s)

-- 01 Passing 13: the first pending entry, of this amount, comes back
abbrev pub first_back : Parameters → ℕ → Server → Effect
first_back p amount s = record { server = replenished amount p s; place = Stays; due = 0; amount = 0; back = amount; first = true }

-- 01 Passing 13 to 15: the same of `count` entries, with where the thread goes; of none nothing comes back
unfoldable pub return_effect : ℕ → Bool → Parameters → ℕ → ℕ → Server → Effect
return_effect now blocked p count amount s =
    cond (eqb count 0) (unchanged s) (raised now (not blocked && not (at_upper p s.capacity count)) Upper (first_back p amount s))

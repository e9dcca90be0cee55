-- When an account is sound at a time: the tests of 01's list that speak of one sporadic thread's account.
use Rattle.std.specs.Prelude.{ℕ, ◌+◌}
use mathlib.Core.{Bool.Bool, Bool.false, Bool.cond, List.List, List.[], List.◌∷◌}
use lib.{ListN.length, ListN.drop, Dec.leb, Dec.eqb}
use Rattle.records.specs.{declared.Parameters.Parameters, Ranges.most_ticks}
use Rattle.base.specs.Tests.{all, zeros}
use Rattle.sporadic.specs.declared.Server.{Server}
use Rattle.account.specs.{declared.Account.Account, Account.entries, Account.pending_dues, Account.pending_amounts, Account.is_upper}

-- 01 State 10: the sum of the pending amounts
abbrev pub sum : List ℕ → ℕ
sum [] = 0
sum (x ∷ xs) = x + sum xs

-- 01 State 12: amounts are at least 1
abbrev pub positive : List ℕ → List Bool
positive [] = []
positive (x ∷ xs) = leb 1 x ∷ positive xs

-- 02 E7 4: dues don't fall; the first of them is at lo or later, and each is at hi or before
abbrev pub due_tests : ℕ → ℕ → List ℕ → List Bool
due_tests lo hi [] = []
due_tests lo hi (d ∷ ds) = leb lo d ∷ leb d hi ∷ due_tests d hi ds

-- a runnable thread at its upper priority
abbrev pub runs_upper : Bool → Parameters → Account → Bool
runs_upper blocked p a = cond blocked false (is_upper p a)

-- 02 E7 4: the last time at which an entry may be due
abbrev pub last_due : ℕ → ℕ
last_due now = now + most_ticks

-- 01 State 11 to 13: the count, U of a thread that is blocked or low, the activation time, and U against it
abbrev pub number_tests : ℕ → ℕ → Bool → Parameters → Server → ℕ → List Bool
number_tests start now up p s count =
    leb count p.max_repl ∷ leb count entries
    ∷ eqb (cond up 0 s.used) 0
    ∷ leb start s.activation ∷ leb (s.activation + s.used) now
    ∷ []

-- 01 State 10 and 12: the sum of capacity, U and the pending amounts is the budget
abbrev pub amount_tests : ℕ → ℕ → List ℕ → List Bool
amount_tests budget own xs = eqb (own + sum xs) budget ∷ positive xs

-- 01 State 17: slots past the count hold 0; an array is as long as its type says
abbrev pub slot_tests : ℕ → List ℕ → List Bool
slot_tests count xs = eqb (length xs) entries ∷ zeros (drop count xs)

-- 01 State 9 to 13 and 17, 02 E7 4: what a sound account meets at a time
abbrev pub sound_tests : ℕ → ℕ → Bool → Parameters → Account → List Bool
sound_tests start now blocked p a =
    all (number_tests start now (runs_upper blocked p a) p a.server a.pending.count)
    ∷ all (amount_tests p.budget (a.server.capacity + a.server.used) (pending_amounts a.pending))
    ∷ all (due_tests (now + 1) (last_due now) (pending_dues a.pending))
    ∷ all (slot_tests a.pending.count a.pending.dues)
    ∷ all (slot_tests a.pending.count a.pending.amounts)
    ∷ []

unfoldable pub sound_at : ℕ → ℕ → Bool → Parameters → Account → Bool
sound_at start now blocked p a = all (sound_tests start now blocked p a)

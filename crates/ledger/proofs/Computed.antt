-- A ledger, by computing.
use Prim.Native.Nat.{ℕ}
use mathlib.Core.Path.{◌≡◌, refl}
use mathlib.Core.List.{List, [], ◌∷◌, ◌++◌}
use native.Mathlib.Omega.{arith}
use Rattle.records.specs.declared.Parameters.{Parameters}
use Rattle.sporadic.specs.declared.Server.{Server}
use Rattle.sporadic.specs.Rules.{unchanged, pending_later, back_at_once, first_back}
use Rattle.reports.specs.Steps.{Step}
use Rattle.reports.specs.Steps.Step.{ran, quantum, limit, effect}
use Rattle.ledger.specs.Ledger.{ran_in, back_in, sum_of, Run, ledger, empty, entered, Late}

abbrev worker : Parameters
worker = record { policy = 2; priority = 20; low = 5; max_repl = 2; flag = 0; budget = 10; period = 40 }

-- so much is charged, under this activation time
abbrev with : ℕ → ℕ → Server
with used activation = record { capacity = 0; used = used; activation = activation }

abbrev run : ℕ → ℕ → Run
run k a = record { ticks = k; activation = a }

-- 4 and 2 ticks under the activation time 0 become pending, due at 40; 3 under 15, due at 55; the first comes back at 40; 5 under 15 and,
-- kept from running, 1 under 41 come back at once at 90
abbrev steps : List Step
steps =
    ran 4 0
    ∷ ran 2 0
    ∷ effect 6 40 (pending_later worker (with 6 0))
    ∷ effect 15 40 (unchanged (with 0 15))
    ∷ ran 3 15
    ∷ limit
    ∷ effect 19 40 (pending_later worker (with 3 15))
    ∷ effect 40 40 (first_back worker 6 (with 0 15))
    ∷ quantum
    ∷ ran 5 15
    ∷ ran 1 41
    ∷ effect 90 40 (back_at_once worker (with 6 41))
    ∷ []

steps-row : entered empty steps
    ≡ ledger []
    (record { due = 55; period = 40; runs = run 3 15 ∷ [] } ∷ [])
    (record { amount = 6; time = 40; period = 40; runs = run 4 0 ∷ run 2 0 ∷ [] }
    ∷ record { amount = 6; time = 90; period = 40; runs = run 5 15 ∷ run 1 41 ∷ [] }
    ∷ [])
steps-row = refl

sums-row : ◌≡◌ {A = List ℕ} (sum_of ran_in steps ∷ sum_of back_in steps ∷ []) (15 ∷ 12 ∷ [])
sums-row = refl

-- the first 6 come back a period after the activation time, to the tick
late-row : Late (entered empty steps).returns
late-row = (refl, (omega arith, (omega arith, tt)), (refl, (omega arith, (omega arith, tt)), tt))

-- 02 E7 3 and 8: 3 ticks under 0 are due at 100; then the period is set to 20, and 7 under 4 are due at 24, before them, and 2 under 80 at
-- 100, after those of equal due; each comes back with the period that it was scheduled with
abbrev quicker : Parameters
quicker = record { policy = 2; priority = 20; low = 5; max_repl = 3; flag = 0; budget = 12; period = 20 }

abbrev slower : Parameters
slower = record { policy = 2; priority = 20; low = 5; max_repl = 3; flag = 0; budget = 12; period = 100 }

abbrev carried : List Step
carried =
    ran 3 0
    ∷ effect 3 100 (pending_later slower (with 3 0))
    ∷ ran 7 4
    ∷ effect 11 20 (pending_later quicker (with 7 4))
    ∷ ran 2 80
    ∷ effect 82 20 (pending_later quicker (with 2 80))
    ∷ []

carried_row : (entered empty carried).pending
    ≡ record { due = 24; period = 20; runs = run 7 4 ∷ [] }
    ∷ record { due = 100; period = 100; runs = run 3 0 ∷ [] }
    ∷ record { due = 100; period = 20; runs = run 2 80 ∷ [] }
    ∷ []
carried_row = refl

back-row : (entered empty (carried ++ effect 100 20 (first_back quicker 7 (with 0 80)) ∷ effect 100 20 (first_back quicker 3 (with 0 80)) ∷ effect 100 20 (first_back quicker 2 (with 0 80)) ∷ [])).returns
    ≡ record { amount = 7; time = 100; period = 20; runs = run 7 4 ∷ [] }
    ∷ record { amount = 3; time = 100; period = 100; runs = run 3 0 ∷ [] }
    ∷ record { amount = 2; time = 100; period = 20; runs = run 2 80 ∷ [] }
    ∷ []
back-row = refl

-- a tick earlier is too early
early-row : Late (record { amount = 6; time = 39; period = 40; runs = run 6 0 ∷ [] } ∷ []) → ⊥
early-row h = omega (arith, h.1.0)

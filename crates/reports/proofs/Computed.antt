-- What a log tells, by computing.
use mathlib.Core.Path.{◌≡◌, refl}
use mathlib.Core.List.{[], ◌∷◌}
use lib.ListN.{take, drop, replicate}
use Rattle.records.specs.declared.Parameters.{Parameters}
use Rattle.sporadic.specs.declared.Server.{Server}
use Rattle.sporadic.specs.Rules.{pending_later, back_at_once, first_back}
use Rattle.reports.specs.Steps.{Log, happens}
use Rattle.reports.specs.Steps.Step.{ran, quantum, limit, effect}
use Rattle.reports.specs.Tallies.{tally, tallied, numbers_below, numbers, more_of}

abbrev worker : Parameters
worker = record { policy = 2; priority = 20; low = 5; max_repl = 2; flag = 0; budget = 10; period = 40 }

abbrev server : Server
server = record { capacity = 0; used = 7; activation = 1 }

-- thread 1 runs, reaches its limit twice, with 7 back at once and 7 that become pending, and 3 of an entry come back; a quantum of
-- thread 2 ends
abbrev log : Log
log =
    happens 1 (ran 7 1)
    ∷ happens 1 limit
    ∷ happens 1 (effect 50 40 (back_at_once worker server))
    ∷ happens 2 quantum
    ∷ happens 1 limit
    ∷ happens 1 (effect 60 40 (pending_later worker server))
    ∷ happens 1 (effect 70 40 (first_back worker 3 server))
    ∷ []

log-row : take 16 (numbers (tallied log)) ≡ 0 ∷ 0 ∷ 0 ∷ 0 ∷ 2 ∷ 0 ∷ 2 ∷ 10 ∷ 0 ∷ 1 ∷ 0 ∷ 0 ∷ 0 ∷ 0 ∷ 0 ∷ 0 ∷ []
unfolding numbers_below
log-row = refl

-- and nothing is told of the others
others-row : drop 16 (numbers (tallied log)) ≡ replicate 112 0
unfolding numbers_below
others-row = refl

more-row : more_of 1 (tally 5 6 7 8) (numbers (tallied log)) ≡ 0 ∷ 0 ∷ 0 ∷ 0 ∷ 7 ∷ 6 ∷ 9 ∷ 18 ∷ 0 ∷ 1 ∷ replicate 118 0
unfolding numbers_below
more-row = refl

-- The budget seen from the history of one thread (02 E6): which ticks an amount that comes back was run in, and under which activation
-- time. A ledger is kept over the steps alone, and knows nothing of the account: each tick is entered where it is run, with the
-- activation time of that moment; scheduling moves all that is charged into one entry, or back at once.
use Rattle.std.specs.Prelude.{ℕ, ◌+◌, ◌≤◌, Bool, cond, ◌≡◌, List, [], ◌∷◌, ◌++◌, leb, eqb}
use Rattle.sporadic.specs.declared.Effect.{Effect}
use Rattle.reports.specs.Steps.{Step}
use Rattle.reports.specs.Steps.Step.{ran, quantum, limit, effect}

-- ---- the two sums

-- 02 E6 1: ticks run at the upper priority, and amounts returned
abbrev pub ran_in : Step → ℕ
ran_in (ran k a) = k
ran_in quantum = 0
ran_in limit = 0
ran_in (effect now period e) = 0

abbrev pub back_in : Step → ℕ
back_in (ran k a) = 0
back_in quantum = 0
back_in limit = 0
back_in (effect now period e) = e.back

abbrev pub sum_of : (Step → ℕ) → List Step → ℕ
sum_of f [] = 0
sum_of f (x ∷ xs) = f x + sum_of f xs

-- ---- the ledger

-- ticks run under one activation time
pub record Run : Type 0 where
  pub ticks : ℕ
  pub activation : ℕ

abbrev pub ticks_of : List Run → ℕ
ticks_of [] = 0
ticks_of (r ∷ rs) = r.ticks + ticks_of rs

-- a pending entry: what it was run in, and the period in force when it was scheduled (02 E7 8)
pub record Entry : Type 0 where
  pub due : ℕ
  pub period : ℕ
  pub runs : List Run

-- an amount that came back, when, and what it was run in
pub record Return : Type 0 where
  pub amount : ℕ
  pub time : ℕ
  pub period : ℕ
  pub runs : List Run

-- what is charged and not yet scheduled; what is pending, in due order; what came back
pub record Ledger : Type 0 where
  pub charged : List Run
  pub pending : List Entry
  pub returns : List Return

abbrev pub ledger : List Run → List Entry → List Return → Ledger
ledger c p r = record { charged = c; pending = p; returns = r }

abbrev pub empty : Ledger
empty = ledger [] [] []

-- 02 E7 3: an entry in due order, after those of equal due
abbrev pub precedes : Entry → Entry → Bool
precedes y x = leb y.due x.due

abbrev pub filed : Entry → List Entry → List Entry
filed x [] = x ∷ []
filed x (y ∷ ys) = cond (precedes y x) (y ∷ filed x ys) (x ∷ y ∷ ys)

-- so much came back at a time, which was run in these
abbrev pub return_of : ℕ → ℕ → ℕ → List Run → List Return
return_of amount time period runs = record { amount = amount; time = time; period = period; runs = runs } ∷ []

-- the first pending entry comes back, with an amount that the account names
abbrev pub first_return : ℕ → ℕ → List Entry → List Return
first_return amount time [] = return_of amount time 0 []
first_return amount time (x ∷ xs) = return_of amount time x.period x.runs

abbrev pub after_first : List Entry → List Entry
after_first [] = []
after_first (x ∷ xs) = xs

-- the first entry comes back
abbrev pub with_first_back : ℕ → ℕ → Ledger → Ledger
with_first_back amount time l = ledger l.charged (after_first l.pending) (l.returns ++ first_return amount time l.pending)

-- all that is charged becomes an entry, with the period in force (02 E7 8)
abbrev pub entry_of : ℕ → ℕ → List Run → Entry
entry_of due period runs = record { due = due; period = period; runs = runs }

abbrev pub with_entry : ℕ → ℕ → Ledger → Ledger
with_entry due period l = ledger [] (filed (entry_of due period l.charged) l.pending) l.returns

-- all that is charged comes back at once
abbrev pub with_charged_back : ℕ → ℕ → ℕ → Ledger → Ledger
with_charged_back amount time period l = ledger [] l.pending (l.returns ++ return_of amount time period l.charged)

-- what a rule does, by its Effect
abbrev pub enter_effect : ℕ → ℕ → Effect → Ledger → Ledger
enter_effect now period e l =
    cond e.first (with_first_back e.back now l)
    (cond (eqb e.back 0) (cond (eqb e.amount 0) l (with_entry e.due period l)) (with_charged_back e.back now period l))

abbrev pub enter : Ledger → Step → Ledger
enter l (ran k a) = ledger (l.charged ++ record { ticks = k; activation = a } ∷ []) l.pending l.returns
enter l quantum = l
enter l limit = l
enter l (effect now period e) = enter_effect now period e l

abbrev pub entered : Ledger → List Step → Ledger
entered l [] = l
entered l (x ∷ xs) = entered (enter l x) xs

-- ---- what holds of what came back

-- every tick was run under an activation time at least a period before the time
abbrev pub RunBefore : ℕ → ℕ → List Run → Type 0
RunBefore period time [] = Unit {0}
RunBefore period time (r ∷ rs) = (r.activation + period ≤ time) × RunBefore period time rs

-- 02 E6 2: each amount is made of ticks that were run, and comes back no earlier than a period after the activation time under which
-- they were run
abbrev pub Late : List Return → Type 0
Late [] = Unit {0}
Late (x ∷ xs) = (ticks_of x.runs ≡ x.amount) × RunBefore x.period x.time x.runs × Late xs

abbrev pub amounts_of : List Return → ℕ
amounts_of [] = 0
amounts_of (x ∷ xs) = x.amount + amounts_of xs

-- ticks run under the activation time x: of runs, of entries, of returns, and of steps
abbrev pub ticks_under : ℕ → List Run → ℕ
ticks_under x [] = 0
ticks_under x (r ∷ rs) = cond (eqb r.activation x) r.ticks 0 + ticks_under x rs

abbrev pub pending_under : ℕ → List Entry → ℕ
pending_under x [] = 0
pending_under x (y ∷ ys) = ticks_under x y.runs + pending_under x ys

abbrev pub returned_under : ℕ → List Return → ℕ
returned_under x [] = 0
returned_under x (y ∷ ys) = ticks_under x y.runs + returned_under x ys

abbrev pub ran_under : ℕ → Step → ℕ
ran_under x (ran k a) = cond (eqb a x) k 0
ran_under x quantum = 0
ran_under x limit = 0
ran_under x (effect now period e) = 0

-- of any steps: the ledger has every amount that came back, and of the ticks that were run under an activation time each stands in it once
pub record Complete (steps : List Step) : Type 0 where
  pub all : amounts_of (entered empty steps).returns ≡ sum_of back_in steps
  pub once : (x : ℕ) → ticks_under x (entered empty steps).charged + pending_under x (entered empty steps).pending + returned_under x (entered empty steps).returns
      ≡ sum_of (ran_under x) steps

abbrev pub LedgerComplete : Type 0
LedgerComplete = (steps : List Step) → Complete steps

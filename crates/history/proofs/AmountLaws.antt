-- The numbers that the events tell are those of the history (02 E6 3).
use Prim.Native.Nat.{ℕ, ◌+◌}
use mathlib.Core.Bool.{Bool, true, false, cond}
use mathlib.Core.Path.{◌≡◌, refl, ap, ◌∙◌}
use mathlib.Core.List.{List, [], ◌∷◌}
use lib.Dec.{eqb}
use native.Mathlib.Omega.{arith}
use Rattle.base.proofs.TestLaws.{cond-elim}
use Rattle.records.specs.declared.Event.{Event}
use Rattle.records.proofs.PolicyLaws.{policy-elim}
use Rattle.passing.specs.Reports.{reports, total}
use Rattle.passing.proofs.ReportLaws.{all_read}
use Rattle.reports.specs.Steps.{Step, Log, steps_of}
use Rattle.reports.specs.Steps.Step.{ran, quantum, limit, effect}
use Rattle.reports.specs.Tallies.{Tally, nothing, plus, tally_of, no_tallies, tallied}
use Rattle.reports.proofs.TallyLaws.{tallied-append}
use Rattle.ledger.specs.Ledger.{back_in, sum_of}
use Rattle.thread.specs.declared.Thread.{Thread}
use Rattle.state.specs.declared.State.{State}
use Rattle.state.specs.State.{thread_at}
use Rattle.ticks.specs.Running.{head, idles}
use Rattle.moments.specs.Reports.{tallies}
use Rattle.events.specs.Answers.{executive}
use Rattle.events.specs.Reports.{own_log, own_tallies}
use Rattle.history.specs.History.{ran_log, charge_log, logs, history, AmountsAreReturns}

-- ticks alone are not told
ran-told : (i k a : ℕ) → tallied (record { thread = i; step = ran k a } ∷ []) ≡ no_tallies
ran-told i k a = λ x j. go (eqb i j) x
  where
    go : (b : Bool) → plus (cond b nothing nothing) nothing ≡ nothing
    go true = refl
    go false = refl

level-told : (k p i : ℕ) (t : Thread) → tallied (ran_log k p i t) ≡ no_tallies
level-told k p i t =
    let P : Log → Type 0 = λ xs. tallied xs ≡ no_tallies in
    policy-elim P t.parameters.policy _ _ _ (λ c. refl) (λ c. refl)
    (λ c. cond-elim P (eqb p t.parameters.priority) _ _ (λ d. ran-told i k t.server.activation) (λ d. refl))

charge-told : (k : ℕ) (s : State) → tallied (charge_log k s) ≡ no_tallies
charge-told k s =
    cond-elim (λ (xs : Log). tallied xs ≡ no_tallies) (idles s) [] _ (λ e. refl) (λ e. level-told k _ (head s) (thread_at s (head s)))

-- what the events tell is read off the history
told-of-history : (s : State) (es : List Event) → total tallies (reports executive tallies own_tallies s es) ≡ tallied (history s es)
told-of-history s es = all_read executive logs tallies tallied refl tallied-append charge-told (λ s. refl) own_log s es

-- the amounts of a log are those of its steps
step-amount : (x : Step) → (tally_of x).amounts ≡ back_in x
step-amount (ran k a) = refl
step-amount quantum = refl
step-amount limit = refl
step-amount (effect now period e) = refl

log-amounts : (i : ℕ) (xs : Log) → (tallied xs i).amounts ≡ sum_of back_in (steps_of i xs)
log-amounts i [] = refl
log-amounts i (x ∷ xs) = go (eqb x.thread i) (log-amounts i xs)
  where
    go : (b : Bool) → (tallied xs i).amounts ≡ sum_of back_in (steps_of i xs)
        → (cond b (tally_of x.step) nothing).amounts + (tallied xs i).amounts ≡ sum_of back_in (cond b (x.step ∷ steps_of i xs) (steps_of i xs))
    go true e = omega (arith, e, step-amount x.step)
    go false e = omega (arith, e)

-- 02 E6 3
pub amounts-are-returns : AmountsAreReturns
amounts-are-returns i s es = ap (λ (f : ℕ → Tally). (f i).amounts) (told-of-history s es) ∙ log-amounts i (history s es)

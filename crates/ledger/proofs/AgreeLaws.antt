-- What was run and what came back agree with the account, over the rules (02 E6).
use Prim.Native.Nat.{ℕ, ◌+◌, ◌-◌, ◌≤◌, ◌<◌}
use mathlib.Core.Bool.{Bool, true, false}
use mathlib.Core.Path.{◌≡◌, refl}
use mathlib.Core.List.{List, [], ◌∷◌, ◌++◌}
use lib.ListN.{get_or}
use native.Mathlib.Omega.{arith}
use borrow.Author.Tests.{eq-eqb}
use Rattle.base.proofs.TestLaws.{tests, cond-elim}
use Rattle.records.specs.declared.Parameters.{Parameters}
use Rattle.sporadic.specs.declared.Effect.{Effect}
use Rattle.sporadic.specs.declared.Place.{Place}
use Rattle.sporadic.specs.declared.Place.TheVariants.{LowThenUpper, Upper}
use Rattle.sporadic.specs.Rules.{due_of, at_upper, charged, activated, unchanged, pending_later, back_at_once, scheduled, sent, limit_effect, block_effect, wake_effect, first_back}
use Rattle.sporadic.proofs.EffectLaws.{schedule-elim, at-limit-elim, return-elim}
use Rattle.account.specs.declared.Account.{Account}
use Rattle.account.specs.Account.{fresh_account}
use Rattle.account.specs.Rules.{applied, first_is_due, return_first}
use Rattle.account.proofs.ReturnLaws.{due-some}
use Rattle.account_laws.proofs.SoundLaws.{AccountSound, made}
use Rattle.reports.specs.Steps.{Step}
use Rattle.reports.specs.Steps.Step.{ran, limit, effect}
use Rattle.ledger.specs.Ledger.{ran_in, back_in, sum_of, Ledger, empty, enter, enter_effect, entered}
use Rattle.ledger.proofs.StepRules.{Property, StepRules, CarryRule}
use Rattle.ledger.proofs.LedgerLaws.{Matches, charge-matches, activate-matches, carry-matches, once-matches, later-matches, first_matches, first-flow}

pub record Agrees (p : Parameters) (a : Account) (xs : List Step) : Type 0 where
  pub matches : Matches a (entered empty xs)
  pub flow : sum_of ran_in xs + a.server.capacity ≡ p.budget + sum_of back_in xs

entered-more : (l : Ledger) (xs ys : List Step) → entered l (xs ++ ys) ≡ entered (entered l xs) ys
entered-more l [] ys = refl
entered-more l (x ∷ xs) ys = entered-more (enter l x) xs ys

pub sum_more : (f : Step → ℕ) (xs ys : List Step) → sum_of f (xs ++ ys) ≡ sum_of f xs + sum_of f ys
sum_more f [] ys = omega arith
sum_more f (x ∷ xs) ys = omega (arith, sum_more f xs ys)

-- an account as its opening or a set leaves it
pub fresh-agrees : (now : ℕ) (p : Parameters) → Agrees p (fresh_account now p) []
fresh-agrees now p = record { matches = record { used = refl; under = tt; times = refl; sums = refl; kept = tt; late = tt }; flow = omega arith }

module _ (p : Parameters) (a : Account) (xs : List Step) (h : Agrees p a xs) where
  -- further steps, which match another account and move as much as its capacity changed
  more : (b : Account) (ys : List Step) → Matches b (entered (entered empty xs) ys)
      → sum_of ran_in ys + b.server.capacity ≡ a.server.capacity + sum_of back_in ys → Agrees p b (xs ++ ys)
  more b ys m f =
      record {
        matches = rw (entered-more empty xs ys) m;
        flow = omega (arith, h.flow, f, sum_more ran_in xs ys, sum_more back_in xs ys);
      }

  charge-agrees : (k : ℕ) → k ≤ a.server.capacity → Agrees p (made (charged k a.server) a.pending) (xs ++ ran k a.server.activation ∷ [])
  charge-agrees k l = more _ _ (charge-matches k a (entered empty xs) h.matches) (omega arith)

  -- a rule's Effect, after steps that enter nothing (none, or the limit)
  module _ (start now lo : ℕ) (up : Bool) (s : AccountSound start now lo up p a) where
    abbrev After : Effect → Type 0
    After e = Matches (applied e a) (enter_effect now p.period e (entered empty xs)) × ((applied e a).server.capacity ≡ a.server.capacity + e.back)

    -- what is charged is charged at the upper priority
    is_up : 0 < a.server.used → AccountSound start now lo true p a
    is_up u = go up s
      where
        go : (x : Bool) → AccountSound start now lo x p a → AccountSound start now lo true p a
        go true s = s
        go false s = absurd (omega (tests, s.numbers))

    once_after : 0 < a.server.used → due_of p a.server ≤ now → After (back_at_once p a.server)
    once_after u d = (once-matches start now lo p a (entered empty xs) h.matches u d, omega (tests, s.sums.0))

    later-after : (up ≡ true → a.pending.count < p.max_repl) → p.max_repl ≤ 8 → 0 < a.server.used → After (pending_later p a.server)
    later-after c c8 u = (go up s c, omega arith)
      where
        go : (x : Bool) → AccountSound start now lo x p a → (x ≡ true → a.pending.count < p.max_repl)
            → Matches (applied (pending_later p a.server) a) (enter_effect now p.period (pending_later p a.server) (entered empty xs))
        go true s c = later-matches start now lo p a (entered empty xs) h.matches s (c refl) c8 u
        go false s c = absurd (omega (tests, s.numbers))

    -- where the activation time becomes now besides
    activated-after : (x : Place) (e : Effect) → After e → e.server.activation ≤ now → After (sent x (activated now e.server) e)
    activated-after x e m l = (activate-matches now (applied e a) (enter_effect now p.period e (entered empty xs)) l m.0, m.1)

    none_after : After (unchanged a.server)
    none_after = (record { used = h.matches.used; under = h.matches.under; times = h.matches.times; sums = h.matches.sums; kept = h.matches.kept; late = h.matches.late }, omega arith)

    -- scheduling U, and the limit, which schedules it
    scheduled-after : (up ≡ true → a.pending.count < p.max_repl) → p.max_repl ≤ 8 → After (scheduled now p a.server)
    scheduled-after c c8 = schedule-elim now p a.server After (λ u. none_after) (λ u d. once_after u d) (λ u d. later-after c c8 u)

    limit-after : (up ≡ true → a.pending.count < p.max_repl) → p.max_repl ≤ 8 → a.server.capacity ≡ 0 → After (limit_effect now false p a.server)
    unfolding limit_effect
    limit-after c c8 z =
        rw (eq-eqb a.server.capacity 0 z)
        (at-limit-elim now p a.server After (λ u. none_after)
        (λ u d. activated-after LowThenUpper (back_at_once p a.server) (once_after u d) (omega (tests, s.numbers)))
        (λ u d. later-after c c8 u))

    return-after : first_is_due now a.pending ≡ true → (b : Bool) → After (return_first now b p a)
    return-after e b =
        return-elim now p a.server b a.pending.count (get_or a.pending.amounts 0 0) After (λ z. absurd (omega (arith, due-some now a.pending e)))
        (λ c u. first) (λ c w u. activated-after Upper (first_back p (get_or a.pending.amounts 0 0) a.server) first (omega (tests, s.numbers)))
      where
        first : After (first_back p (get_or a.pending.amounts 0 0) a.server)
        first = (first_matches start now lo up p a s e (entered empty xs) h.matches, first-flow start now lo up p a s e)

    effect-agrees : (e : Effect) → After e → Agrees p (applied e a) (xs ++ effect now p.period e ∷ [])
    effect-agrees e m = more (applied e a) (effect now p.period e ∷ []) m.0 (omega (arith, m.1))

    limit_agrees : (e : Effect) → After e → Agrees p (applied e a) (xs ++ limit ∷ effect now p.period e ∷ [])
    limit_agrees e m = more (applied e a) (limit ∷ effect now p.period e ∷ []) m.0 (omega (arith, m.1))

  wake-agrees : (now : ℕ) → a.server.activation ≤ now → Agrees p (applied (wake_effect now true p a.pending.count a.server) a) xs
  wake-agrees now l =
      cond-elim (λ (e : Effect). Agrees p (applied e a) xs) (at_upper p a.server.capacity a.pending.count) _ _
      (λ e. record { matches = activate-matches now a (entered empty xs) l h.matches; flow = h.flow })
      (λ e. record { matches = h.matches; flow = h.flow })

abbrev pub Agreed : Property
Agreed now b p a xs = Agrees p a xs

pub agree-rules : StepRules Agreed
agree-rules =
    record {
      passes = λ now k b p a xs h. h;
      charges = λ start now lo k p a xs h s u l. charge-agrees p a xs h k l;
      limits = λ start now lo p a xs h s c c8 z. limit_agrees p a xs h start now lo true s (limit_effect now false p a.server) (limit-after p a xs h start now lo true s (λ e. c) c8 z);
      returns = λ start now lo up b p a xs h s e. effect-agrees p a xs h start now lo up s (return_first now b p a) (return-after p a xs h start now lo up s e b);
      blocks = λ start now lo up p a xs h s c c8. effect-agrees p a xs h start now lo up s (block_effect now false p a.server) (scheduled-after p a xs h start now lo up s c c8);
      wakes = λ now p a xs h l. wake-agrees p a xs h now l;
    }

-- 02 E7 2: the budget and the capacity change by as much
pub agree-carried : CarryRule Agreed
agree-carried now b old new a s xs h c u l = record { matches = carry-matches a s (entered empty xs) u l h.matches; flow = omega (arith, h.flow, c) }

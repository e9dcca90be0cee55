-- The ledger agrees with the account, Effect by Effect.
use Prim.Native.Nat.{ℕ, zero, suc, ◌+◌, ◌-◌, ◌≤◌, ◌<◌, min}
use mathlib.Core.Bool.{Bool, true, false, ◌&&◌}
use mathlib.Core.Path.{◌≡◌, refl, sym, ap, ◌∙◌}
use mathlib.Core.List.{List, [], ◌∷◌, ◌++◌}
use lib.ListN.{length, take, get_or}
use lib.Seq.{take-append-le}
use lib.Dec.{ltb, leb}
use native.Mathlib.Omega.{arith}
use borrow.Author.Tests.{ne_eqb, leb-true}
use Rattle.base.proofs.TestLaws.{tests, cond-elim, false-true}
use Rattle.records.specs.declared.Parameters.{Parameters}
use Rattle.sporadic.specs.declared.Server.{Server}
use Rattle.sporadic.specs.Rules.{charged, due_of, activated, replenished, pending_later, back_at_once, first_back}
use Rattle.account.specs.declared.Account.{Account}
use Rattle.account.specs.Account.{pending_dues, pending_amounts}
use Rattle.account.specs.Rules.{without_first, applied, first_is_due}
use Rattle.account.specs.Sound.{sum, last_due}
use Rattle.account.proofs.ReturnLaws.{due-some}
use Rattle.account_laws.proofs.SoundLaws.{AccountSound, made}
use Rattle.reports.specs.Steps.Step.{ran}
use Rattle.ledger.specs.Ledger.{Run, Entry, Return, Ledger, precedes, filed, entry_of, enter_effect, enter, ticks_of, RunBefore, Late}
use Rattle.ledger.proofs.CompleteLaws.{ticks-more}
use Rattle.ledger.proofs.FiledLaws.{due_list, amount_list, filed-slots}

-- ---- lists

-- every run was under an activation time of at most a
abbrev pub Under : ℕ → List Run → Type 0
Under a [] = Unit {0}
Under a (r ∷ rs) = (r.activation ≤ a) × Under a rs

under-later : (a b : ℕ) (rs : List Run) → a ≤ b → Under a rs → Under b rs
under-later a b [] l u = tt
under-later a b (r ∷ rs) l u = (omega (arith, u.0), under-later a b rs l u.1)

under_more : (a : ℕ) (rs : List Run) (r : Run) → Under a rs → r.activation ≤ a → Under a (rs ++ r ∷ [])
under_more a [] r u l = (l, tt)
under_more a (x ∷ rs) r u l = (u.0, under_more a rs r u.1 l)

under-before : (a p e : ℕ) (rs : List Run) → a + p ≤ e → Under a rs → RunBefore p e rs
under-before a p e [] l u = tt
under-before a p e (r ∷ rs) l u = (omega (arith, u.0), under-before a p e rs l u.1)

before-later : (p d e : ℕ) (rs : List Run) → d ≤ e → RunBefore p d rs → RunBefore p e rs
before-later p d e [] l h = tt
before-later p d e (r ∷ rs) l h = (omega (arith, h.0), before-later p d e rs l h.1)

late-more : (xs : List Return) (x : Return) → Late xs → ticks_of x.runs ≡ x.amount → RunBefore x.period x.time x.runs → Late (xs ++ x ∷ [])
late-more [] x h e r = (e, r, tt)
late-more (y ∷ ys) x h e r = (h.0, h.1, late-more ys x h.2 e r)

-- the runs of each pending entry were under activation times at least a period before its due time
abbrev pub Kept : List Entry → Type 0
Kept [] = Unit {0}
Kept (x ∷ xs) = RunBefore x.period x.due x.runs × Kept xs

kept-filed : (x : Entry) (xs : List Entry) → RunBefore x.period x.due x.runs → Kept xs → Kept (filed x xs)
kept-filed x [] r h = (r, tt)
kept-filed x (y ∷ ys) r h = cond-elim Kept (precedes y x) (y ∷ filed x ys) (x ∷ y ∷ ys) (λ e. (h.0, kept-filed x ys r h.1)) (λ e. (r, h))

-- ---- what agrees

pub record Matches (a : Account) (l : Ledger) : Type 0 where
  pub used : ticks_of l.charged ≡ a.server.used
  pub under : Under a.server.activation l.charged
  pub times : due_list l.pending ≡ pending_dues a.pending
  pub sums : amount_list l.pending ≡ pending_amounts a.pending
  pub kept : Kept l.pending
  pub late : Late l.returns

-- ticks at the upper priority
pub charge-matches : (k : ℕ) (a : Account) (l : Ledger) → Matches a l → Matches (made (charged k a.server) a.pending) (enter l (ran k a.server.activation))
charge-matches k a l m =
    record {
      used = ticks-more l.charged (record { ticks = k; activation = a.server.activation }) ∙ ap (λ (n : ℕ). n + k) m.used;
      under = under_more a.server.activation l.charged (record { ticks = k; activation = a.server.activation }) m.under (omega arith);
      times = m.times;
      sums = m.sums;
      kept = m.kept;
      late = m.late;
    }

-- the activation time becomes now, which is no earlier
pub activate-matches : (now : ℕ) (a : Account) (l : Ledger) → a.server.activation ≤ now → Matches a l → Matches (made (activated now a.server) a.pending) l
activate-matches now a l h m =
    record {
      used = m.used;
      under = under-later a.server.activation now l.charged h m.under;
      times = m.times;
      sums = m.sums;
      kept = m.kept;
      late = m.late;
    }

-- a server that is carried over: U stays, and the activation time doesn't fall
pub carry-matches : (a : Account) (s : Server) (l : Ledger) → s.used ≡ a.server.used → a.server.activation ≤ s.activation → Matches a l → Matches (made s a.pending) l
carry-matches a s l u h m =
    record {
      used = m.used ∙ sym u;
      under = under-later a.server.activation s.activation l.charged h m.under;
      times = m.times;
      sums = m.sums;
      kept = m.kept;
      late = m.late;
    }

module _ (start now lo : ℕ) (p : Parameters) (a : Account) (l : Ledger) (m : Matches a l) where
  -- U comes back at once
  pub once-matches : 0 < a.server.used → due_of p a.server ≤ now → Matches (applied (back_at_once p a.server) a) (enter_effect now p.period (back_at_once p a.server) l)
  once-matches u d =
      rw (ne_eqb a.server.used 0 (λ z. omega arith))
      (record {
        used = refl;
        under = tt;
        times = m.times;
        sums = m.sums;
        kept = m.kept;
        late = late-more l.returns _ m.late m.used (under-before a.server.activation p.period now l.charged d m.under);
      })

  -- U becomes pending
  pub later-matches : AccountSound start now lo true p a → a.pending.count < p.max_repl → p.max_repl ≤ 8 → 0 < a.server.used
      → Matches (applied (pending_later p a.server) a) (enter_effect now p.period (pending_later p a.server) l)
  later-matches h c c8 u =
      let t = due_of p a.server in
      let n = a.pending.count in
      let e = entry_of t p.period l.charged in
      let ld : n < length a.pending.dues = omega (tests, h.due_slots.0) in
      let lx : n < length a.pending.amounts = omega (tests, h.amount_slots.0) in
      rw (ne_eqb a.server.used 0 (λ z. omega arith))
      (record {
        used = refl;
        under = tt;
        times = filed-slots e l.pending (lo + 1) (last_due now) n a.pending.dues ld m.times h.times (λ (x : Entry). x.due) t a.pending.dues ld m.times refl;
        sums =
            filed-slots e l.pending (lo + 1) (last_due now) n a.pending.dues ld m.times h.times (λ (x : Entry). ticks_of x.runs) a.server.used
            a.pending.amounts lx m.sums m.used;
        kept = kept-filed e l.pending (under-before a.server.activation e.period t l.charged (omega arith) m.under) m.kept;
        late = m.late;
      })

-- ---- the first entry comes back

pub pop : (n : ℕ) (xs : List ℕ) → suc n ≤ length xs → take (suc n) xs ≡ get_or xs 0 0 ∷ take n (without_first xs)
pop n [] l = absurd (omega arith)
pop n (x ∷ xs) l = ap (λ (ys : List ℕ). x ∷ ys) (sym (take-append-le n xs (0 ∷ []) (omega arith)))

sum_first : (x : ℕ) (xs ys : List ℕ) → ys ≡ x ∷ xs → sum ys ≡ x + sum xs
sum_first x xs ys e = ap sum e

module _ (start now lo : ℕ) (up : Bool) (p : Parameters) (a : Account) (h : AccountSound start now lo up p a) (e : first_is_due now a.pending ≡ true) where
  abbrev amount : ℕ
  amount = get_or a.pending.amounts 0 0

  -- its due time is not after now
  pub first-time : get_or a.pending.dues 0 0 ≤ now
  first-time = leb-true (get_or a.pending.dues 0 0) now (second (ltb 0 a.pending.count) e)
    where
      second : (b : Bool) → (b && leb (get_or a.pending.dues 0 0) now) ≡ true → leb (get_or a.pending.dues 0 0) now ≡ true
      second true q = q
      second false q = false-true q

  pub first_matches : (l : Ledger) → Matches a l → Matches (applied (first_back p amount a.server) a) (enter_effect now p.period (first_back p amount a.server) l)
  first_matches l m = go a.pending.count refl l.pending m.times m.sums m.kept
    where
      go : (n : ℕ) → a.pending.count ≡ n → (xs : List Entry) → due_list xs ≡ pending_dues a.pending → amount_list xs ≡ pending_amounts a.pending → Kept xs
          → Matches (applied (first_back p (get_or a.pending.amounts 0 0) a.server) a)
          (enter_effect now p.period (first_back p (get_or a.pending.amounts 0 0) a.server) (record { charged = l.charged; pending = xs; returns = l.returns }))
      go zero z xs ft fs k = absurd (omega (arith, due-some now a.pending e))
      go (suc n) z xs ft fs k =
          by xs (ft ∙ ap (λ (c : ℕ). take c a.pending.dues) z ∙ pop n a.pending.dues (omega (tests, h.numbers, h.due_slots.0)))
          (fs ∙ ap (λ (c : ℕ). take c a.pending.amounts) z ∙ pop n a.pending.amounts (omega (tests, h.numbers, h.amount_slots.0))) k
        where
          c : a.pending.count - 1 ≡ n
          c = omega arith

          by : (xs : List Entry) → due_list xs ≡ get_or a.pending.dues 0 0 ∷ take n (without_first a.pending.dues)
              → amount_list xs ≡ get_or a.pending.amounts 0 0 ∷ take n (without_first a.pending.amounts) → Kept xs
              → Matches (applied (first_back p (get_or a.pending.amounts 0 0) a.server) a)
              (enter_effect now p.period (first_back p (get_or a.pending.amounts 0 0) a.server) (record { charged = l.charged; pending = xs; returns = l.returns }))
          by [] ft fs k = let z : ◌≡◌ {A = ℕ} 0 1 = cc in absurd (omega arith)
          by (y ∷ ys) ft fs k =
              let d : y.due ≡ get_or a.pending.dues 0 0 = cc in
              let x : ticks_of y.runs ≡ get_or a.pending.amounts 0 0 = cc in
              let ds : due_list ys ≡ take n (without_first a.pending.dues) = cc in
              let xs : amount_list ys ≡ take n (without_first a.pending.amounts) = cc in
              record {
                used = m.used;
                under = m.under;
                times = ds ∙ ap (λ (c : ℕ). take c (without_first a.pending.dues)) (sym c);
                sums = xs ∙ ap (λ (c : ℕ). take c (without_first a.pending.amounts)) (sym c);
                kept = k.1;
                late = late-more l.returns _ m.late x (before-later y.period y.due now y.runs (omega (arith, d, first-time)) k.0);
              }

  -- and its amount is added to the capacity
  pub first-flow : (replenished amount p a.server).capacity ≡ a.server.capacity + amount
  first-flow = go a.pending.count refl
    where
      go : (n : ℕ) → a.pending.count ≡ n → min (a.server.capacity + get_or a.pending.amounts 0 0) p.budget ≡ a.server.capacity + get_or a.pending.amounts 0 0
      go zero z = absurd (omega (arith, due-some now a.pending e))
      go (suc n) z =
          let s = sum_first (get_or a.pending.amounts 0 0) (take n (without_first a.pending.amounts)) (pending_amounts a.pending)
          (ap (λ (c : ℕ). take c a.pending.amounts) z ∙ pop n a.pending.amounts (omega (tests, h.numbers, h.amount_slots.0))) in
          omega (tests, h.sums.0, s)

-- In n stretches of a period and a budget a sporadic thread runs at most 2 * n budgets at its upper priority, over the rules.
use Prim.Native.Nat.{ℕ, zero, suc, ◌+◌, ◌-◌, ◌*◌, ◌≤◌, ◌<◌}
use mathlib.Core.Bool.{Bool, true, false, cond}
use mathlib.Core.Path.{◌≡◌, refl, sym, ap, ap₂, ◌∙◌, subst}
use mathlib.Core.List.{List, [], ◌∷◌, ◌++◌, append-nil}
use lib.ListN.{length, take, drop, get_or}
use lib.Seq.{length-take-le}
use lib.Dec.{ltb, leb}
use native.Mathlib.Nat.{mul-le-mul_right}
use native.Mathlib.Omega.{arith}
use borrow.Author.Tests.{leb-true, leb-false, lt-ltb, le-ltb, ltb-true, ltb-false, eq-eqb, ne_eqb}
use Rattle.base.proofs.TestLaws.{tests, cond-elim, false-true}
use Rattle.records.specs.declared.Parameters.{Parameters}
use Rattle.sporadic.specs.declared.Effect.{Effect}
use Rattle.sporadic.specs.Rules.{due_of, cleared, charged, activated, at_upper, pending_later, back_at_once, scheduled, limit_effect, wake_effect, first_back}
use Rattle.sporadic.proofs.EffectLaws.{schedule-elim, at-limit-elim, return-elim}
use Rattle.entries.proofs.InsertLaws.{slot-for, parts, inserted-part}
use Rattle.account.specs.declared.Account.{Account}
use Rattle.account.specs.Account.{pending_dues, pending_amounts, is_upper}
use Rattle.account.specs.Rules.{without_first, slot_for, applied, first_is_due, return_first}
use Rattle.account.specs.Sound.{sum}
use Rattle.account.proofs.EntryLaws.{with_entry}
use Rattle.account.proofs.ReturnLaws.{due-some}
use Rattle.account_laws.proofs.OrderLaws.{sum-among}
use Rattle.account_laws.proofs.SoundLaws.{AccountSound, made, upper-room}
use Rattle.reports.specs.Steps.{Step}
use Rattle.reports.specs.Steps.Step.{ran}
use Rattle.ledger.specs.Ledger.{ran_in, sum_of}
use Rattle.ledger.specs.Bound.{stretch}
use Rattle.ledger.proofs.StepRules.{Property, StepRules}
use Rattle.ledger.proofs.LedgerLaws.{pop, first-time}
use Rattle.ledger.proofs.AgreeLaws.{sum_more}

-- ---- what comes back before a time

-- of the amounts x with these dues, the sum of those that are due before the end
abbrev before : ℕ → List ℕ → List ℕ → ℕ
before end [] xs = 0
before end (d ∷ ds) [] = 0
before end (d ∷ ds) (x ∷ xs) = cond (ltb d end) x 0 + before end ds xs

before-sum : (end : ℕ) (ds xs : List ℕ) → before end ds xs ≤ sum xs
before-sum end [] xs = omega arith
before-sum end (d ∷ ds) [] = omega arith
before-sum end (d ∷ ds) (x ∷ xs) = go (ltb d end) (before-sum end ds xs)
  where
    go : (b : Bool) → before end ds xs ≤ sum xs → cond b x 0 + before end ds xs ≤ x + sum xs
    go true l = omega arith
    go false l = omega arith

-- one more among them, that is due at the end or later
before-among : (end : ℕ) (ds xs es ys : List ℕ) (d x : ℕ) → length ds ≡ length xs → end ≤ d → before end (ds ++ d ∷ es) (xs ++ x ∷ ys) ≡ before end (ds ++ es) (xs ++ ys)
before-among end [] [] es ys d x e l = rw (le-ltb d end l) (omega arith)
before-among end [] (y ∷ xs) es ys d x e l = absurd (omega (arith, e))
before-among end (c ∷ ds) [] es ys d x e l = absurd (omega (arith, e))
before-among end (c ∷ ds) (y ∷ xs) es ys d x e l = ap (λ (n : ℕ). cond (ltb c end) y 0 + n) (before-among end ds xs es ys d x (omega (arith, e)) l)

-- the first, that is due before the end
before-first : (end : ℕ) (ds xs : List ℕ) (d x : ℕ) → d < end → before end (d ∷ ds) (x ∷ xs) ≡ x + before end ds xs
before-first end ds xs d x l = rw (lt-ltb d end l) refl

-- ---- the two phases of a stretch that begins at `from`; x ticks were run in it up to now

-- From the first time that U is scheduled, the mark: ticks run since are under activation times no earlier than it, so what they are
-- charged to isn't back before a period after it. By then x is at most a budget more than it was; from there on a tick takes a tick.
pub record Second (from now : ℕ) (b : Bool) (p : Parameters) (a : Account) (x : ℕ) : Type 0 where
  pub mark : ℕ
  pub sofar : ℕ
  pub early : from + sofar ≤ mark
  pub few : sofar ≤ p.budget
  pub marked : mark ≤ now
  pub within : now < mark + p.period → x + (a.server.capacity + before (mark + p.period) (pending_dues a.pending) (pending_amounts a.pending)) ≤ sofar + p.budget
  pub slow : x ≤ sofar + p.budget + (now - (mark + p.period))
  pub used : 0 < a.server.used → mark ≤ a.server.activation
  pub upper : b ≡ false → is_upper p a ≡ true → mark ≤ a.server.activation

pub data Phase (from now : ℕ) (b : Bool) (p : Parameters) (a : Account) (x : ℕ) : Type 0 where
  -- what was run is all in U
  first : x ≤ a.server.used → Phase from now b p a x
  second : Second from now b p a x → Phase from now b p a x

-- the second phase of another account, with what changes
module _ (from now : ℕ) (b c : Bool) (p : Parameters) (a d : Account) (x : ℕ) where
  kept : (r : Second from now b p a x)
      → (now < r.mark + p.period → d.server.capacity + before (r.mark + p.period) (pending_dues d.pending) (pending_amounts d.pending) ≤ a.server.capacity + before (r.mark + p.period) (pending_dues a.pending) (pending_amounts a.pending))
      → (0 < d.server.used → r.mark ≤ d.server.activation) → (c ≡ false → is_upper p d ≡ true → r.mark ≤ d.server.activation) → Phase from now c p d x
  kept r f u v =
      second (record {
        mark = r.mark;
        sofar = r.sofar;
        early = r.early;
        few = r.few;
        marked = r.marked;
        within = λ n. omega (arith, r.within n, f n);
        slow = r.slow;
        used = u;
        upper = v;
      })

module _ (from : ℕ) (p : Parameters) where
  pass : (now k : ℕ) (b : Bool) (a : Account) (x : ℕ) → Phase from now b p a x → Phase from (now + k) b p a x
  pass now k b a x (first m) = first m
  pass now k b a x (second r) =
      second (record {
        mark = r.mark;
        sofar = r.sofar;
        early = r.early;
        few = r.few;
        marked = omega (arith, r.marked);
        within = λ n. r.within (omega arith);
        slow = omega (arith, r.slow);
        used = r.used;
        upper = r.upper;
      })

  activate : (now : ℕ) (b c : Bool) (a : Account) (x : ℕ) → Phase from now b p a x → Phase from now c p (made (activated now a.server) a.pending) x
  activate now b c a x (first m) = first m
  activate now b c a x (second r) = kept from now b c p a (made (activated now a.server) a.pending) x r (λ n. omega arith) (λ z. r.marked) (λ e u. r.marked)

  -- blocked or not, at its upper priority only where it was
  move : (now : ℕ) (b c : Bool) (a : Account) (x : ℕ) → (c ≡ false → is_upper p a ≡ true → ⊥) → Phase from now b p a x → Phase from now c p a x
  move now b c a x f (first m) = first m
  move now b c a x f (second r) = kept from now b c p a a x r (λ n. omega arith) r.used (λ e u. absurd (f e u))

  charge : (now k : ℕ) (a : Account) (x : ℕ) → is_upper p a ≡ true → k ≤ a.server.capacity → Phase from now false p a x
      → Phase from (now + k) false p (made (charged k a.server) a.pending) (x + k)
  charge now k a x u l (first m) = first (omega arith)
  charge now k a x u l (second r) =
      second (record {
        mark = r.mark;
        sofar = r.sofar;
        early = r.early;
        few = r.few;
        marked = omega (arith, r.marked);
        within = λ n. omega (arith, r.within (omega arith));
        slow = go (ltb now (r.mark + p.period)) refl;
        used = λ z. r.upper refl u;
        upper = λ e v. r.upper refl u;
      })
    where
      go : (c : Bool) → ltb now (r.mark + p.period) ≡ c → x + k ≤ r.sofar + p.budget + (now + k - (r.mark + p.period))
      go true e = omega (arith, r.within (ltb-true now (r.mark + p.period) e))
      go false e = omega (arith, r.slow, ltb-false now (r.mark + p.period) e)

  -- up to a period and a budget after the stretch began
  most-of : (now : ℕ) (b : Bool) (a : Account) (x : ℕ) → a.server.used ≤ p.budget → now ≤ from + stretch p → Phase from now b p a x → x ≤ 2 * p.budget
  most-of now b a x u l (first m) = omega arith
  most-of now b a x u l (second r) = omega (arith, r.slow, r.early, r.few)

  -- U is scheduled
  module _ (start now lo : ℕ) (a : Account) (x : ℕ) (elapsed : from + x ≤ now) where
    begins : (d : Account) → x ≤ p.budget → d.server.capacity + sum (pending_amounts d.pending) ≤ p.budget → d.server.used ≡ 0 → Phase from now true p d x
    begins d f g u =
        second (record {
          mark = now;
          sofar = x;
          early = elapsed;
          few = f;
          marked = omega arith;
          within = λ n. omega (arith, before-sum (now + p.period) (pending_dues d.pending) (pending_amounts d.pending));
          slow = omega arith;
          used = λ z. absurd (omega (arith, u));
          upper = λ e. false-true (sym e);
        })

    once : (b : Bool) → AccountSound start now lo true p a → 0 < a.server.used → due_of p a.server ≤ now → Phase from now b p a x
        → Phase from now true p (applied (back_at_once p a.server) a) x
    once b s u d (first m) = begins (applied (back_at_once p a.server) a) (omega (tests, s.sums.0)) (omega (tests, s.sums.0)) refl
    once b s u d (second r) =
        kept from now b true p a (applied (back_at_once p a.server) a) x r (λ n. absurd (omega (arith, r.used u))) (λ z. absurd (omega arith)) (λ e. false-true (sym e))

    -- the account with U pending, in due order
    abbrev later_account : Account
    later_account = made (cleared a.server) (with_entry (due_of p a.server) a.server.used a.pending)

    later-made : (b : Bool) → AccountSound start now lo true p a → a.pending.count < p.max_repl → p.max_repl ≤ 8 → 0 < a.server.used → Phase from now b p a x
        → Phase from now true p later_account x
    later-made b s c c8 u h = go h
      where
        n : ℕ
        n = a.pending.count

        k : ℕ
        k = slot_for (due_of p a.server) a.pending.count a.pending.dues

        within : k ≤ n
        within = (slot-for (due_of p a.server) a.pending.count a.pending.dues).within

        ld : n < length a.pending.dues
        ld = omega (tests, s.due_slots.0)

        lx : n < length a.pending.amounts
        lx = omega (tests, s.amount_slots.0)

        front : List ℕ → List ℕ
        front ys = take k ys

        rest : List ℕ → List ℕ
        rest ys = take (n - k) (drop k ys)

        -- the dues and the amounts, before and after
        ds : pending_dues a.pending ≡ front a.pending.dues ++ rest a.pending.dues
        ds = parts k n (due_of p a.server) a.pending.dues within ld

        xs : pending_amounts a.pending ≡ front a.pending.amounts ++ rest a.pending.amounts
        xs = parts k n a.server.used a.pending.amounts within lx

        ds-after : pending_dues later_account.pending ≡ front a.pending.dues ++ due_of p a.server ∷ rest a.pending.dues
        ds-after = inserted-part k n (due_of p a.server) a.pending.dues within ld

        xs-after : pending_amounts later_account.pending ≡ front a.pending.amounts ++ a.server.used ∷ rest a.pending.amounts
        xs-after = inserted-part k n a.server.used a.pending.amounts within lx

        lengths : length (front a.pending.dues) ≡ length (front a.pending.amounts)
        lengths = length-take-le k a.pending.dues (omega (arith, within, ld)) ∙ sym (length-take-le k a.pending.amounts (omega (arith, within, lx)))

        go : Phase from now b p a x → Phase from now true p later_account x
        go (first m) =
            begins later_account (omega (tests, s.sums.0))
            (omega (tests, s.sums.0, ap sum xs, ap sum xs-after, sum-among a.server.used (front a.pending.amounts) (rest a.pending.amounts))) refl
        go (second r) =
            kept from now b true p a later_account x r
            (λ y. omega (
              arith,
              ap₂ (before (r.mark + p.period)) ds xs,
              ap₂ (before (r.mark + p.period)) ds-after xs-after,
              before-among (r.mark + p.period) (front a.pending.dues) (front a.pending.amounts) (rest a.pending.dues) (rest a.pending.amounts)
                  (due_of p a.server) a.server.used lengths (omega (arith, r.used u)),
            ))
            (λ z. absurd (omega arith)) (λ e. false-true (sym e))

    later : (b : Bool) → AccountSound start now lo true p a → a.pending.count < p.max_repl → p.max_repl ≤ 8 → 0 < a.server.used → Phase from now b p a x
        → Phase from now true p (applied (pending_later p a.server) a) x
    later b s c c8 u h = rw (ne_eqb a.server.used 0 (λ z. omega arith)) (later-made b s c c8 u h)

    -- what is charged is charged at the upper priority
    is_up : (up : Bool) → AccountSound start now lo up p a → 0 < a.server.used → AccountSound start now lo true p a × (up ≡ true)
    is_up true s u = (s, refl)
    is_up false s u = absurd (omega (tests, s.numbers))

    schedule : (up b : Bool) → AccountSound start now lo up p a → (up ≡ true → a.pending.count < p.max_repl) → p.max_repl ≤ 8 → Phase from now b p a x
        → Phase from now true p (applied (scheduled now p a.server) a) x
    schedule up b s c c8 h =
        schedule-elim now p a.server (λ (e : Effect). Phase from now true p (applied e a) x)
        (λ u. move now b true a x (λ g. false-true (sym g)) h)
        (λ u d. once b (is_up up s u).0 u d h)
        (λ u d. let y = is_up up s u in later b y.0 (c y.1) c8 u h)

    -- the limit: at low, or back at its upper priority with the activation time now
    limited : AccountSound start now lo true p a → a.pending.count < p.max_repl → p.max_repl ≤ 8 → a.server.capacity ≡ 0 → Phase from now false p a x
        → Phase from now false p (applied (limit_effect now false p a.server) a) x
    unfolding limit_effect
    limited s c c8 z h =
        rw (eq-eqb a.server.capacity 0 z)
        (at-limit-elim now p a.server (λ (e : Effect). Phase from now false p (applied e a) x)
        (λ u. h)
        (λ u d. activate now true false (applied (back_at_once p a.server) a) x (once false s u d h))
        (λ u d. move now true false (applied (pending_later p a.server) a) x
        (λ g v. absurd (omega (arith, (upper-room p (applied (pending_later p a.server) a) v).0))) (later false s c c8 u h)))

-- ---- an entry comes back

-- what is in the capacity, or comes back before the end
abbrev ready : ℕ → Account → ℕ
ready end a = a.server.capacity + before end (pending_dues a.pending) (pending_amounts a.pending)

module _ (from start now lo : ℕ) (up : Bool) (p : Parameters) (a : Account) (x : ℕ) (s : AccountSound start now lo up p a) (e : first_is_due now a.pending ≡ true) where
  abbrev back : Effect
  back = first_back p (get_or a.pending.amounts 0 0) a.server

  first-ready : (end : ℕ) → now < end → ready end (applied back a) ≤ ready end a
  first-ready end n = go a.pending.count refl
    where
      go : (c : ℕ) → a.pending.count ≡ c → ready end (applied (first_back p (get_or a.pending.amounts 0 0) a.server) a) ≤ ready end a
      go zero z = absurd (omega (arith, due-some now a.pending e))
      go (suc c) z =
          let d = get_or a.pending.dues 0 0 in
          let y = get_or a.pending.amounts 0 0 in
          let m : a.pending.count - 1 ≡ c = omega arith in
          let ds : pending_dues a.pending ≡ d ∷ take c (without_first a.pending.dues) = ap (λ (k : ℕ). take k a.pending.dues) z ∙ pop c a.pending.dues (omega (tests, s.numbers, s.due_slots.0)) in
          let xs : pending_amounts a.pending ≡ y ∷ take c (without_first a.pending.amounts) = ap (λ (k : ℕ). take k a.pending.amounts) z ∙ pop c a.pending.amounts (omega (tests, s.numbers, s.amount_slots.0)) in
          let f = ap₂ (before end) ds xs ∙ before-first end (take c (without_first a.pending.dues)) (take c (without_first a.pending.amounts)) d y (omega (arith, first-time start now lo up p a s e)) in
          let g = ap (λ (k : ℕ). before end (take k (without_first a.pending.dues)) (take k (without_first a.pending.amounts))) m in
          omega (arith, f, g)

  returned : (b c : Bool) → (c ≡ false → (b ≡ false) × (is_upper p a ≡ true)) → Phase from now b p a x → Phase from now c p (applied back a) x
  returned b c f (first m) = first m
  returned b c f (second r) =
      kept from now b c p a (applied back a) x r (λ n. first-ready (r.mark + p.period) n) r.used (λ g u. let y = f g in r.upper y.0 y.1)

  return : (b : Bool) → Phase from now b p a x → Phase from now b p (applied (return_first now b p a) a) x
  return b h =
      return-elim now p a.server b a.pending.count (get_or a.pending.amounts 0 0) (λ (e : Effect). Phase from now b p (applied e a) x)
      (λ z. h)
      (λ c u. returned b b (λ g. (g, u g)) h)
      (λ c w u. activate from p now true b (applied back a) x (returned b true (λ g. false-true (sym g)) h))

wake-phase : (from now : ℕ) (p : Parameters) (a : Account) (x : ℕ) → Phase from now true p a x
    → Phase from now false p (applied (wake_effect now true p a.pending.count a.server) a) x
wake-phase from now p a x h =
    cond-elim (λ (e : Effect). Phase from now false p (applied e a) x) (at_upper p a.server.capacity a.pending.count) _ _
    (λ e. activate from p now true false a x h)
    (λ e. move from p now true false a x (λ g v. false-true (sym e ∙ v)) h)

-- ---- over the rules

-- Of the parameters q, since the time `from`: the last stretch, from `begin` on, in which x ticks were run; before it lie `whole`
-- others. A new one begins with the first tick that is run after the last has ended.
pub record Bounded (q : Parameters) (from now : ℕ) (b : Bool) (p : Parameters) (a : Account) (xs : List Step) : Type 0 where
  pub whole : ℕ
  pub begin : ℕ
  pub x : ℕ
  pub same : p ≡ q
  pub after : from + whole * stretch p ≤ begin
  pub elapsed : begin + x ≤ now
  pub phase : Phase begin now b p a x
  pub most : x ≤ 2 * p.budget
  pub total : sum_of ran_in xs ≤ whole * (2 * p.budget) + x

-- no more ticks
still : (q : Parameters) (from now then : ℕ) (b c : Bool) (p : Parameters) (a d : Account) (xs ys : List Step) → (h : Bounded q from now b p a xs) → now ≤ then → sum_of ran_in ys ≡ 0
    → Phase h.begin then c p d h.x → Bounded q from then c p d (xs ++ ys)
still q from now then b c p a d xs ys h l z f =
    record {
      whole = h.whole;
      begin = h.begin;
      x = h.x;
      same = h.same;
      after = h.after;
      elapsed = omega (arith, h.elapsed);
      phase = f;
      most = h.most;
      total = omega (arith, z, sum_more ran_in xs ys, h.total);
    }

module _ (q : Parameters) (from : ℕ) where
  abbrev Is : Property
  Is = Bounded q from

  -- k ticks: all in the last stretch; or those up to its end in it, and the others in a new one
  charge-bounded : (start now lo k : ℕ) (p : Parameters) (a : Account) (xs : List Step) → Is now false p a xs → AccountSound start now lo true p a → is_upper p a ≡ true
      → k ≤ a.server.capacity
      → Is (now + k) false p (made (charged k a.server) a.pending) (xs ++ ran k a.server.activation ∷ [])
  charge-bounded start now lo k p a xs h s u l = go (leb (now + k) (h.begin + stretch p)) refl
    where
      e : sum_of ran_in (xs ++ ran k a.server.activation ∷ []) ≡ sum_of ran_in xs + k
      e = omega (arith, sum_more ran_in xs (ran k a.server.activation ∷ []))

      held : a.server.capacity + a.server.used ≤ p.budget
      held = omega (tests, s.sums.0)

      -- j ticks that end with the stretch or before
      upto : (j : ℕ) → j ≤ k → now + j ≤ h.begin + stretch p → h.x + j ≤ 2 * p.budget
      upto j m n = most-of h.begin p (now + j) false (made (charged j a.server) a.pending) (h.x + j) (omega (arith, held)) n (charge h.begin p now j a h.x u (omega arith) h.phase)

      ended : h.begin + stretch p < now + k → h.x + (h.begin + stretch p - now) ≤ 2 * p.budget
      ended m = by (leb now (h.begin + stretch p)) refl
        where
          by : (c : Bool) → leb now (h.begin + stretch p) ≡ c → h.x + (h.begin + stretch p - now) ≤ 2 * p.budget
          by true f = upto (h.begin + stretch p - now) (omega arith) (omega (arith, leb-true now (h.begin + stretch p) f))
          by false f = omega (arith, h.most, leb-false now (h.begin + stretch p) f)

      go : (c : Bool) → leb (now + k) (h.begin + stretch p) ≡ c → Is (now + k) false p (made (charged k a.server) a.pending) (xs ++ ran k a.server.activation ∷ [])
      go true f =
          record {
            whole = h.whole;
            begin = h.begin;
            x = h.x + k;
            same = h.same;
            after = h.after;
            elapsed = omega (arith, h.elapsed);
            phase = charge h.begin p now k a h.x u l h.phase;
            most = upto k (omega arith) (leb-true (now + k) (h.begin + stretch p) f);
            total = omega (arith, e, h.total);
          }
      go false f =
          let m = leb-false (now + k) (h.begin + stretch p) f in
          let r = h.begin + stretch p - now in
          record {
            whole = suc h.whole;
            begin = now + r;
            x = k - r;
            same = h.same;
            after = omega (arith, h.after);
            elapsed = omega arith;
            phase = first (omega arith);
            most = omega (arith, held);
            total = omega (arith, e, h.total, ended m);
          }

  pub bound-rules : StepRules Is
  bound-rules =
      record {
        passes = λ now k b p a xs h.
            subst (Is (now + k) b p a) (append-nil xs) (still q from now (now + k) b b p a a xs [] h (omega arith) refl (pass h.begin p now k b a h.x h.phase));
        charges = λ start now lo k p a xs h s u l. charge-bounded start now lo k p a xs h s u l;
        limits = λ start now lo p a xs h s c c8 z.
            still q from now now false false p a _ xs _ h (omega arith) refl (limited h.begin p start now lo a h.x h.elapsed s c c8 z h.phase);
        returns = λ start now lo up b p a xs h s e.
            still q from now now b b p a _ xs _ h (omega arith) refl (return h.begin start now lo up p a h.x s e b h.phase);
        blocks = λ start now lo up p a xs h s c c8.
            still q from now now false true p a _ xs _ h (omega arith) refl (schedule h.begin p start now lo a h.x h.elapsed up false s c c8 h.phase);
        wakes = λ now p a xs h l.
            subst (Is now false p (applied (wake_effect now true p a.pending.count a.server) a)) (append-nil xs)
            (still q from now now true false p a _ xs [] h (omega arith) refl (wake-phase h.begin now p a h.x h.phase));
      }

  -- up to n stretches after `from`
  pub bounded : (now n : ℕ) (b : Bool) (p : Parameters) (a : Account) (xs : List Step) → Is now b p a xs → 0 < p.period → now ≤ from + n * stretch p → sum_of ran_in xs ≤ n * (2 * p.budget)
  bounded now n b p a xs h some l = go (ltb h.whole n) refl
    where
      go : (c : Bool) → ltb h.whole n ≡ c → sum_of ran_in xs ≤ n * (2 * p.budget)
      go true e = omega (arith, h.total, h.most, mul-le-mul_right (2 * p.budget) (ltb-true h.whole n e))
      go false e = by (ltb n h.whole) refl
        where
          m : n ≤ h.whole
          m = ltb-false h.whole n e

          by : (d : Bool) → ltb n h.whole ≡ d → sum_of ran_in xs ≤ n * (2 * p.budget)
          by true f = absurd (omega (arith, h.after, h.elapsed, mul-le-mul_right (stretch p) (ltb-true n h.whole f)))
          by false f =
              let g : h.whole ≡ n = omega (arith, ltb-false n h.whole f, m) in
              let z : h.x ≡ 0 = omega (arith, h.after, h.elapsed, mul-le-mul_right (stretch p) m) in
              omega (arith, h.total, z, ap (λ (k : ℕ). k * (2 * p.budget)) g)

-- where a history begins
pub bound-begins : (now : ℕ) (b : Bool) (p : Parameters) (a : Account) → Bounded p now now b p a []
bound-begins now b p a =
    record { whole = 0; begin = now; x = 0; same = refl; after = omega arith; elapsed = omega arith; phase = first (omega arith); most = omega arith; total = omega arith }

-- ---- a tick takes a tick

abbrev pub Elapsed : ℕ → Property
Elapsed from now b p a xs = from + sum_of ran_in xs ≤ now

no_more : (from now : ℕ) (xs ys : List Step) → sum_of ran_in ys ≡ 0 → from + sum_of ran_in xs ≤ now → from + sum_of ran_in (xs ++ ys) ≤ now
no_more from now xs ys z l = omega (arith, sum_more ran_in xs ys)

pub elapsed-rules : (from : ℕ) → StepRules (Elapsed from)
elapsed-rules from =
    record {
      passes = λ now k b p a xs h. omega arith;
      charges = λ start now lo k p a xs h s u l. omega (arith, sum_more ran_in xs (ran k a.server.activation ∷ []));
      limits = λ start now lo p a xs h s c c8 z. no_more from now xs _ refl h;
      returns = λ start now lo up b p a xs h s e. no_more from now xs _ refl h;
      blocks = λ start now lo up p a xs h s c c8. no_more from now xs _ refl h;
      wakes = λ now p a xs h l. h;
    }

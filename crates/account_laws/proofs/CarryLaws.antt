-- A set that carries an account over leaves it sound under the new parameters.
use Prim.Native.Nat.{ℕ, ◌+◌, ◌-◌, ◌≤◌, ◌<◌}
use mathlib.Core.Bool.{Bool, true, false, cond, not, ◌&&◌}
use mathlib.Core.Path.{◌≡◌, refl, sym, ap, ◌∙◌}
use lib.Dec.{eqb}
use native.Mathlib.Omega.{arith}
use borrow.Author.Tests.{le-ltb, eqb-true}
use Rattle.base.proofs.TestLaws.{tests, All, false-true, cond-false}
use Rattle.records.specs.declared.Parameters.{Parameters}
use Rattle.account.specs.declared.Account.{Account}
use Rattle.account.specs.Account.{is_upper, pending_amounts}
use Rattle.account.specs.Sound.{sum, number_tests, runs_upper, sound_at}
use Rattle.account.specs.Carry.{carried, CarriedAddsUp, SameChangesNothing}
use Rattle.sporadic.specs.Carry.{carried_capacity, goes_up, carried_server, cant_carry}
use Rattle.sporadic.proofs.CarryLaws.{Carries, carries}
use Rattle.account_laws.proofs.SoundLaws.{AccountSound, sound-out, upper-room, upper-yes}

pub runs-upper : (blocked : Bool) (p : Parameters) (a : Account) → runs_upper blocked p a ≡ true → (blocked ≡ false) × (is_upper p a ≡ true)
runs-upper true p a e = false-true e
runs-upper false p a e = (refl, e)

module _ (now : ℕ) (blocked : Bool) (old new : Parameters) (a : Account) where
  -- the set is not refused
  abbrev Accepted : Type 0
  Accepted = cant_carry blocked old new a.server.capacity a.pending.count ≡ false

  allowed : Accepted → Carries (runs_upper blocked old a) old new a.server.capacity a.pending.count
  allowed e = carries old new a.server.capacity a.pending.count blocked e

  -- a runnable thread at its upper priority stays there
  pub carried-upper : Accepted → runs_upper blocked old a ≡ true → runs_upper blocked new (carried now blocked old new a) ≡ true
  unfolding carried carried_server
  carried-upper e u =
      let c = allowed e in
      let r = runs-upper blocked old a u in
      let q = upper-room old a r.1 in
      rw r.0 (upper-yes new (carried now blocked old new a) (omega (arith, c.left q.0)) (c.room u))

  -- and keeps its activation time
  carried-stays : runs_upper blocked old a ≡ true → goes_up blocked old new a.pending.count a.server ≡ false
  carried-stays u = let r = runs-upper blocked old a u in simp (r.0, r.1)

  module _ (start : ℕ) where
    -- the numbers, for a thread at upper before (`up`) and after (`up'`) and for either activation time
    numbers-carried : (up up' g : Bool) → (up ≡ true → up' ≡ true) → (up ≡ true → g ≡ false) → a.pending.count ≤ new.max_repl
        → All (number_tests start now up old a.server a.pending.count)
        → All (number_tests start now up' new (record { capacity = carried_capacity old new a.server.capacity; used = a.server.used; activation = cond g now a.server.activation }) a.pending.count)
    numbers-carried true true false f k w h = omega (tests, h)
    numbers-carried true true true f k w h = false-true (sym (k refl))
    numbers-carried true false g f k w h = false-true (f refl)
    numbers-carried false true true f k w h = omega (tests, h)
    numbers-carried false true false f k w h = omega (tests, h)
    numbers-carried false false true f k w h = omega (tests, h)
    numbers-carried false false false f k w h = omega (tests, h)

    -- capacity, U and what is pending make the new budget
    carried-sum : AccountSound start now now (runs_upper blocked old a) old a → Accepted
        → (carried now blocked old new a).server.capacity + (carried now blocked old new a).server.used + sum (pending_amounts (carried now blocked old new a).pending) ≡ new.budget
    unfolding carried carried_server
    carried-sum h e = omega (tests, h.sums.0, (allowed e).enough)

    -- sound under the new parameters
    pub carry-sound : AccountSound start now now (runs_upper blocked old a) old a → Accepted
        → AccountSound start now now (runs_upper blocked new (carried now blocked old new a)) new (carried now blocked old new a)
    unfolding carried carried_server
    carry-sound h e =
        let c = allowed e in
        record {
          numbers =
              numbers-carried (runs_upper blocked old a) (runs_upper blocked new (carried now blocked old new a)) (goes_up blocked old new a.pending.count a.server)
              (carried-upper e) carried-stays c.within h.numbers;
          sums = (omega (tests, h.sums.0, c.enough), h.sums.1);
          times = h.times;
          due_slots = h.due_slots;
          amount_slots = h.amount_slots;
        }

-- a set to the same parameters is not refused and changes nothing
module _ (start now : ℕ) (blocked : Bool) (p : Parameters) (a : Account) where
  same-carries : sound_at start now blocked p a ≡ true → cant_carry blocked p p a.server.capacity a.pending.count ≡ false
  unfolding cant_carry
  same-carries s =
      let h = sound-out start now blocked p a s in
      rw (le-ltb p.budget p.budget (omega arith), le-ltb p.max_repl a.pending.count (omega (tests, h.numbers)))
      (full (runs_upper blocked p a) refl (eqb p.max_repl a.pending.count) refl)
    where
      full : (u : Bool) → runs_upper blocked p a ≡ u → (b : Bool) → eqb p.max_repl a.pending.count ≡ b → (b && u) ≡ false
      full u f false e = refl
      full false f true e = refl
      full true f true e =
          let r = runs-upper blocked p a f in
          let q = upper-room p a r.1 in
          absurd (omega (arith, q.1, eqb-true p.max_repl a.pending.count e))

  carried_same : carried now blocked p p a ≡ a
  unfolding carried carried_server
  carried_same = λ i. record { server = record { capacity = c i; used = a.server.used; activation = t i }; pending = a.pending }
    where
      c : carried_capacity p p a.server.capacity ≡ a.server.capacity
      c = omega arith

      never : (x y : Bool) → (x && (not y && y)) ≡ false
      never true true = refl
      never true false = refl
      never false y = refl

      t : cond (goes_up blocked p p a.pending.count a.server) now a.server.activation ≡ a.server.activation
      t = cond-false (goes_up blocked p p a.pending.count a.server) now a.server.activation (rw c (never (not blocked) (is_upper p a)))

-- ---- as the definitions say it

pub carried-adds-up : CarriedAddsUp
carried-adds-up start now blocked old new a s e = carried-sum now blocked old new a start (sound-out start now blocked old a s) e

pub same-changes-nothing : SameChangesNothing
same-changes-nothing start now blocked p a s = (same-carries start now blocked p a s, carried_same start now blocked p a)

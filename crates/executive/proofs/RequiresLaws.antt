-- What the functions that an event calls require, from the soundness of the state.
use Prim.Native.Nat.{ℕ, ◌≤◌, ◌<◌}
use mathlib.Core.Bool.{Bool, true, false, ◌&&◌}
use mathlib.Core.Path.{◌≡◌, refl, sym, ap, ◌∙◌, subst⁻¹}
use lib.ListN.{get_or}
use lib.Dec.{ltb, eqb}
use native.Mathlib.Omega.{arith}
use borrow.Author.Tests.{not-false}
use Rattle.records.specs.declared.Parameters.{Parameters}
use Rattle.records.specs.declared.Event.{Event}
use Rattle.records.specs.Ranges.{in_range, fifo_in_range, rr_in_range, sporadic_in_range}
use Rattle.records.proofs.PolicyLaws.{by_two}
use Rattle.sporadic.specs.Carry.{Carryable}
use Rattle.sporadic.proofs.CarryLaws.{carries}
use Rattle.base.proofs.TestLaws.{tests, false-true}
use Rattle.account.specs.declared.Pending.{Pending}
use Rattle.account.specs.Rules.{Schedulable}
use Rattle.account.specs.Sound.{runs_upper}
use Rattle.account_laws.proofs.SoundLaws.{AccountSound, upper-room}
use Rattle.thread.specs.declared.Thread.{Thread}
use Rattle.state.specs.declared.State.{State}
use Rattle.state.specs.State.{thread_at, pending_at}
use Rattle.thread.specs.Thread.{is_blocked}
use Rattle.state.specs.Sound.{sound_state}
use Rattle.state.proofs.SoundLaws.{ThreadSound, Sound, state-out, range-out, sporadic-out}
use Rattle.state.proofs.SoundLaws.ThreadSound.{absent, fifo, rr, sporadic}
use Rattle.events.specs.Answers.{field_status, state_status}
use Rattle.events.proofs.FitLaws.{carries-if}
use Rattle.events.proofs.EventLaws.{and_both, fields, state}

-- a due a period after the activation fits, and where something is charged there is room for one more
used-room : (start now : ℕ) (t : Thread) (q : Pending) (u : Bool) → runs_upper (is_blocked t) t.parameters (record { server = t.server; pending = q }) ≡ u → t.parameters.max_repl ≤ 8
    → AccountSound start now now (runs_upper (is_blocked t) t.parameters (record { server = t.server; pending = q })) t.parameters (record { server = t.server; pending = q })
    → 0 < t.server.used → q.count < 8
used-room start now t q true e m v l = go (is_blocked t) e
  where
    go : (b : Bool) → runs_upper b t.parameters (record { server = t.server; pending = q }) ≡ true → q.count < 8
    go true f = false-true f
    go false f = omega (arith, (upper-room t.parameters (record { server = t.server; pending = q }) f).1)
used-room start now t q false e m v l = absurd (omega (tests, (rw e at v).numbers))

schedule-fits : (start now : ℕ) (b : Bool) (t : Thread) (q : Pending) → now ≤ 1000000000000000 → ThreadSound start now now b t q → 1 < t.parameters.policy
    → Schedulable t.parameters t.server q.count
schedule-fits start now b t q m (absent n e f) l = absurd (omega (arith, ap (λ (x : Thread). x.parameters.policy) e))
schedule-fits start now b t q m (fifo n z g k v f) l = absurd (omega arith)
schedule-fits start now b t q m (rr n z g k v f) l = absurd (omega arith)
schedule-fits start now b t q m (sporadic n z g k v) l =
    (omega (tests, g, v.numbers), used-room start now t q _ refl (omega (tests, g)) v)

capacity-most : (start now : ℕ) (b : Bool) (t : Thread) (q : Pending) → ThreadSound start now now b t q → 1 < t.parameters.policy → t.server.capacity ≤ 1000000000
capacity-most start now b t q (absent n e f) l = absurd (omega (arith, ap (λ (x : Thread). x.parameters.policy) e))
capacity-most start now b t q (fifo n z g k v f) l = absurd (omega arith)
capacity-most start now b t q (rr n z g k v f) l = absurd (omega arith)
capacity-most start now b t q (sporadic n z g k v) l = omega (tests, g, v.sums.0)

-- a sporadic thread's budget
budget-most : (p : Parameters) → in_range 8 p ≡ true → 1 < p.policy → p.budget ≤ 1000000000
budget-most p r l =
    let g = range-out p r in
    let z : p.policy ≡ 2 = omega (arith, g.2) in
    omega (tests, sporadic-out p (sym (by_two p.policy (fifo_in_range p) (rr_in_range p) (sporadic_in_range 8 p) z) ∙ g.3))

module _ (s : State) (a : sound_state s ≡ true) where
  sound : Sound s
  sound = state-out s a

  pub block-requires : (i : ℕ) → i < 32 → (q : Pending) → q ≡ pending_at s i → 1 < (thread_at s i).parameters.policy
      → Schedulable (thread_at s i).parameters (thread_at s i).server q.count
  block-requires i m q e l =
      subst⁻¹ (λ (x : Pending). Schedulable (thread_at s i).parameters (thread_at s i).server x.count) e
      (schedule-fits s.header.start s.now (ltb i s.header.n) (thread_at s i) (pending_at s i) (omega (tests, sound.sizes)) (sound.each i m) l)

  -- a set that is accepted can carry an account over
  pub carry-requires : (e : Event) → field_status s e ≡ 0 → state_status s e ≡ 0 → e.kind ≡ 4 → e.thread < 32
      → 1 < (thread_at s e.thread).parameters.policy → 1 < e.parameters.policy
      → Carryable (thread_at s e.thread).parameters e.parameters (thread_at s e.thread).server.capacity
  carry-requires e f g z m l n =
      let t = thread_at s e.thread in
      let p = e.parameters in
      let r = and_both (in_range 8 p) (eqb p.flag 0) (not-false (in_range 8 p && eqb p.flag 0) (fields s sound e f g 4 z).2) in
      let c = carries-if t.parameters.policy p.policy _ l n (state s sound e f g 4 z).2 in (
        omega (arith, budget-most p r.0 n, capacity-most s.header.start s.now (ltb e.thread s.header.n) t (pending_at s e.thread) (sound.each e.thread m) l),
        (carries t.parameters p t.server.capacity (get_or s.counts e.thread 0) (is_blocked t) c).enough,
      )

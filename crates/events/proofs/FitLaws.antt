-- A thread and an account, as each kind of event leaves them, fit a sound state.
use Prim.Native.Nat.{ℕ, zero, suc, ◌≤◌, ◌<◌}
use mathlib.Core.Bool.{Bool, true, false, ◌&&◌}
use mathlib.Core.Path.{◌≡◌, refl, sym, ap, ap₂, ◌∙◌, subst, subst⁻¹}
use mathlib.Core.List.{[], ◌∷◌}
use lib.ListN.{length}
use lib.Dec.{ltb, leb}
use native.Mathlib.Omega.{arith}
use borrow.Author.Tests.{lt-ltb}
use Rattle.records.specs.declared.Parameters.{Parameters}
use Rattle.records.specs.Ranges.{by_policy, in_range, fifo_in_range, rr_in_range, sporadic_in_range}
use Rattle.base.proofs.TestLaws.{tests, All, cond-true, cond-false, false-true}
use Rattle.account.specs.declared.Pending.{Pending}
use Rattle.account.specs.declared.Account.{Account}
use Rattle.sporadic.specs.declared.Place.{Place}
use Rattle.sporadic.specs.declared.Place.TheVariants.{Low, Upper}
use Rattle.account.specs.Account.{is_upper, fresh_account, no_account, new_account}
use Rattle.account.specs.Rules.{blocking, waking}
use Rattle.account.specs.Carry.{carried, set_account}
use Rattle.sporadic.specs.Carry.{cant_carry}
use Rattle.sporadic.specs.Rules.{wake_effect}
use Rattle.account.specs.Sound.{runs_upper}
use Rattle.account_laws.proofs.SoundLaws.{AccountSound, Sent, block-sound, wake-upper, wake-low, fresh-sound, upper-room}
use Rattle.account_laws.proofs.CarryLaws.{carry-sound}
use Rattle.thread.specs.declared.Thread.{Thread}
use Rattle.thread.specs.Thread.{is_blocked, assigned, full_quantum, renewed, with_blocked, with_server}
use Rattle.state.proofs.SoundLaws.{ThreadSound, blocked-most, range-out, fifo-out, rr-out, sporadic-out}
use Rattle.state.proofs.SoundLaws.ThreadSound.{absent, fifo, rr, sporadic}
use Rattle.records.proofs.PolicyLaws.{by_zero, by_one, by_two}
use Rattle.events.specs.Events.{if_sporadic}

-- a thread and an account that fit a place of a sound state
pub record Fits (start now : ℕ) (b : Bool) (t : Thread) (a : Account) : Type 0 where
  pub dues : length a.pending.dues ≡ 8
  pub amounts : length a.pending.amounts ≡ 8
  pub sound : ThreadSound start now now b (with_server a.server t) a.pending

module _ (start now : ℕ) (b : Bool) (t : Thread) (q : Pending) (d : length q.dues ≡ 8) (m : length q.amounts ≡ 8) where
  -- a block of a thread that stands in a list
  pub block-fits : ThreadSound start now now b t q → is_blocked t ≡ false → (list : ℕ) → assigned t q.count ≡ list → 1 ≤ list
      → Fits start now b (with_blocked 1 t) (if_sporadic t (blocking now false t.parameters (record { server = t.server; pending = q })).account (record { server = t.server; pending = q }))
  block-fits (absent n e f) w list a l = absurd (omega (arith, ap (λ (x : Thread). assigned x q.count) e))
  block-fits (fifo n z h l v f) w list a g =
      subst⁻¹ (Fits start now b (with_blocked 1 t)) (by_zero t.parameters.policy _ _ _ z) (record { dues = d; amounts = m; sound = fifo n z (omega (tests, h)) l v f })
  block-fits (rr n z h l v f) w list a g =
      subst⁻¹ (Fits start now b (with_blocked 1 t)) (by_one t.parameters.policy _ _ _ z) (record { dues = d; amounts = m; sound = rr n z (omega (tests, h)) l v f })
  block-fits (sporadic n z h l v) w list a g =
      let k = block-sound start now t.parameters now (record { server = t.server; pending = q })
      (runs_upper (is_blocked t) t.parameters (record { server = t.server; pending = q })) v (omega arith) (omega (tests, h)) (omega (tests, h))
      (λ u. (upper-room t.parameters (record { server = t.server; pending = q }) (sym (cond-false (is_blocked t) false _ w) ∙ u)).1) in
      subst⁻¹ (Fits start now b (with_blocked 1 t)) (by_two t.parameters.policy _ _ _ z)
      (record { dues = omega (tests, k.due_slots.0); amounts = omega (tests, k.amount_slots.0); sound = sporadic n z (omega (tests, h)) l k })

  -- a full quantum changes an RR thread alone
  pub quantum-fits : ThreadSound start now now b t q → ThreadSound start now now b (full_quantum t) q
  quantum-fits (absent n e f) = subst⁻¹ (λ (x : Thread). ThreadSound start now now b (full_quantum x) q) e (absent n refl f)
  quantum-fits (fifo n z h l v f) = fifo n z h (by_zero t.parameters.policy _ _ _ z ∙ l) v f
  quantum-fits (rr n z h l v f) =
      rr n z h (subst⁻¹ (λ (y : ℕ). All (leb 1 y ∷ leb y t.parameters.budget ∷ [])) (by_one t.parameters.policy t.left t.parameters.budget t.left z) (omega (tests, h))) v f
  quantum-fits (sporadic n z h l v) = sporadic n z h (by_two t.parameters.policy _ _ _ z ∙ l) v

  -- a wake of a blocked thread
  pub wake-fits : ThreadSound start now now b t q → is_blocked t ≡ true → start ≤ now
      → Fits start now b (with_blocked 0 (full_quantum t)) (if_sporadic t (waking now true t.parameters (record { server = t.server; pending = q })).account (record { server = t.server; pending = q }))
  wake-fits (absent n e f) w l = false-true (sym (ap (λ (x : Thread). is_blocked x) e) ∙ w)
  wake-fits (fifo n z h l v f) w g =
      subst⁻¹ (Fits start now b (with_blocked 0 (full_quantum t))) (by_zero t.parameters.policy _ _ _ z)
      (record { dues = d; amounts = m; sound = fifo n z (omega (tests, h)) (by_zero t.parameters.policy _ _ _ z ∙ l) v f })
  wake-fits (rr n z h l v f) w g =
      subst⁻¹ (Fits start now b (with_blocked 0 (full_quantum t))) (by_one t.parameters.policy _ _ _ z)
      (record {
        dues = d;
        amounts = m;
        sound = rr n z (omega (tests, h)) (subst⁻¹ (λ (y : ℕ). All (leb 1 y ∷ leb y t.parameters.budget ∷ [])) (by_one t.parameters.policy t.left t.parameters.budget t.left z) (omega (tests, h))) v f;
      })
  wake-fits (sporadic n z h l v) w g =
      subst⁻¹ (Fits start now b (with_blocked 0 (full_quantum t))) (by_two t.parameters.policy _ _ _ z) (by (is_upper t.parameters (record { server = t.server; pending = q })) refl)
    where
      slept : AccountSound start now now false t.parameters (record { server = t.server; pending = q })
      slept = subst (λ (x : Bool). AccountSound start now now x t.parameters (record { server = t.server; pending = q })) (cond-true (is_blocked t) false _ w) v

      sent : (u : Bool) (x : Place) → Sent start now now u t.parameters x (record { server = t.server; pending = q }) (wake_effect now true t.parameters q.count t.server)
          → Fits start now b (with_blocked 0 (full_quantum t)) (waking now true t.parameters (record { server = t.server; pending = q })).account
      sent u x k =
          record {
            dues = omega (tests, k.sound.due_slots.0);
            amounts = omega (tests, k.sound.amount_slots.0);
            sound = sporadic n z (omega (tests, h)) (by_two t.parameters.policy _ _ _ z ∙ l)
                (subst⁻¹ (λ (y : Bool). AccountSound start now now y t.parameters (waking now true t.parameters (record { server = t.server; pending = q })).account) k.upper k.sound);
          }

      by : (u : Bool) → is_upper t.parameters (record { server = t.server; pending = q }) ≡ u
          → Fits start now b (with_blocked 0 (full_quantum t)) (waking now true t.parameters (record { server = t.server; pending = q })).account
      by true e = sent true Upper (wake-upper start now t.parameters now (record { server = t.server; pending = q }) slept g e)
      by false e = sent false Low (wake-low start now t.parameters now (record { server = t.server; pending = q }) slept e)

-- the parameters of a set or an opening: in range, with no start flag
pub set-fits : (start now : ℕ) (t : Thread) (p : Parameters) → start ≤ now → t.blocked ≤ 1 → in_range 8 p ≡ true → p.flag ≡ 0
    → Fits start now true (renewed p t) (new_account now p) × (assigned (with_server (new_account now p).server (renewed p t)) (new_account now p).pending.count ≡ p.priority)
    × (1 ≤ p.priority) × (p.priority ≤ 32)
set-fits start now t p l w r f = go p.policy refl (range-out p r)
  where
    prio : Account → ℕ
    prio a = assigned (with_server a.server (renewed p t)) a.pending.count

    go : (c : ℕ) → p.policy ≡ c → (1 ≤ p.priority) × (p.priority ≤ 32) × (p.policy ≤ 2) × (by_policy p.policy (fifo_in_range p) (rr_in_range p) (sporadic_in_range 8 p) ≡ true)
        → Fits start now true (renewed p t) (new_account now p) × (assigned (with_server (new_account now p).server (renewed p t)) (new_account now p).pending.count ≡ p.priority)
        × (1 ≤ p.priority) × (p.priority ≤ 32)
    go zero z g =
        let h = fifo-out p (sym (by_zero p.policy (fifo_in_range p) (rr_in_range p) (sporadic_in_range 8 p) z) ∙ g.3) in (
          subst⁻¹ (Fits start now true (renewed p t)) (by_zero p.policy no_account no_account (fresh_account now p) z)
              (record { dues = refl; amounts = refl; sound = fifo refl z (omega (tests, h, g.0, g.1, f)) (by_zero p.policy _ _ _ z) refl refl }),
          by_zero p.policy _ _ _ z,
          g.0,
          g.1,
        )
    go (suc zero) z g =
        let h = rr-out p (sym (by_one p.policy (fifo_in_range p) (rr_in_range p) (sporadic_in_range 8 p) z) ∙ g.3) in (
          subst⁻¹ (Fits start now true (renewed p t)) (by_one p.policy no_account no_account (fresh_account now p) z)
              (record {
                dues = refl;
                amounts = refl;
                sound = rr refl z (omega (tests, h, g.0, g.1, f))
                    (subst⁻¹ (λ (y : ℕ). All (leb 1 y ∷ leb y p.budget ∷ [])) (by_one p.policy 0 p.budget 0 z) (omega (tests, h))) refl refl;
              }),
          by_one p.policy _ _ _ z,
          g.0,
          g.1,
        )
    go (suc (suc zero)) z g =
        let h = sporadic-out p (sym (by_two p.policy (fifo_in_range p) (rr_in_range p) (sporadic_in_range 8 p) z) ∙ g.3) in
        let k = fresh-sound start now p (runs_upper (is_blocked t) p (fresh_account now p)) l (omega (tests, h)) (omega (tests, h)) in
        let e = by_two p.policy no_account no_account (fresh_account now p) z in (
          subst⁻¹ (Fits start now true (renewed p t)) e
              (record { dues = refl; amounts = refl; sound = sporadic refl z (omega (tests, h, g.0, g.1, f)) (by_two p.policy _ _ _ z) k.0 }),
          ap prio e ∙ by_two p.policy _ _ _ z ∙ cond-true _ p.priority p.low k.1,
          g.0,
          g.1,
        )
    go (suc (suc (suc c))) z g = absurd (omega (arith, g.2))

-- ---- a set

-- what isn't refused of two policies that are sporadic
pub carries-if : (a b : ℕ) (x : Bool) → 1 < a → 1 < b → ((ltb 1 a && ltb 1 b) && x) ≡ false → x ≡ false
carries-if a b x l m e = sym (ap₂ (λ (v w : Bool). (v && w) && x) (lt-ltb 1 a l) (lt-ltb 1 b m)) ∙ e

module _ (start now : ℕ) (t : Thread) (q : Pending) (p : Parameters) where
  abbrev its : Account
  its = record { server = t.server; pending = q }

  -- what a set doesn't refuse: the account of a sporadic thread can be carried over to sporadic parameters
  abbrev pub Carried : Type 0
  Carried = ((ltb 1 t.parameters.policy && ltb 1 p.policy) && cant_carry (is_blocked t) t.parameters p t.server.capacity q.count) ≡ false

  -- of a sporadic thread to sporadic: its account is carried over
  carry-fits : t.blocked ≤ 1 → in_range 8 p ≡ true → p.flag ≡ 0 → p.policy ≡ 2
      → AccountSound start now now (runs_upper (is_blocked t) t.parameters its) t.parameters its
      → cant_carry (is_blocked t) t.parameters p t.server.capacity q.count ≡ false
      → Fits start now true (renewed p t) (carried now (is_blocked t) t.parameters p its)
  carry-fits w r f y v c =
      let g = range-out p r in
      let h = sporadic-out p (sym (by_two p.policy (fifo_in_range p) (rr_in_range p) (sporadic_in_range 8 p) y) ∙ g.3) in
      let k = carry-sound now (is_blocked t) t.parameters p its start v c in
      record {
        dues = omega (tests, k.due_slots.0);
        amounts = omega (tests, k.amount_slots.0);
        sound = sporadic refl y (omega (tests, h, g.0, g.1, f)) (by_two p.policy _ _ _ y) k;
      }

  -- of any thread to any parameters
  pub renew-fits : ThreadSound start now now true t q → start ≤ now → in_range 8 p ≡ true → p.flag ≡ 0 → Carried
      → Fits start now true (renewed p t) (set_account now (is_blocked t) t.parameters p its)
  renew-fits h l r f c = go h
    where
      w : t.blocked ≤ 1
      w = blocked-most start now now true t q h

      anew : Fits start now true (renewed p t) (new_account now p)
      anew = (set-fits start now t p l w r f).0

      goal : Account → Type 0
      goal = Fits start now true (renewed p t)

      go : ThreadSound start now now true t q → goal (set_account now (is_blocked t) t.parameters p its)
      go (absent n e x) = false-true (sym n)
      go (fifo n z g k v x) = subst⁻¹ goal (by_zero t.parameters.policy _ _ _ z) anew
      go (rr n z g k v x) = subst⁻¹ goal (by_one t.parameters.policy _ _ _ z) anew
      go (sporadic n z g k v) =
          subst⁻¹ goal (by_two t.parameters.policy _ _ _ z)
          (by p.policy refl (range-out p r).2)
        where
          by : (d : ℕ) → p.policy ≡ d → p.policy ≤ 2 → goal (by_policy p.policy no_account no_account (carried now (is_blocked t) t.parameters p its))
          by zero y m = subst⁻¹ goal (by_zero p.policy _ _ _ y) (subst goal (by_zero p.policy _ _ _ y) anew)
          by (suc zero) y m = subst⁻¹ goal (by_one p.policy _ _ _ y) (subst goal (by_one p.policy _ _ _ y) anew)
          by (suc (suc zero)) y m = subst⁻¹ goal (by_two p.policy _ _ _ y) (carry-fits w r f y v (carries-if t.parameters.policy p.policy _ (omega (arith, z)) (omega (arith, y)) c))
          by (suc (suc (suc d))) y m = absurd (omega arith)

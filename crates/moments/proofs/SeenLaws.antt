-- What a turn of the loop reads of the state, and the ticks that it charges in place.
use Prim.Native.Nat.{ℕ, zero, suc, ◌+◌, ◌≤◌, ◌<◌, ◌^◌}
use mathlib.Core.Bool.{Bool, true, false, cond}
use mathlib.Core.Path.{◌≡◌, refl, sym, ap, ap₂, ◌∙◌, subst⁻¹}
use mathlib.Core.List.{List, [], ◌∷◌}
use lib.ListN.{get_or, set}
use lib.Seq.{set-get_or}
use lib.Dec.{ltb, eqb}
use native.Mathlib.Omega.{arith}
use borrow.Author.Tests.{eqb-false, eq-eqb}
use Rattle.records.specs.Ranges.{by_policy}
use Rattle.base.proofs.TestLaws.{tests, cond-elim, cond-true, cond-false}
use Rattle.sporadic.specs.declared.Server.{Server}
use Rattle.account.specs.declared.Pending.{Pending}
use Rattle.ready.specs.Lists.{head_of}
use Rattle.ready.specs.Rules.{Held}
use Rattle.ready.proofs.SoundLaws.{highest-sound}
use Rattle.thread.specs.declared.Thread.{Thread}
use Rattle.state.specs.declared.State.{State}
use Rattle.state.specs.State.{thread_at, pending_at, place}
use Rattle.thread.specs.Thread.{no_thread}
use Rattle.state.specs.Sound.{totals}
use Rattle.state.proofs.SoundLaws.{ThreadSound, SoundFrom}
use Rattle.state.proofs.SoundLaws.ThreadSound.{absent, fifo, rr, sporadic}
use Rattle.due_search.specs.declared.Due.{Due}
use Rattle.ticks.specs.Running.{level, head, idles, ran, charge, earlier, limit_of, limit, next}
use Rattle.ticks.proofs.RunLaws.{limit-rr, limit-upper}
use Rattle.records.proofs.PolicyLaws.{by_one, by-more}
use Rattle.moments.proofs.ChargeLaws.{runs, no_word, runner-lasts}
use Rattle.moments.proofs.TurnLaws.{first_of}
use Rattle.state.specs.Updates.{state_of}

-- the first due, the highest list p, its head i (0 where p is 0), the limit and the next moment
pub record Seen (s : State) (x : Due) (p h i l m : ℕ) : Type 0 where
  pub first : x ≡ first_of s
  pub list : p ≡ level s
  pub top : h ≡ cond (eqb p 0) 0 (head_of p s.lists)
  pub at : i ≡ h
  pub limit : l ≡ cond (eqb p 0) 0 (limit_of s.now p (thread_at s i))
  pub moment : m ≡ earlier l x.due

-- ---- what the reading of the lists requires

pub seen-held : (lo : ℕ → ℕ) (s : State) → SoundFrom lo s → (p : ℕ) → p ≡ level s → eqb p 0 ≡ false → Held p s.lists
seen-held lo s a p e d =
    subst⁻¹ (λ (q : ℕ). Held q s.lists) e
    (highest-sound (place s) s.word s.lists a.lists (λ z. eqb-false p 0 d (e ∙ no_word s.word z))).held

pub top_small : (lo : ℕ → ℕ) (s : State) → SoundFrom lo s → (p h : ℕ) → p ≡ level s → h ≡ cond (eqb p 0) 0 (head_of p s.lists) → h < 32
top_small lo s a p h e f =
    subst⁻¹ (λ (k : ℕ). k < 32) f
    (cond-elim (λ (k : ℕ). k < 32) (eqb p 0) 0 (head_of p s.lists) (λ q. omega arith)
    (λ q. subst⁻¹ (λ (r : ℕ). head_of r s.lists < 32) e (runs lo s a (ap (λ (r : ℕ). eqb r 0) (sym e) ∙ q)).small))

-- ---- a sound thread's numbers are small

pub record Fits (now : ℕ) (t : Thread) : Type 0 where
  pub total : t.total ≤ now
  pub left : t.left ≤ 1000000000
  pub server : t.server.capacity + t.server.used ≤ 1000000000

total-le : (ts : List Thread) (i : ℕ) → (get_or ts i no_thread).total ≤ totals ts
total-le [] i = omega arith
total-le (t ∷ ts) zero = omega arith
total-le (t ∷ ts) (suc i) = omega (arith, total-le ts i)

parts-fit : (start now lo : ℕ) (b : Bool) (t : Thread) (q : Pending) → ThreadSound start now lo b t q
    → (t.left ≤ 1000000000) × (t.server.capacity + t.server.used ≤ 1000000000)
parts-fit start now lo b t q (absent n e f) = omega (arith, ap (λ (x : Thread). x.left) e, ap (λ (x : Thread). x.server.capacity) e, ap (λ (x : Thread). x.server.used) e)
parts-fit start now lo b t q (fifo n z g l v f) = omega (arith, ap (λ (x : Server). x.capacity) v, ap (λ (x : Server). x.used) v)
parts-fit start now lo b t q (rr n z g l v f) = omega (tests, g, l, ap (λ (x : Server). x.capacity) v, ap (λ (x : Server). x.used) v)
parts-fit start now lo b t q (sporadic n z g l v) = omega (tests, g, v.sums.0)

pub thread-fits : (lo : ℕ → ℕ) (s : State) → SoundFrom lo s → (i : ℕ) → i < 32 → Fits s.now (thread_at s i)
thread-fits lo s a i l =
    let y = parts-fit s.header.start s.now (lo i) (ltb i s.header.n) (thread_at s i) (pending_at s i) (a.each i l) in
    record { total = omega (arith, a.timed, total-le s.threads i); left = y.0; server = y.1 }

-- ---- what was seen

module _ (lo : ℕ → ℕ) (s : State) (a : SoundFrom lo s) (x : Due) (p h i l m : ℕ) (v : Seen s x p h i l m) where
  same-idle : eqb p 0 ≡ idles s
  same-idle = ap (λ (q : ℕ). eqb q 0) v.list

  pub seen-runs : eqb p 0 ≡ false → idles s ≡ false
  seen-runs e = sym same-idle ∙ e

  pub seen-head : eqb p 0 ≡ false → h ≡ head s
  seen-head e = v.top ∙ cond-false (eqb p 0) _ _ e ∙ ap (λ (q : ℕ). head_of q s.lists) v.list

  pub seen_at : eqb p 0 ≡ false → i ≡ head s
  seen_at e = v.at ∙ seen-head e

  pub seen-small : i < 32
  seen-small = omega (arith, v.at, top_small lo s a p h v.list v.top)

  pub seen-limit : l ≡ limit s
  seen-limit = go (eqb p 0) refl
    where
      go : (b : Bool) → eqb p 0 ≡ b → l ≡ limit s
      go true e = v.limit ∙ cond-true (eqb p 0) _ _ e ∙ sym (cond-true (idles s) _ _ (sym same-idle ∙ e))
      go false e =
          v.limit
          ∙ cond-false (eqb p 0) _ _ e
          ∙ ap₂ (λ (q j : ℕ). limit_of s.now q (thread_at s j)) v.list (seen_at e)
          ∙ sym (cond-false (idles s) _ _ (seen-runs e))

  pub seen_next : m ≡ next s
  seen_next = v.moment ∙ ap₂ earlier seen-limit (ap (λ (y : Due). y.due) v.first)

  -- ticks up to the limit fit
  pub charge-fits : (k : ℕ) → s.now + k ≤ 1000000000000000 → (0 < l → s.now + k ≤ l) → eqb p 0 ≡ false
      → ((thread_at s i).total + k < 2 ^ 64) × ((thread_at s i).server.used + k < 2 ^ 64)
      × ((thread_at s i).parameters.policy ≡ 1 → k ≤ (thread_at s i).left)
      × (1 < (thread_at s i).parameters.policy → p ≡ (thread_at s i).parameters.priority → k ≤ (thread_at s i).server.capacity)
  charge-fits k n q e =
      let f = thread-fits lo s a i seen-small in
      (omega (arith, f.total), omega (arith, f.server), quantum, capacity)
    where
      is : l ≡ limit_of s.now p (thread_at s i)
      is = v.limit ∙ cond-false (eqb p 0) _ _ e

      lasts : 0 < by_policy (thread_at s i).parameters.policy 1 (thread_at s i).left (cond (eqb p (thread_at s i).parameters.priority) (thread_at s i).server.capacity 1)
      lasts =
          subst⁻¹ (λ (j : ℕ). 0 < by_policy (thread_at s j).parameters.policy 1 (thread_at s j).left (cond (eqb p (thread_at s j).parameters.priority) (thread_at s j).server.capacity 1)) (seen_at e)
          (subst⁻¹ (λ (r : ℕ). 0 < by_policy (thread_at s (head s)).parameters.policy 1 (thread_at s (head s)).left
          (cond (eqb r (thread_at s (head s)).parameters.priority) (thread_at s (head s)).server.capacity 1)) v.list
          (runner-lasts lo s a (seen-runs e)))

      quantum : (thread_at s i).parameters.policy ≡ 1 → k ≤ (thread_at s i).left
      quantum z =
          let y = by_one (thread_at s i).parameters.policy 1 (thread_at s i).left (cond (eqb p (thread_at s i).parameters.priority) (thread_at s i).server.capacity 1) z in
          let r = is ∙ limit-rr s.now p (thread_at s i) z in
          omega (arith, q (omega (arith, y, lasts, r)))

      capacity : 1 < (thread_at s i).parameters.policy → p ≡ (thread_at s i).parameters.priority → k ≤ (thread_at s i).server.capacity
      capacity z c =
          let d : (thread_at s i).parameters.policy ≡ 0 → ⊥ = (λ w. omega arith) in
          let b : (thread_at s i).parameters.policy ≡ 1 → ⊥ = (λ w. omega arith) in
          let y = by-more (thread_at s i).parameters.policy 1 (thread_at s i).left (cond (eqb p (thread_at s i).parameters.priority) (thread_at s i).server.capacity 1) d b
          ∙ cond-true (eqb p (thread_at s i).parameters.priority) (thread_at s i).server.capacity 1 (eq-eqb p (thread_at s i).parameters.priority c) in
          let r = is ∙ limit-upper s.now p (thread_at s i) d b c in
          omega (arith, q (omega (arith, y, lasts, r)))

  -- the ticks charged in place
  pub charge-place : (k n idle : ℕ) (t : Thread) → n ≡ s.now + k → idle ≡ s.idle + cond (eqb p 0) k 0
      → t ≡ cond (eqb p 0) (thread_at s i) (ran p k (thread_at s i))
      → ◌≡◌ {A = State} (state_of s.header n idle s.word (set s.threads i t) s.counts s.dues s.amounts s.lists) (charge k s)
  charge-place k n idle t e f g =
      λ y. state_of s.header (e y) ((f ∙ ap (λ (b : Bool). s.idle + cond b k 0) same-idle) y) s.word (threads (eqb p 0) refl y) s.counts s.dues s.amounts s.lists
    where
      threads : (b : Bool) → eqb p 0 ≡ b → set s.threads i t ≡ cond (idles s) s.threads (set s.threads (head s) (ran (level s) k (thread_at s (head s))))
      threads true b =
          ap (set s.threads i) (g ∙ cond-true (eqb p 0) _ _ b)
          ∙ set-get_or s.threads i no_thread
          ∙ sym (cond-true (idles s) _ _ (sym same-idle ∙ b))
      threads false b =
          ap (set s.threads i) (g ∙ cond-false (eqb p 0) _ _ b)
          ∙ ap₂ (λ (q j : ℕ). set s.threads j (ran q k (thread_at s j))) v.list (seen_at b)
          ∙ sym (cond-false (idles s) _ _ (seen-runs b))

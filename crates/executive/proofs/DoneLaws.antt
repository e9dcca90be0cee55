-- The change of the thread that an event concerns, as the code puts it into the state, is what the event does; and the lists allow it.
use Prim.Native.Nat.{ℕ, ◌<◌}
use mathlib.Core.Bool.{Bool, true, false, cond}
use mathlib.Core.Path.{◌≡◌, refl, sym, ap, ◌∙◌, subst⁻¹}
use mathlib.Core.List.{List}
use lib.ListN as lists
use lib.Dec.{leb, eqb}
use native.Mathlib.Omega.{arith}
use borrow.Author.Tests.{eq-eqb, ne_eqb, leb-true, ltb-false, lt-leb}
use Rattle.records.specs.declared.Event.{Event}
use Rattle.base.proofs.TestLaws.{cond-true, cond-false}
use Rattle.account.specs.declared.Pending.{Pending}
use Rattle.account.specs.Rules.{Schedulable}
use Rattle.sporadic.specs.Carry.{Carryable}
use Rattle.ready.specs.Lists.{head_of}
use Rattle.ready.specs.Word.{occupancy}
use Rattle.ready.specs.Rules.{Leavable, Joinable, Movable}
use Rattle.ready.proofs.SoundLaws.{leavable, joinable, movable}
use Rattle.state.specs.declared.State.{State}
use Rattle.state.specs.State.{thread_at, pending_at, account_at, place}
use Rattle.state.specs.Sound.{sound_state}
use Rattle.state.specs.Updates.{with_lists, with_account, state_of}
use Rattle.state.proofs.SoundLaws.{state-out}
use Rattle.ticks.specs.Running.{level, head, idles}
use Rattle.events.specs.declared.Change.{Change}
use Rattle.events.specs.Events.{change_of, shifted, with_change, concerned, event_change, happened}
use Rattle.events.specs.Answers.{field_status, state_status}
use Rattle.events.proofs.EventLaws.{Right, to-most, fields, busy, change-right}
use Rattle.state.proofs.UpdateLaws.{put_is, lists-are}
use Rattle.executive.specs.declared.changes.Left.{Left}
use Rattle.executive.specs.Private.{left_of, InPlace}
use Rattle.executive.proofs.RequiresLaws.{block-requires, carry-requires}

pub happened-none : (s : State) (e : Event) → e.kind ≡ 0 → s ≡ happened s e
unfolding happened
happened-none s e z = sym (cond-true (eqb e.kind 0) s _ (eq-eqb e.kind 0 z))

happened-some : (s : State) (e : Event) → 0 < e.kind → with_change (concerned s e) (event_change s e) s ≡ happened s e
unfolding happened
happened-some s e l = sym (cond-false (eqb e.kind 0) s _ (ne_eqb e.kind 0 (λ z. omega arith)))

-- an event at its time and the thread n that it concerns, which stands at place j
pub record Concerns (s : State) (e : Event) (n j : ℕ) : Type 0 where
  pub sound : sound_state s ≡ true
  pub fields : field_status s e ≡ 0
  pub allows : state_status s e ≡ 0
  pub some : 0 < e.kind
  pub who : n ≡ concerned s e
  pub there : j ≡ n

-- the thread as the code finds it: h is the head of the highest list p
pub who-is : (s : State) (e : Event) → sound_state s ≡ true → field_status s e ≡ 0 → state_status s e ≡ 0 → 0 < e.kind
    → (p h : ℕ) → p ≡ level s → h ≡ cond (eqb p 0) 0 (head_of p s.lists) → (n : ℕ) → n ≡ cond (leb e.kind 2) h e.thread → n ≡ concerned s e
who-is s e a f g l p h ep eh n en = en ∙ go (leb e.kind 2) (λ q. top (busy s (state-out s a) e f g l (leb-true e.kind 2 q)))
  where
    top : idles s ≡ false → h ≡ head s
    top d = eh ∙ cond-false (eqb p 0) 0 (head_of p s.lists) (ap (λ (x : ℕ). eqb x 0) ep ∙ d) ∙ ap (λ (x : ℕ). head_of x s.lists) ep

    go : (b : Bool) → (b ≡ true → h ≡ head s) → cond b h e.thread ≡ cond b (head s) e.thread
    go true q = q refl
    go false q = refl

module _ (s : State) (e : Event) (n j : ℕ) (v : Concerns s e n j) where
  right : Right s (concerned s e) (event_change s e)
  right = change-right s (state-out s v.sound) e v.fields v.allows v.some

  pub change-small : j < 32
  change-small = omega (arith, right.small, v.who, v.there)

  module _ (q : Pending) (eq : q ≡ pending_at s j) where
    pub change-requires : e.kind ≡ 1 → 1 < (thread_at s j).parameters.policy → Schedulable (thread_at s j).parameters (thread_at s j).server q.count
    change-requires z = block-requires s v.sound j change-small q eq

    pub set-requires : 3 < e.kind → 1 < (thread_at s j).parameters.policy → 1 < e.parameters.policy
        → Carryable (thread_at s j).parameters e.parameters (thread_at s j).server.capacity
    set-requires l =
        let k : e.kind ≡ 4 = omega (arith, ltb-false 4 e.kind (fields s (state-out s v.sound) e v.fields v.allows e.kind refl).0) in
        let i : j ≡ e.thread = v.there ∙ v.who ∙ cond-false (leb e.kind 2) (head s) e.thread (lt-leb e.kind 2 (omega arith)) in
        subst⁻¹ (λ (x : ℕ). 1 < (thread_at s x).parameters.policy → 1 < e.parameters.policy → Carryable (thread_at s x).parameters e.parameters (thread_at s x).server.capacity) i
        (carry-requires s v.sound e v.fields v.allows k (omega (arith, i, change-small)))

    module _ (c : Change) (ec : c ≡ change_of e.kind s.now e.parameters (thread_at s j) (record { server = (thread_at s j).server; pending = q })) where
      given : c ≡ event_change s e
      given =
          ec
          ∙ ap (λ (x : Pending). change_of e.kind s.now e.parameters (thread_at s j) (record { server = (thread_at s j).server; pending = x })) eq
          ∙ ap (λ (i : ℕ). change_of e.kind s.now e.parameters (thread_at s i) (account_at s i)) (v.there ∙ v.who)

      -- the lists allow what the change asks
      lists-allow : (c.from ≡ 0 → c.to ≡ 0 → s.word ≡ occupancy s.lists)
          × (c.from ≡ 0 → (c.to ≡ 0 → ⊥) → Joinable s.word c.to s.lists)
          × ((c.from ≡ 0 → ⊥) → c.to ≡ 0 → Leavable s.word c.from n s.lists)
          × ((c.from ≡ 0 → ⊥) → (c.to ≡ 0 → ⊥) → Movable s.word n c.from c.to s.lists)
      lists-allow =
          let h = state-out s v.sound in
          let r : Right s n c = rw (given, v.who) right in
          let top = to-most s h n c r in
          let most = h.lists.rows.places n r.small in (
            λ x y. h.lists.agrees,
            λ x y. joinable (place s) s.word s.lists h.lists c.to (omega (arith, y)) top n r.small (λ z. y (sym z ∙ sym r.from ∙ x)),
            λ x y. leavable (place s) s.word s.lists h.lists c.from (omega (arith, x)) (omega (arith, r.from, most)) n r.small (sym r.from),
            λ x y. movable (place s) s.word s.lists h.lists n r.small c.from c.to (omega (arith, x)) (omega (arith, r.from, most)) (sym r.from) (omega (arith, y)) top,
          )

      -- what is left of it once the entries are in place
      module _ (r : Left) (er : r ≡ left_of c) where
        pub shift-requires : (r.from ≡ 0 → r.to ≡ 0 → s.word ≡ occupancy s.lists)
            × (r.from ≡ 0 → (r.to ≡ 0 → ⊥) → Joinable s.word r.to s.lists)
            × ((r.from ≡ 0 → ⊥) → r.to ≡ 0 → Leavable s.word r.from n s.lists)
            × ((r.from ≡ 0 → ⊥) → (r.to ≡ 0 → ⊥) → Movable s.word n r.from r.to s.lists)
        shift-requires =
            subst⁻¹ (λ (x : Left).
            (x.from ≡ 0 → x.to ≡ 0 → s.word ≡ occupancy s.lists)
            × (x.from ≡ 0 → (x.to ≡ 0 → ⊥) → Joinable s.word x.to s.lists)
            × ((x.from ≡ 0 → ⊥) → x.to ≡ 0 → Leavable s.word x.from n s.lists)
            × ((x.from ≡ 0 → ⊥) → (x.to ≡ 0 → ⊥) → Movable s.word n x.from x.to s.lists))
            er lists-allow

        -- the state as the code leaves it
        pub change-is : (ns d m : List ℕ) → InPlace j c.account.pending s.counts s.dues s.amounts ns d m
            → (k : List ℕ) (w : ℕ) → k ≡ shifted n r.from r.to s.lists → w ≡ occupancy (shifted n r.from r.to s.lists)
            → state_of s.header s.now s.idle w (lists.set s.threads j r.thread) ns d m k ≡ happened s e
        change-is ns d m en k w ek ew =
            let shifts : shifted n r.from r.to s.lists ≡ shifted n c.from c.to s.lists = ap (λ (x : Left). shifted n x.from x.to s.lists) er in
            ap (λ (xs : List ℕ). state_of s.header s.now s.idle w (lists.set s.threads j r.thread) xs d m k) en.0
            ∙ lists-are
            (state_of s.header s.now s.idle s.word (lists.set s.threads j r.thread) (lists.set s.counts j c.account.pending.count) d m s.lists)
            k _ w (ek ∙ shifts) (ew ∙ ap occupancy shifts)
            ∙ ap (with_lists (shifted n c.from c.to s.lists))
            (put_is s j c.thread c.account r.thread d m (ap (λ (x : Left). x.thread) er) en.1 en.2 ∙ ap (λ (i : ℕ). with_account i c.thread c.account s) v.there)
            ∙ ap (λ (i : ℕ). with_change i c s) v.who
            ∙ ap (λ (x : Change). with_change (concerned s e) x s) given
            ∙ happened-some s e v.some

-- `moments::advance` meets its contract: each turn does one thing that happens, or charges the ticks up to it, and time goes on from there as it did before.
use Prim.Native.Nat.{ℕ, ◌+◌, ◌-◌, ◌≤◌, ◌<◌}
use mathlib.Core.Bool.{Bool, true, false}
use mathlib.Core.Path.{◌≡◌, refl, sym, ap, ◌∙◌, subst, subst⁻¹}
use lib.ListN.{get_or}
use native.Mathlib.Omega.{arith}
use lib.Dec.{eqb}
use Rattle.base.proofs.TestLaws.{tests}
use Rattle.account.specs.Rules.{Room}
use Rattle.ticks.specs.Running.{earlier}
use Rattle.reports.specs.Tallies.{Tellable}
use Rattle.state.specs.State.{thread_at}
use Rattle.state.specs.Updates.{whole}
use Rattle.state.proofs.SoundLaws.{state-out}
use Rattle.moments.proofs.TurnLaws.{start, first-of-all}
use Rattle.moments.proofs.SeenLaws.{seen-held, top_small, thread-fits}
use Rattle.moments.proofs.ToldLaws.{Telling, tell-start, told-tellable}
use Rattle.moments.proofs.AdvanceLaws.{Turn, Ticked, ticked_state, Put, put_going, put-falls, put_first, back-small, back-acts, back-not-low, back-not-then, back-room, back-slots, back-least, back-told, rest-fits, rest-idle, last, last-told, not-before, moment-fits, moment-idle, charged-turn, charged-told, ended-rotatable, ended-turn, ended-told, limit-read, limit-requires, limit-sendable, limit-goes-down, limit-first-stays, room, limit-slots, limit-turn, limit-due, limit-told, limit-small}
use Rattle.moments.proofs.advance.Goals as goal
use Rattle.moments.proofs.advance.Goals.{At-loop-j, Then-due_by, After-take_first, After-from-i, After-earlier_of-m, After-charged_idle-in-loop-j, After-put_entry}

-- ---- before the first turn

pub loop-j-init : goal.loop-j-init
loop-j-init c =
    let g = (whole c.args.s c.args.dues.now c.args.amounts.now) in
    let h = state-out g c.requires.0 in
    record {
      going = start g c.args.t h c.requires.1;
      telling = subst⁻¹ (Telling g c.args.t g) c.requires.4 (tell-start g c.args.t h);
      named = c.pending_word-waiting.ensures;
      first = c.next_in_word-x.ensures g.counts c.pending_word-waiting.ensures (λ i l k. omega arith) ∙ first-of-all (λ i. g.now) g h;
    }

-- ---- a turn

-- the room for what is told
tellable : (c : At-loop-j) (n : ℕ) → n ≤ 1000000000000000000 → Tellable n c.loop-j.told
tellable c n l =
    told-tellable (whole c.args.s c.args.dues.now c.args.amounts.now) c.args.t (state-out (whole c.args.s c.args.dues.now c.args.amounts.now) c.requires.0) c.requires.1 c.requires.3 c.requires.2 (whole c.loop-j.s c.loop-j.dues c.loop-j.amounts) c.loop-j.told c.loop-j.invariant.telling n l

-- ---- what is due now comes back

small : (c : Then-due_by) → c.loop-j.x.thread < 32
small c = back-small (whole c.args.s c.args.dues.now c.args.amounts.now) c.args.t (whole c.loop-j.s c.loop-j.dues c.loop-j.amounts) c.loop-j.invariant.going c.loop-j.x c.loop-j.invariant.first (sym c.due_by.ensures ∙ c.if-due_by.true)

pub offset_bounds-s-j : goal.offset_bounds-s-j
offset_bounds-s-j c = omega (arith, small (goal.at.offset_bounds-s-j c).Then-due_by)

pub bounds-s-j : goal.bounds-s-j
bounds-s-j c = small (goal.at.bounds-s-j c).Then-due_by

pub bounds-s-j-then-due_by : goal.bounds-s-j-then-due_by
bounds-s-j-then-due_by c = small (goal.at.bounds-s-j-then-due_by c).Then-due_by

pub overflow_mul-j : goal.overflow_mul-j
overflow_mul-j c = omega (arith, small (goal.at.overflow_mul-j c).Then-due_by)

pub offset_bounds-amounts-j : goal.offset_bounds-amounts-j
offset_bounds-amounts-j c = omega (arith, small (goal.at.offset_bounds-amounts-j c).Then-due_by)

pub bounds-amounts-j : goal.bounds-amounts-j
bounds-amounts-j c = omega (arith, small (goal.at.bounds-amounts-j c).Then-due_by)

pub offset_bounds-s-j-then-due_by : goal.offset_bounds-s-j-then-due_by
offset_bounds-s-j-then-due_by c = omega (arith, small (goal.at.offset_bounds-s-j-then-due_by c).Then-due_by)

pub bounds-s-j-then-due_by-2 : goal.bounds-s-j-then-due_by-2
bounds-s-j-then-due_by-2 c = small (goal.at.bounds-s-j-then-due_by-2 c).Then-due_by

pub send_up-requires : goal.send_up-requires
send_up-requires c =
    let r = (back-acts (whole c.args.s c.args.dues.now c.args.amounts.now) c.args.t (whole c.loop-j.s c.loop-j.dues c.loop-j.amounts) c.loop-j.invariant.going c.loop-j.x c.loop-j.invariant.first (sym c.due_by.ensures ∙ c.if-due_by.true) c.returned-e.result c.returned-e.ensures).sendable in
    let m = small (goal.at.send_up-requires c).Then-due_by in (
      omega (arith, m),
      back-not-low (whole c.args.s c.args.dues.now c.args.amounts.now) c.args.t (whole c.loop-j.s c.loop-j.dues c.loop-j.amounts) c.loop-j.invariant.going c.loop-j.x c.loop-j.invariant.first (sym c.due_by.ensures ∙ c.if-due_by.true) c.returned-e.result c.returned-e.ensures,
      back-not-then (whole c.args.s c.args.dues.now c.args.amounts.now) c.args.t (whole c.loop-j.s c.loop-j.dues c.loop-j.amounts) c.loop-j.invariant.going c.loop-j.x c.loop-j.invariant.first (sym c.due_by.ensures ∙ c.if-due_by.true) c.returned-e.result c.returned-e.ensures,
      r.stays,
      r.upper,
    )

pub count_after-pending-requires : goal.count_after-pending-requires
count_after-pending-requires c = back-room (whole c.args.s c.args.dues.now c.args.amounts.now) c.args.t (whole c.loop-j.s c.loop-j.dues c.loop-j.amounts) c.loop-j.invariant.going c.loop-j.x c.loop-j.invariant.first (sym c.due_by.ensures ∙ c.if-due_by.true) c.returned-e.result c.returned-e.ensures

pub bounds-s-j-then-due_by-3 : goal.bounds-s-j-then-due_by-3
bounds-s-j-then-due_by-3 c = small (goal.at.bounds-s-j-then-due_by-3 c).Then-due_by

pub take_first-requires : goal.take_first-requires
take_first-requires c =
    let g = goal.at.take_first-requires c in (
      small g.Then-due_by,
      tellable g.At-loop-j (c.returned-e.result.back + 1) (omega (arith, back-least (whole c.args.s c.args.dues.now c.args.amounts.now) c.args.t (whole c.loop-j.s c.loop-j.dues c.loop-j.amounts) c.loop-j.invariant.going c.loop-j.x c.loop-j.invariant.first (sym c.due_by.ensures ∙ c.if-due_by.true) c.returned-e.result c.returned-e.ensures)),
    )

-- its effect is in place
abbrev placed : (c : After-take_first) → Put (whole c.loop-j.s c.loop-j.dues c.loop-j.amounts) c.loop-j.x.thread (thread_at (whole c.loop-j.s c.loop-j.dues c.loop-j.amounts) c.loop-j.x.thread) c.returned-e.result
placed c =
    record {
      number = c.loop-j.x.thread;
      word = c.send_up.result;
      thread = c.served-changed.result;
      count = c.count_after-pending.result;
      dues = _;
      amounts = _;
      lists = _;
      number_is = refl;
      read = refl;
      word-is = c.send_up.ensures.1;
      thread-is = c.served-changed.ensures;
      count-is = c.count_after-pending.ensures;
      dues-is = back-slots (whole c.args.s c.args.dues.now c.args.amounts.now) c.args.t (whole c.loop-j.s c.loop-j.dues c.loop-j.amounts) c.loop-j.invariant.going c.loop-j.x c.loop-j.invariant.first (sym c.due_by.ensures ∙ c.if-due_by.true) c.returned-e.result c.returned-e.ensures _ _ _ c.loop-j.dues _ c.take_first.ensures.0;
      amounts-is = back-slots (whole c.args.s c.args.dues.now c.args.amounts.now) c.args.t (whole c.loop-j.s c.loop-j.dues c.loop-j.amounts) c.loop-j.invariant.going c.loop-j.x c.loop-j.invariant.first (sym c.due_by.ensures ∙ c.if-due_by.true) c.returned-e.result c.returned-e.ensures _ _ _ c.loop-j.amounts _ c.take_first.ensures.1;
      lists-is = c.send_up.ensures.0;
    }

pub word_after-waiting-requires : goal.word_after-waiting-requires
word_after-waiting-requires c = small (goal.at.word_after-waiting-requires c).Then-due_by

pub loop-j-smaller-then-due_by : goal.loop-j-smaller-then-due_by
loop-j-smaller-then-due_by c =
    put-falls (whole c.args.s c.args.dues.now c.args.amounts.now) c.args.t (whole c.loop-j.s c.loop-j.dues c.loop-j.amounts) (whole c.loop-j.s c.loop-j.dues c.loop-j.amounts) _ _ _ (placed (goal.at.loop-j-smaller-then-due_by c).After-take_first) (back-acts (whole c.args.s c.args.dues.now c.args.amounts.now) c.args.t (whole c.loop-j.s c.loop-j.dues c.loop-j.amounts) c.loop-j.invariant.going c.loop-j.x c.loop-j.invariant.first (sym c.due_by.ensures ∙ c.if-due_by.true) c.returned-e.result c.returned-e.ensures)

pub loop-j-preserved-then-due_by : goal.loop-j-preserved-then-due_by
loop-j-preserved-then-due_by c =
    let g = goal.at.loop-j-preserved-then-due_by c in
    let w = placed g.After-take_first in
    let m = small g.Then-due_by in
    let o = back-acts (whole c.args.s c.args.dues.now c.args.amounts.now) c.args.t (whole c.loop-j.s c.loop-j.dues c.loop-j.amounts) c.loop-j.invariant.going c.loop-j.x c.loop-j.invariant.first (sym c.due_by.ensures ∙ c.if-due_by.true) c.returned-e.result c.returned-e.ensures in
    let n = c.word_after-waiting.ensures c.loop-j.s.counts (omega (tests, m, c.loop-j.invariant.going.mid.sizes)) c.loop-j.invariant.named in
    record {
      going = put_going (whole c.args.s c.args.dues.now c.args.amounts.now) c.args.t (whole c.loop-j.s c.loop-j.dues c.loop-j.amounts) (whole c.loop-j.s c.loop-j.dues c.loop-j.amounts) _ _ _ w o;
      telling =
          subst⁻¹ (Telling (whole c.args.s c.args.dues.now c.args.amounts.now) c.args.t _) c.take_first.ensures.2
          (back-told (whole c.args.s c.args.dues.now c.args.amounts.now) c.args.t (whole c.loop-j.s c.loop-j.dues c.loop-j.amounts) c.loop-j.invariant.going c.loop-j.x c.loop-j.invariant.first (sym c.due_by.ensures ∙ c.if-due_by.true) c.returned-e.result c.returned-e.ensures _ w _ c.loop-j.invariant.telling);
      named = n;
      first = put_first (whole c.args.s c.args.dues.now c.args.amounts.now) c.args.t (whole c.loop-j.s c.loop-j.dues c.loop-j.amounts) (whole c.loop-j.s c.loop-j.dues c.loop-j.amounts) _ _ _ w o _ c.next_in_word-x-then-due_by.result n c.next_in_word-x-then-due_by.ensures;
    }

-- ---- nothing is due now: the next moment

pub head_at-h-requires : goal.head_at-h-requires
head_at-h-requires c = seen-held (λ i. (whole c.loop-j.s c.loop-j.dues c.loop-j.amounts).now - 1) (whole c.loop-j.s c.loop-j.dues c.loop-j.amounts) c.loop-j.invariant.going.mid c.highest-p.result c.highest-p.ensures

-- the head is a thread number
head_small : (c : After-from-i) → c.from-i.result < 32
head_small c =
    omega (arith, c.from-i.ensures, top_small (λ i. (whole c.loop-j.s c.loop-j.dues c.loop-j.amounts).now - 1) (whole c.loop-j.s c.loop-j.dues c.loop-j.amounts) c.loop-j.invariant.going.mid c.highest-p.result c.head_at-h.result c.highest-p.ensures c.head_at-h.ensures)

pub offset_bounds-s-i : goal.offset_bounds-s-i
offset_bounds-s-i c = omega (arith, head_small (goal.at.offset_bounds-s-i c).After-from-i)

pub bounds-s-i : goal.bounds-s-i
bounds-s-i c = head_small (goal.at.bounds-s-i c).After-from-i

pub limit_at-limit-requires : goal.limit_at-limit-requires
limit_at-limit-requires c =
    let m = head_small (goal.at.limit_at-limit-requires c).After-from-i in
    let f = thread-fits (λ i. (whole c.loop-j.s c.loop-j.dues c.loop-j.amounts).now - 1) (whole c.loop-j.s c.loop-j.dues c.loop-j.amounts) c.loop-j.invariant.going.mid c.from-i.result m in
    omega (tests, f.left, f.server, c.loop-j.invariant.going.mid.sizes)

-- what is known once the next moment is
abbrev turn : After-earlier_of-m → Turn
turn c =
    record {
      origin = (whole c.args.s c.args.dues.now c.args.amounts.now);
      to = c.args.t;
      bounded = c.requires.2;
      state = (whole c.loop-j.s c.loop-j.dues c.loop-j.amounts);
      going = c.loop-j.invariant.going;
      first = c.loop-j.x;
      list = c.highest-p.result;
      head = c.head_at-h.result;
      at = c.from-i.result;
      limit = c.limit_at-limit.result;
      moment = c.earlier_of-m.result;
      seen = record {
        first = c.loop-j.invariant.first;
        list = c.highest-p.ensures;
        top = c.head_at-h.ensures;
        at = c.from-i.ensures;
        limit = c.limit_at-limit.ensures;
        moment = c.earlier_of-m.ensures;
      };
    }

-- ---- no moment is due by t

pub overflow_sub-k : goal.overflow_sub-k
overflow_sub-k c = c.loop-j.invariant.going.by

pub charged_thread-rest-requires : goal.charged_thread-rest-requires
charged_thread-rest-requires c = rest-fits (turn (goal.at.charged_thread-rest-requires c).After-earlier_of-m) (sym c.due_by-in-loop-j.ensures ∙ c.if-not-due_by.true)

pub offset_bounds-s-i-then-not-due_by : goal.offset_bounds-s-i-then-not-due_by
offset_bounds-s-i-then-not-due_by c = omega (arith, head_small (goal.at.offset_bounds-s-i-then-not-due_by c).After-from-i)

pub bounds-s-i-then-not-due_by : goal.bounds-s-i-then-not-due_by
bounds-s-i-then-not-due_by c = head_small (goal.at.bounds-s-i-then-not-due_by c).After-from-i

pub charged_idle-requires : goal.charged_idle-requires
charged_idle-requires c = rest-idle (turn (goal.at.charged_idle-requires c).After-earlier_of-m)

pub returns-then-not-due_by : goal.returns-then-not-due_by
returns-then-not-due_by c =
    let e = turn (goal.at.returns-then-not-due_by c).After-earlier_of-m in record {
      amounts_after = last e (sym c.due_by-in-loop-j.ensures ∙ c.if-not-due_by.true) c.charged_idle.result c.charged_thread-rest.result c.charged_idle.ensures c.charged_thread-rest.ensures;
      numbers = last-told e (sym c.due_by-in-loop-j.ensures ∙ c.if-not-due_by.true) c.loop-j.told c.loop-j.invariant.telling;
    }

-- ---- a moment is due by t

pub overflow_sub-k-in-loop-j : goal.overflow_sub-k-in-loop-j
overflow_sub-k-in-loop-j c = not-before (turn (goal.at.overflow_sub-k-in-loop-j c).After-earlier_of-m) (sym c.due_by-in-loop-j.ensures ∙ c.if-not-due_by.false)

pub charged_thread-after-requires : goal.charged_thread-after-requires
charged_thread-after-requires c = moment-fits (turn (goal.at.charged_thread-after-requires c).After-earlier_of-m) (sym c.due_by-in-loop-j.ensures ∙ c.if-not-due_by.false)

pub charged_idle-requires-in-loop-j : goal.charged_idle-requires-in-loop-j
charged_idle-requires-in-loop-j c = moment-idle (turn (goal.at.charged_idle-requires-in-loop-j c).After-earlier_of-m) (sym c.due_by-in-loop-j.ensures ∙ c.if-not-due_by.false)

-- the ticks are charged
abbrev turn_of : After-charged_idle-in-loop-j → Turn
turn_of c =
    record {
      origin = (whole c.args.s c.args.dues.now c.args.amounts.now);
      to = c.args.t;
      bounded = c.requires.2;
      state = (whole c.loop-j.s c.loop-j.dues c.loop-j.amounts);
      going = c.loop-j.invariant.going;
      first = c.loop-j.x;
      list = c.highest-p.result;
      head = c.head_at-h.result;
      at = c.from-i.result;
      limit = c.limit_at-limit.result;
      moment = c.earlier_of-m.result;
      seen = record {
        first = c.loop-j.invariant.first;
        list = c.highest-p.ensures;
        top = c.head_at-h.ensures;
        at = c.from-i.ensures;
        limit = c.limit_at-limit.ensures;
        moment = c.earlier_of-m.ensures;
      };
    }

abbrev ticked : (c : After-charged_idle-in-loop-j) → Ticked (turn_of c)
ticked c =
    record {
      due = sym c.due_by-in-loop-j.ensures ∙ c.if-not-due_by.false;
      idle = c.charged_idle-in-loop-j.result;
      thread = c.charged_thread-after.result;
      idle-is = c.charged_idle-in-loop-j.ensures;
      thread-is = c.charged_thread-after.ensures;
    }

-- ---- a due that is no limit

pub offset_bounds-s-i-then-not-limit_first : goal.offset_bounds-s-i-then-not-limit_first
offset_bounds-s-i-then-not-limit_first c = omega (arith, head_small (goal.at.offset_bounds-s-i-then-not-limit_first c).After-from-i)

pub bounds-s-i-then-not-limit_first : goal.bounds-s-i-then-not-limit_first
bounds-s-i-then-not-limit_first c = head_small (goal.at.bounds-s-i-then-not-limit_first c).After-from-i

-- whether the moment is the limit is decided
no-limit : (t : Turn) (r : Bool) → r ≡ eqb (earlier t.limit t.first.due) t.limit → (r ≡ false) → eqb t.moment t.limit ≡ false
no-limit t r e f = ap (λ (m : ℕ). eqb m t.limit) t.seen.moment ∙ sym e ∙ f

at-limit : (t : Turn) (r : Bool) → r ≡ eqb (earlier t.limit t.first.due) t.limit → (r ≡ true) → eqb t.moment t.limit ≡ true
at-limit t r e f = ap (λ (m : ℕ). eqb m t.limit) t.seen.moment ∙ sym e ∙ f

pub loop-j-smaller-then-not-limit_first : goal.loop-j-smaller-then-not-limit_first
loop-j-smaller-then-not-limit_first c =
    let d = (goal.at.loop-j-smaller-then-not-limit_first c).After-charged_idle-in-loop-j in
    (charged-turn (turn_of d) (ticked d) (no-limit (turn_of d) c.limit_first.result c.limit_first.ensures c.if-not-limit_first.true) (sym c.due_by.ensures ∙ c.if-due_by.false)).1

pub loop-j-preserved-then-not-limit_first : goal.loop-j-preserved-then-not-limit_first
loop-j-preserved-then-not-limit_first c =
    let d = (goal.at.loop-j-preserved-then-not-limit_first c).After-charged_idle-in-loop-j in
    let n = no-limit (turn_of d) c.limit_first.result c.limit_first.ensures c.if-not-limit_first.true in
    record {
      going = (charged-turn (turn_of d) (ticked d) n (sym c.due_by.ensures ∙ c.if-due_by.false)).0;
      telling = charged-told (turn_of d) (ticked d) n (sym c.due_by.ensures ∙ c.if-due_by.false) _ c.loop-j.invariant.telling;
      named = c.loop-j.invariant.named;
      first = c.loop-j.invariant.first;
    }

-- ---- the end of a quantum

pub offset_bounds-s-i-then-after-eq-SCHED_RR : goal.offset_bounds-s-i-then-after-eq-SCHED_RR
offset_bounds-s-i-then-after-eq-SCHED_RR c = omega (arith, head_small (goal.at.offset_bounds-s-i-then-after-eq-SCHED_RR c).After-from-i)

pub bounds-s-i-then-after-eq-SCHED_RR : goal.bounds-s-i-then-after-eq-SCHED_RR
bounds-s-i-then-after-eq-SCHED_RR c = head_small (goal.at.bounds-s-i-then-after-eq-SCHED_RR c).After-from-i

pub rotate-requires : goal.rotate-requires
rotate-requires c =
    let d = (goal.at.rotate-requires c).After-charged_idle-in-loop-j in
    ended-rotatable (turn_of d) (ticked d) (at-limit (turn_of d) c.limit_first.result c.limit_first.ensures c.if-not-limit_first.false)

pub tell_quantum-requires : goal.tell_quantum-requires
tell_quantum-requires c = let g = goal.at.tell_quantum-requires c in (head_small g.After-from-i, tellable g.At-loop-j 1 (omega arith))

pub loop-j-smaller-then-after-eq-SCHED_RR : goal.loop-j-smaller-then-after-eq-SCHED_RR
loop-j-smaller-then-after-eq-SCHED_RR c =
    let d = (goal.at.loop-j-smaller-then-after-eq-SCHED_RR c).After-charged_idle-in-loop-j in
    let l = at-limit (turn_of d) c.limit_first.result c.limit_first.ensures c.if-not-limit_first.false in
    (ended-turn (turn_of d) (ticked d) l c.if-after-eq-SCHED_RR.true c.with_full_quantum-full.result _ c.with_full_quantum-full.ensures c.rotate.ensures).1

pub loop-j-preserved-then-after-eq-SCHED_RR : goal.loop-j-preserved-then-after-eq-SCHED_RR
loop-j-preserved-then-after-eq-SCHED_RR c =
    let d = (goal.at.loop-j-preserved-then-after-eq-SCHED_RR c).After-charged_idle-in-loop-j in
    let l = at-limit (turn_of d) c.limit_first.result c.limit_first.ensures c.if-not-limit_first.false in
    record {
      going =
          (ended-turn (turn_of d) (ticked d) l c.if-after-eq-SCHED_RR.true c.with_full_quantum-full.result _ c.with_full_quantum-full.ensures c.rotate.ensures).0;
      telling =
          subst⁻¹ (Telling (turn_of d).origin (turn_of d).to _) c.tell_quantum.ensures
          (ended-told (turn_of d) (ticked d) l c.if-after-eq-SCHED_RR.true c.with_full_quantum-full.result _
          c.with_full_quantum-full.ensures c.rotate.ensures _ c.loop-j.invariant.telling);
      named = c.loop-j.invariant.named;
      first = c.loop-j.invariant.first;
    }

-- ---- a limit

pub reached-e-requires : goal.reached-e-requires
reached-e-requires c =
    let d = (goal.at.reached-e-requires c).After-charged_idle-in-loop-j in
    (limit-requires (turn_of d) (ticked d) (at-limit (turn_of d) c.limit_first.result c.limit_first.ensures c.if-not-limit_first.false) c.if-after-eq-SCHED_RR.false).0

pub offset_bounds-s-i-in-loop-j : goal.offset_bounds-s-i-in-loop-j
offset_bounds-s-i-in-loop-j c = omega (arith, head_small (goal.at.offset_bounds-s-i-in-loop-j c).After-from-i)

pub bounds-s-i-in-loop-j : goal.bounds-s-i-in-loop-j
bounds-s-i-in-loop-j c = head_small (goal.at.bounds-s-i-in-loop-j c).After-from-i

pub send_down-requires : goal.send_down-requires
send_down-requires c =
    let d = (goal.at.send_down-requires c).After-charged_idle-in-loop-j in
    let l = at-limit (turn_of d) c.limit_first.result c.limit_first.ensures c.if-not-limit_first.false in
    let r = limit-sendable (turn_of d) (ticked d) l c.if-after-eq-SCHED_RR.false c.reached-e.result c.reached-e.ensures in
    (limit-goes-down (turn_of d) (ticked d) l c.if-after-eq-SCHED_RR.false c.reached-e.result c.reached-e.ensures, r.stays, r.low, r.both)

pub bounds-s-i-in-loop-j-2 : goal.bounds-s-i-in-loop-j-2
bounds-s-i-in-loop-j-2 c = head_small (goal.at.bounds-s-i-in-loop-j-2 c).After-from-i

pub count_after-pending-requires-in-loop-j : goal.count_after-pending-requires-in-loop-j
count_after-pending-requires-in-loop-j c =
    let d = (goal.at.count_after-pending-requires-in-loop-j c).After-charged_idle-in-loop-j in
    room (turn_of d) (ticked d) (at-limit (turn_of d) c.limit_first.result c.limit_first.ensures c.if-not-limit_first.false) c.if-after-eq-SCHED_RR.false c.reached-e.result c.reached-e.ensures

pub bounds-s-i-in-loop-j-3 : goal.bounds-s-i-in-loop-j-3
bounds-s-i-in-loop-j-3 c = head_small (goal.at.bounds-s-i-in-loop-j-3 c).After-from-i

pub put_entry-requires : goal.put_entry-requires
put_entry-requires c =
    let g = goal.at.put_entry-requires c in
    let d = g.After-charged_idle-in-loop-j in
    let l = at-limit (turn_of d) c.limit_first.result c.limit_first.ensures c.if-not-limit_first.false in (
      head_small g.After-from-i,
      subst (λ (b : Bool). Room b c.reached-e.result.amount (get_or c.loop-j.s.counts c.from-i.result 0))
          (limit-first-stays (turn_of d) (ticked d) l c.if-after-eq-SCHED_RR.false c.reached-e.result c.reached-e.ensures)
          (room (turn_of d) (ticked d) l c.if-after-eq-SCHED_RR.false c.reached-e.result c.reached-e.ensures),
      tellable g.At-loop-j (c.reached-e.result.back + 2)
          (omega (arith, limit-small (turn_of d) (ticked d) l c.if-after-eq-SCHED_RR.false c.reached-e.result c.reached-e.ensures)),
    )

-- its effect is in place
abbrev turn_put : After-put_entry → Turn
turn_put c =
    record {
      origin = (whole c.args.s c.args.dues.now c.args.amounts.now);
      to = c.args.t;
      bounded = c.requires.2;
      state = (whole c.loop-j.s c.loop-j.dues c.loop-j.amounts);
      going = c.loop-j.invariant.going;
      first = c.loop-j.x;
      list = c.highest-p.result;
      head = c.head_at-h.result;
      at = c.from-i.result;
      limit = c.limit_at-limit.result;
      moment = c.earlier_of-m.result;
      seen = record {
        first = c.loop-j.invariant.first;
        list = c.highest-p.ensures;
        top = c.head_at-h.ensures;
        at = c.from-i.ensures;
        limit = c.limit_at-limit.ensures;
        moment = c.earlier_of-m.ensures;
      };
    }

abbrev ticked_put : (c : After-put_entry) → Ticked (turn_put c)
ticked_put c =
    record {
      due = sym c.due_by-in-loop-j.ensures ∙ c.if-not-due_by.false;
      idle = c.charged_idle-in-loop-j.result;
      thread = c.charged_thread-after.result;
      idle-is = c.charged_idle-in-loop-j.ensures;
      thread-is = c.charged_thread-after.ensures;
    }

limit_put : (c : After-put_entry) → eqb (turn_put c).moment (turn_put c).limit ≡ true
limit_put c = at-limit (turn_put c) c.limit_first.result c.limit_first.ensures c.if-not-limit_first.false

abbrev written : (c : After-put_entry) → Put (ticked_state (turn_put c) (ticked_put c)) (turn_put c).at (ticked_put c).thread c.reached-e.result
written c =
    record {
      number = c.head_at-h.result;
      word = c.send_down.result;
      thread = c.served-changed-in-loop-j.result;
      count = c.count_after-pending-in-loop-j.result;
      dues = _;
      amounts = _;
      lists = _;
      number_is = sym c.from-i.ensures;
      read = limit-read (turn_put c) (ticked_put c) (limit_put c) c.if-after-eq-SCHED_RR.false;
      word-is = c.send_down.ensures.1;
      thread-is = c.served-changed-in-loop-j.ensures;
      count-is = c.count_after-pending-in-loop-j.ensures;
      dues-is = limit-slots (turn_put c) (ticked_put c) (limit_put c) c.if-after-eq-SCHED_RR.false c.reached-e.result c.reached-e.ensures _ _ _ c.loop-j.dues _ c.put_entry.ensures.0;
      amounts-is = limit-slots (turn_put c) (ticked_put c) (limit_put c) c.if-after-eq-SCHED_RR.false c.reached-e.result c.reached-e.ensures _ _ _ c.loop-j.amounts _ c.put_entry.ensures.1;
      lists-is = c.send_down.ensures.0;
    }

pub word_after-waiting-requires-in-loop-j : goal.word_after-waiting-requires-in-loop-j
word_after-waiting-requires-in-loop-j c = head_small (goal.at.word_after-waiting-requires-in-loop-j c).After-from-i

pub overflow_mul-d : goal.overflow_mul-d
overflow_mul-d c = omega (arith, head_small (goal.at.overflow_mul-d c).After-from-i)

pub offset_bounds-dues-i : goal.offset_bounds-dues-i
offset_bounds-dues-i c = omega (arith, head_small (goal.at.offset_bounds-dues-i c).After-from-i)

pub bounds-dues-i : goal.bounds-dues-i
bounds-dues-i c = omega (arith, head_small (goal.at.bounds-dues-i c).After-from-i)

pub loop-j-smaller : goal.loop-j-smaller
loop-j-smaller c =
    let w = (goal.at.loop-j-smaller c).After-put_entry in
    (limit-turn (turn_put w) (ticked_put w) (limit_put w) c.if-after-eq-SCHED_RR.false c.reached-e.result c.reached-e.ensures (written w)).1

pub loop-j-preserved : goal.loop-j-preserved
loop-j-preserved c =
    let g = goal.at.loop-j-preserved c in
    let w = g.After-put_entry in
    let m = head_small g.After-from-i in
    record {
      going = (limit-turn (turn_put w) (ticked_put w) (limit_put w) c.if-after-eq-SCHED_RR.false c.reached-e.result c.reached-e.ensures (written w)).0;
      telling =
          subst⁻¹ (Telling (whole c.args.s c.args.dues.now c.args.amounts.now) c.args.t _) c.put_entry.ensures.2
          (limit-told (turn_put w) (ticked_put w) (limit_put w) c.if-after-eq-SCHED_RR.false c.reached-e.result c.reached-e.ensures (written w) _ c.loop-j.invariant.telling);
      named = c.word_after-waiting-in-loop-j.ensures c.loop-j.s.counts (omega (tests, m, c.loop-j.invariant.going.mid.sizes)) c.loop-j.invariant.named;
      first = limit-due (turn_put w) (ticked_put w) (limit_put w) c.if-after-eq-SCHED_RR.false c.reached-e.result c.reached-e.ensures (written w) c.after_limit-x.result c.after_limit-x.ensures;
    }

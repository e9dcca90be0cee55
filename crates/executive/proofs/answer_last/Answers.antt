-- `executive::answer_last` meets its contract: each turn either begins an event, judges a set that carries an account over, passes time,
-- does what the event does, or gives the answer to the last.
use Prim.Native.Nat.{ℕ, ◌+◌, ◌-◌, ◌≤◌, ◌<◌, ◌^◌}
use mathlib.Core.Bool.{true, false}
use mathlib.Core.Path.{◌≡◌, refl, sym, ap, ap₂, ◌∙◌, subst⁻¹}
use native.Mathlib.Omega.{arith}
use lib.Dec.{eqb}
use Rattle.std.proofs.Common.{is_some}
use mathlib.Core.List.{List}
use lib.ListN.{set}
use Rattle.base.proofs.TestLaws.{tests, cond-true, cond-false, false-true}
use Rattle.passing.specs.Time.{due_by}
use Rattle.reports.specs.Tallies.{back_tally, more_of}
use Rattle.reports.proofs.TellLaws.{none_told}
use Rattle.thread.specs.declared.Thread.{Thread}
use Rattle.state.specs.declared.State.{State}
use Rattle.state.specs.State.{thread_at}
use Rattle.state.specs.Updates.{state_of, whole}
use Rattle.state.proofs.SoundLaws.{state-out}
use Rattle.ticks.specs.Running.{next}
use Rattle.moments.specs.Moments.{passed}
use Rattle.moments.proofs.SeenLaws.{seen-held}
use Rattle.moments.proofs.AdvanceLaws.{Turn, is-next, rest-fits, rest-idle, last}
use Rattle.moments.proofs.AnswerLaws.{head-below, next-requires}
use Rattle.events.specs.Events.{happened}
use Rattle.events.specs.Reports.{own_back, event_numbers}
use Rattle.answers.specs.declared.Answer.{Answer}
use Rattle.answers.specs.Answer.{answer_of, parts_of}
use Rattle.answers.proofs.AnswerLaws.{answered-is}
use Rattle.executive.specs.declared.statuses.Stand.{Stand}
use Rattle.executive.specs.Steps.{answer_to, numbers_of}
use Rattle.executive.proofs.ToldLaws.{told-clock, own-requires, told-own}
use Rattle.executive.proofs.CarryLaws.{turn_of, now-status}
use Rattle.executive.proofs.StepLaws.{Stage, unsound-is, unsound-told, arrives, allowed, at-time, weight, turn-ends, turn-passes, turn-judges, judged, finishes}
use Rattle.executive.proofs.LastLaws.{At, Coming, follows-one, runs-is, own-none, fits, same_left, less-left, begins, coming, before, untold, settles, passes, bounded, nexts, lasts, alone}
use Rattle.executive.proofs.DoneLaws.{Concerns, happened-none, who-is, change-small, change-requires, set-requires, change-is}
use Rattle.executive.proofs.DoneLaws as laws
use Rattle.executive.proofs.answer_last.Goals as goal
use Rattle.executive.proofs.answer_last.Goals.{After-from-i, After-begun-stand-then-stand, Else-stand, Then-due_by, After-judged-stand, After-from-w, After-charged_idle, After-from-j}

-- ---- before the first turn

pub clear-requires : goal.clear-requires
clear-requires c = c.requires.1

pub tested-requires : goal.tested-requires
tested-requires c = (c.requires.0, refl, refl)

pub returns-then-not-tested : goal.returns-then-not-tested
returns-then-not-tested c =
    let a = c.args in
    let f = sym c.tested.ensures ∙ c.if-not-tested.true in
    let y = alone a.known (whole c.args.s c.args.dues.now c.args.amounts.now) a.e a.file.now a.offset a.left c.requires.0 f c.requires.2 in
    record {
      amounts_after = ap (λ (r : Answer). answer_of r a.dues.now a.amounts.now) (c.nothing_runs.ensures ∙ ap (λ (k : ℕ). parts_of k 255 0 a.s) c.from.ensures) ∙ unsound-is (whole c.args.s c.args.dues.now c.args.amounts.now) a.e f ∙ ap answer_to y;
      numbers = c.clear.ensures ∙ unsound-told (whole c.args.s c.args.dues.now c.args.amounts.now) a.e f ∙ ap numbers_of y;
    }

pub offset_bounds-s-index : goal.offset_bounds-s-index
offset_bounds-s-index c = fits _ c.index.ensures.0

pub bounds-s-index : goal.bounds-s-index
bounds-s-index c = c.index.ensures.0

pub loop-stand-init : goal.loop-stand-init
loop-stand-init c =
    record {
      origin = (whole c.args.s c.args.dues.now c.args.amounts.now);
      stage = begins (whole c.args.s c.args.dues.now c.args.amounts.now) c.args.e (sym c.tested.ensures ∙ c.if-not-tested.false) _ c.index.ensures.1 _ c.begun-stand.ensures _ c.clear.ensures;
      same = refl;
      silent = λ _ _. c.clear.ensures;
    }

-- ---- a turn

pub overflow_cast-n : goal.overflow_cast-n
overflow_cast-n c = let h = (state-out (whole c.loop-stand.s c.loop-stand.dues c.loop-stand.amounts) c.loop-stand.invariant.stage.sound) in omega (tests, h.sizes)

pub head_at-h-requires : goal.head_at-h-requires
head_at-h-requires c = seen-held (λ i. (whole c.loop-stand.s c.loop-stand.dues c.loop-stand.amounts).now) (whole c.loop-stand.s c.loop-stand.dues c.loop-stand.amounts) (state-out (whole c.loop-stand.s c.loop-stand.dues c.loop-stand.amounts) c.loop-stand.invariant.stage.sound) _ c.highest-level.ensures

-- the head is a thread number
head_small : (c : After-from-i) → c.from-i.result < 32
head_small c = head-below (whole c.loop-stand.s c.loop-stand.dues c.loop-stand.amounts) (state-out (whole c.loop-stand.s c.loop-stand.dues c.loop-stand.amounts) c.loop-stand.invariant.stage.sound) _ _ _ c.highest-level.ensures c.head_at-h.ensures c.from-i.ensures

pub offset_bounds-s-i : goal.offset_bounds-s-i
offset_bounds-s-i c = fits _ (head_small (goal.at.offset_bounds-s-i c).After-from-i)

pub bounds-s-i : goal.bounds-s-i
bounds-s-i c = head_small (goal.at.bounds-s-i c).After-from-i

pub next_moment-next-requires : goal.next_moment-next-requires
next_moment-next-requires c = next-requires (whole c.loop-stand.s c.loop-stand.dues c.loop-stand.amounts) (state-out (whole c.loop-stand.s c.loop-stand.dues c.loop-stand.amounts) c.loop-stand.invariant.stage.sound) _ _ _ c.highest-level.ensures c.head_at-h.ensures c.from-i.ensures

-- ---- the event is answered

pub following-requires : goal.following-requires
following-requires c = c.loop-stand.invariant.silent

pub returns-in_default : goal.returns-in_default
returns-in_default c =
    let y = lasts _ _ c.loop-stand.e _ _ c.loop-stand.stand (whole c.loop-stand.s c.loop-stand.dues c.loop-stand.amounts) _ c.loop-stand.invariant c.if-stand.true (sym c.following.ensures.value ∙ c.in_default.is) in
    let p = c.highest-level.ensures in
    let h = c.head_at-h.ensures in
    record {
      amounts_after = ap (λ (r : Answer). answer_of r c.loop-stand.dues c.loop-stand.amounts) c.answer_of.ensures
          ∙ answered-is _ (whole c.loop-stand.s c.loop-stand.dues c.loop-stand.amounts) c.loop-stand.invariant.stage.sound _ _ _ p h c.from-i.ensures _ _ (c.runs.ensures ∙ runs-is (whole c.loop-stand.s c.loop-stand.dues c.loop-stand.amounts) _ _ p h) c.next_moment-next.ensures
          ∙ y.0;
      numbers = c.following.ensures.told_after ∙ cond-false _ _ _ (ap is_some c.in_default.is) ∙ y.1;
    }

pub overflow_sub-left : goal.overflow_sub-left
overflow_sub-left c = omega (arith, (follows-one c.args.file.now c.loop-stand.offset c.loop-stand.left c.in-Some.event c.in-Some.after (sym c.following.ensures.value ∙ c.in-Some.is)).0)

pub offset_bounds-s-index-then-stand : goal.offset_bounds-s-index-then-stand
offset_bounds-s-index-then-stand c = fits _ c.index-then-stand.ensures.0

pub bounds-s-index-then-stand : goal.bounds-s-index-then-stand
bounds-s-index-then-stand c = c.index-then-stand.ensures.0

-- the next one begins
starts : (c : After-begun-stand-then-stand) → At (whole c.loop-stand.s c.loop-stand.dues c.loop-stand.amounts) c.in-Some.event c.begun-stand-then-stand.result (whole c.loop-stand.s c.loop-stand.dues c.loop-stand.amounts) c.following.new.told
starts c =
    begins (whole c.loop-stand.s c.loop-stand.dues c.loop-stand.amounts) _ c.loop-stand.invariant.stage.sound _ c.index-then-stand.ensures.1 _ c.begun-stand-then-stand.ensures _ (c.following.ensures.told_after ∙ cond-true _ _ _ (ap is_some c.in-Some.is))

pub loop-stand-smaller-then-stand : goal.loop-stand-smaller-then-stand
loop-stand-smaller-then-stand c =
    let t = starts (goal.at.loop-stand-smaller-then-stand c).After-begun-stand-then-stand in
    less-left _ _ _ (follows-one c.args.file.now c.loop-stand.offset c.loop-stand.left c.in-Some.event c.in-Some.after (sym c.following.ensures.value ∙ c.in-Some.is)).0 (bounded _ _ c.begun-stand-then-stand.result _ _ t)

pub loop-stand-preserved-then-stand : goal.loop-stand-preserved-then-stand
loop-stand-preserved-then-stand c =
    let t = starts (goal.at.loop-stand-preserved-then-stand c).After-begun-stand-then-stand in
    nexts _ _ c.loop-stand.e _ _ c.loop-stand.stand (whole c.loop-stand.s c.loop-stand.dues c.loop-stand.amounts) _ c.loop-stand.invariant c.if-stand.true c.in-Some.event c.in-Some.after (sym c.following.ensures.value ∙ c.in-Some.is) _ _ t (c.following.ensures.told_after ∙ cond-true _ _ _ (ap is_some c.in-Some.is))

-- ---- the event is still to come

ahead : (c : Else-stand) → Coming (whole c.loop-stand.s c.loop-stand.dues c.loop-stand.amounts) c.loop-stand.e
ahead c = (coming c.loop-stand.invariant.origin c.loop-stand.e c.loop-stand.stand (whole c.loop-stand.s c.loop-stand.dues c.loop-stand.amounts) _ c.loop-stand.invariant.stage c.if-stand.false)

-- what is known once the next moment is
abbrev turn : Else-stand → Turn
turn c = (turn_of (whole c.loop-stand.s c.loop-stand.dues c.loop-stand.amounts) (state-out (whole c.loop-stand.s c.loop-stand.dues c.loop-stand.amounts) c.loop-stand.invariant.stage.sound) c.loop-stand.e.time (coming c.loop-stand.invariant.origin c.loop-stand.e c.loop-stand.stand (whole c.loop-stand.s c.loop-stand.dues c.loop-stand.amounts) _ c.loop-stand.invariant.stage c.if-stand.false).top (coming c.loop-stand.invariant.origin c.loop-stand.e c.loop-stand.stand (whole c.loop-stand.s c.loop-stand.dues c.loop-stand.amounts) _ c.loop-stand.invariant.stage c.if-stand.false).by _ _ _ c.next_moment-next.result c.highest-level.ensures c.head_at-h.ensures c.from-i.ensures c.next_moment-next.ensures)

-- ---- a moment is due by its time

is-due : (c : Then-due_by) → due_by (next (whole c.loop-stand.s c.loop-stand.dues c.loop-stand.amounts)) c.loop-stand.e.time ≡ true
is-due c = ap (λ (m : ℕ). due_by m c.loop-stand.e.time) (sym (is-next (turn_of (whole c.loop-stand.s c.loop-stand.dues c.loop-stand.amounts) (state-out (whole c.loop-stand.s c.loop-stand.dues c.loop-stand.amounts) c.loop-stand.invariant.stage.sound) c.loop-stand.e.time (coming c.loop-stand.invariant.origin c.loop-stand.e c.loop-stand.stand (whole c.loop-stand.s c.loop-stand.dues c.loop-stand.amounts) _ c.loop-stand.invariant.stage c.if-stand.false).top (coming c.loop-stand.invariant.origin c.loop-stand.e c.loop-stand.stand (whole c.loop-stand.s c.loop-stand.dues c.loop-stand.amounts) _ c.loop-stand.invariant.stage c.if-stand.false).by _ _ _ c.next_moment-next.result c.highest-level.ensures c.head_at-h.ensures c.from-i.ensures c.next_moment-next.ensures))) ∙ sym c.due_by.ensures ∙ c.if-due_by.true

pub advance-then-requires : goal.advance-then-requires
advance-then-requires c =
    let g = goal.at.advance-then-requires c in
    let a = ahead g.Else-stand in
    (a.sound, a.by, a.top, a.near, untold c.loop-stand.invariant.origin c.loop-stand.e c.loop-stand.stand (whole c.loop-stand.s c.loop-stand.dues c.loop-stand.amounts) _ c.loop-stand.invariant.stage c.if-stand.false (is-due g.Then-due_by))

pub judged-stand-requires : goal.judged-stand-requires
judged-stand-requires c = λ j. (c.loop-stand.invariant.stage.judges c.if-stand.false j).2.there

-- the event as it then stands
settled : (c : After-judged-stand) → At c.loop-stand.invariant.origin c.loop-stand.e c.judged-stand.result (whole c.loop-stand.s c.loop-stand.dues c.loop-stand.amounts) c.loop-stand.told × (c.judged-stand.result.judging ≡ false)
    × (c.judged-stand.result.done ≡ true → c.loop-stand.stand.judging ≡ true) × (c.judged-stand.result.quiet ≡ false)
settled c = settles c.loop-stand.invariant.origin c.loop-stand.e c.loop-stand.stand (whole c.loop-stand.s c.loop-stand.dues c.loop-stand.amounts) _ c.loop-stand.invariant.stage c.if-stand.false _ c.advance-then.ensures.amounts_after _ c.judged-stand.ensures

pub loop-stand-smaller-then-stand-2 : goal.loop-stand-smaller-then-stand-2
loop-stand-smaller-then-stand-2 c =
    let r = c.judged-stand.result in
    let n = c.loop-stand.e.time - c.loop-stand.s.now in
    let y = settled (goal.at.loop-stand-smaller-then-stand-2 c).After-judged-stand in
    same_left _ (turn-ends c.loop-stand.stand.done c.loop-stand.stand.judging r.done r.judging n n c.if-stand.false c.if-stand-2.true (λ q. false-true (sym y.1 ∙ q)))

pub loop-stand-preserved-then-stand-2 : goal.loop-stand-preserved-then-stand-2
loop-stand-preserved-then-stand-2 c =
    let g = goal.at.loop-stand-preserved-then-stand-2 c in
    let y = settled g.After-judged-stand in
    let b = y.2 c.if-stand-2.true in
    let back = c.put_back.ensures in
    let slots = ap₂ (whole c.loop-stand.s) (back.0 ∙ c.kept-kept_dues.ensures b) (back.1 ∙ c.kept-kept_amounts.ensures b) in
    let told = back.2 ∙ sym (untold c.loop-stand.invariant.origin c.loop-stand.e c.loop-stand.stand (whole c.loop-stand.s c.loop-stand.dues c.loop-stand.amounts) _ c.loop-stand.invariant.stage c.if-stand.false (is-due g.Then-due_by)) in
    record {
      origin = c.loop-stand.invariant.origin;
      stage = subst⁻¹ (λ (x : State). At c.loop-stand.invariant.origin c.loop-stand.e c.judged-stand.result x c.put_back.new.told) slots
          (subst⁻¹ (λ (x : List ℕ). At c.loop-stand.invariant.origin c.loop-stand.e c.judged-stand.result (whole c.loop-stand.s c.loop-stand.dues c.loop-stand.amounts) x) told y.0);
      same = c.loop-stand.invariant.same;
      silent = λ _ _. back.2;
    }

pub loop-stand-smaller-then-due_by : goal.loop-stand-smaller-then-due_by
loop-stand-smaller-then-due_by c =
    let g = goal.at.loop-stand-smaller-then-due_by c in
    let r = c.judged-stand.result in
    let y = settled g.After-judged-stand in
    let o = (y.0.going c.if-stand-2.false y.1).1 in
    let b = before c.loop-stand.invariant.origin c.loop-stand.e c.loop-stand.stand (whole c.loop-stand.s c.loop-stand.dues c.loop-stand.amounts) _ c.loop-stand.invariant.stage c.if-stand.false (is-due g.Then-due_by) in
    let a = at-time c.loop-stand.invariant.origin c.loop-stand.e (whole c.loop-stand.s c.loop-stand.dues c.loop-stand.amounts) o _ c.advance-then.ensures.amounts_after in
    same_left _ (turn-passes c.loop-stand.stand.done c.loop-stand.stand.judging r.done r.judging c.loop-stand.e.time c.loop-stand.s.now c.advance-then.result.now c.if-stand.false c.if-stand-2.false y.1 b a)

pub loop-stand-preserved-then-due_by : goal.loop-stand-preserved-then-due_by
loop-stand-preserved-then-due_by c =
    let g = goal.at.loop-stand-preserved-then-due_by c in
    let y = settled g.After-judged-stand in
    record {
      origin = c.loop-stand.invariant.origin;
      stage = passes c.loop-stand.invariant.origin c.loop-stand.e c.loop-stand.stand (whole c.loop-stand.s c.loop-stand.dues c.loop-stand.amounts) _ c.loop-stand.invariant.stage c.if-stand.false _ c.advance-then.ensures.amounts_after _ c.judged-stand.ensures (is-due g.Then-due_by) c.if-stand-2.false _ c.advance-then.ensures.numbers;
      same = c.loop-stand.invariant.same;
      silent = λ q. false-true (sym y.3 ∙ q);
    }

-- ---- no moment is

there : (c : After-from-w) → c.from-w.result < 32
there c = omega (arith, c.from-w.ensures, (c.loop-stand.invariant.stage.judges c.if-stand.false c.if-stand-3.true).2.there)

pub offset_bounds-s-w : goal.offset_bounds-s-w
offset_bounds-s-w c = fits _ (there (goal.at.offset_bounds-s-w c).After-from-w)

pub bounds-s-w : goal.bounds-s-w
bounds-s-w c = there (goal.at.bounds-s-w c).After-from-w

pub bounds-s-w-then-stand-3 : goal.bounds-s-w-then-stand-3
bounds-s-w-then-stand-3 c = there (goal.at.bounds-s-w-then-stand-3 c).After-from-w

pub judged_now-stand-requires : goal.judged_now-stand-requires
judged_now-stand-requires c =
    let u = (goal.at.judged_now-stand-requires c).Else-stand in
    let k = c.loop-stand.e.time - c.loop-stand.s.now in
    let p = c.highest-level.result in (
      (ahead u).by,
      λ q. subst⁻¹ (λ (x : Thread). eqb p 0 ≡ false → (x.total + k < 2 ^ 64) × (x.server.used + k < 2 ^ 64) × (x.parameters.policy ≡ 1 → k ≤ x.left)
          × (1 < x.parameters.policy → p ≡ x.parameters.priority → k ≤ x.server.capacity))
          (ap (thread_at (whole c.loop-stand.s c.loop-stand.dues c.loop-stand.amounts)) (c.from-w.ensures ∙ sym q ∙ sym c.from-i.ensures)) (rest-fits (turn u) (sym c.due_by.ensures ∙ c.if-due_by.false)),
    )

pub loop-stand-smaller-then-stand-3 : goal.loop-stand-smaller-then-stand-3
loop-stand-smaller-then-stand-3 c =
    same_left _ (turn-judges _ _ c.judged_now-stand.result.done _ (c.loop-stand.e.time - c.loop-stand.s.now) c.if-stand.false c.if-stand-3.true (ap (λ (x : Stand). x.judging) c.judged_now-stand.ensures))

pub loop-stand-preserved-then-stand-3 : goal.loop-stand-preserved-then-stand-3
loop-stand-preserved-then-stand-3 c =
    let g = goal.at.loop-stand-preserved-then-stand-3 c in
    let m = head_small g.After-from-i in
    let h = (state-out (whole c.loop-stand.s c.loop-stand.dues c.loop-stand.amounts) c.loop-stand.invariant.stage.sound) in
    let j = c.loop-stand.invariant.stage.judges c.if-stand.false c.if-stand-3.true in
    let y = now-status (turn g.Else-stand) (sym c.due_by.ensures ∙ c.if-due_by.false) (omega (tests, h.sizes, m)) c.loop-stand.e _ _ c.from-w.ensures c.from-i.ensures in
    record {
      origin = c.loop-stand.invariant.origin;
      stage = subst⁻¹ (λ (z : Stand). At c.loop-stand.invariant.origin c.loop-stand.e z (whole c.loop-stand.s c.loop-stand.dues c.loop-stand.amounts) c.loop-stand.told) c.judged_now-stand.ensures (judged c.loop-stand.invariant.origin (whole c.loop-stand.s c.loop-stand.dues c.loop-stand.amounts) c.loop-stand.e _ j _ y);
      same = c.loop-stand.invariant.same;
      silent = λ _ _. j.1;
    }

-- ---- the event is accepted

pub overflow_sub-k : goal.overflow_sub-k
overflow_sub-k c = (ahead (goal.at.overflow_sub-k c).Else-stand).by

pub charged_thread-requires : goal.charged_thread-requires
charged_thread-requires c = rest-fits (turn (goal.at.charged_thread-requires c).Else-stand) (sym c.due_by.ensures ∙ c.if-due_by.false)

pub offset_bounds-s-i-in-loop-stand : goal.offset_bounds-s-i-in-loop-stand
offset_bounds-s-i-in-loop-stand c = fits _ (head_small (goal.at.offset_bounds-s-i-in-loop-stand c).After-from-i)

pub bounds-s-i-in-loop-stand : goal.bounds-s-i-in-loop-stand
bounds-s-i-in-loop-stand c = head_small (goal.at.bounds-s-i-in-loop-stand c).After-from-i

pub charged_idle-requires : goal.charged_idle-requires
charged_idle-requires c = rest-idle (turn (goal.at.charged_idle-requires c).Else-stand)

-- the state at the event's time is the one that passing time gives
has-passed : (c : After-charged_idle) → (state_of (whole c.loop-stand.s c.loop-stand.dues c.loop-stand.amounts).header c.loop-stand.e.time c.charged_idle.result (whole c.loop-stand.s c.loop-stand.dues c.loop-stand.amounts).word (set (whole c.loop-stand.s c.loop-stand.dues c.loop-stand.amounts).threads c.from-i.result c.charged_thread.result) (whole c.loop-stand.s c.loop-stand.dues c.loop-stand.amounts).counts (whole c.loop-stand.s c.loop-stand.dues c.loop-stand.amounts).dues (whole c.loop-stand.s c.loop-stand.dues c.loop-stand.amounts).amounts (whole c.loop-stand.s c.loop-stand.dues c.loop-stand.amounts).lists) ≡ passed (whole c.loop-stand.s c.loop-stand.dues c.loop-stand.amounts) c.loop-stand.e.time
has-passed c = (last (turn_of (whole c.loop-stand.s c.loop-stand.dues c.loop-stand.amounts) (state-out (whole c.loop-stand.s c.loop-stand.dues c.loop-stand.amounts) c.loop-stand.invariant.stage.sound) c.loop-stand.e.time (coming c.loop-stand.invariant.origin c.loop-stand.e c.loop-stand.stand (whole c.loop-stand.s c.loop-stand.dues c.loop-stand.amounts) _ c.loop-stand.invariant.stage c.if-stand.false).top (coming c.loop-stand.invariant.origin c.loop-stand.e c.loop-stand.stand (whole c.loop-stand.s c.loop-stand.dues c.loop-stand.amounts) _ c.loop-stand.invariant.stage c.if-stand.false).by _ _ _ c.next_moment-next.result c.highest-level.ensures c.head_at-h.ensures c.from-i.ensures c.next_moment-next.ensures) (sym c.due_by.ensures ∙ c.if-due_by.false) c.charged_idle.result c.charged_thread.result c.charged_idle.ensures c.charged_thread.ensures)

-- what the event leaves, with what it tells
finished : (c : After-charged_idle) (told : List ℕ) → told ≡ event_numbers c.loop-stand.invariant.origin c.loop-stand.e → (r : State) → r ≡ happened (state_of (whole c.loop-stand.s c.loop-stand.dues c.loop-stand.amounts).header c.loop-stand.e.time c.charged_idle.result (whole c.loop-stand.s c.loop-stand.dues c.loop-stand.amounts).word (set (whole c.loop-stand.s c.loop-stand.dues c.loop-stand.amounts).threads c.from-i.result c.charged_thread.result) (whole c.loop-stand.s c.loop-stand.dues c.loop-stand.amounts).counts (whole c.loop-stand.s c.loop-stand.dues c.loop-stand.amounts).dues (whole c.loop-stand.s c.loop-stand.dues c.loop-stand.amounts).amounts (whole c.loop-stand.s c.loop-stand.dues c.loop-stand.amounts).lists) c.loop-stand.e
    → Stage c.loop-stand.invariant.origin c.loop-stand.e c.loop-stand.stand.status r told true c.loop-stand.stand.judging
finished c told m r g = let y = (c.loop-stand.invariant.stage.going c.if-stand.false c.if-stand-3.false) in finishes _ c.loop-stand.e _ (whole c.loop-stand.s c.loop-stand.dues c.loop-stand.amounts) y.0 y.1 (state_of (whole c.loop-stand.s c.loop-stand.dues c.loop-stand.amounts).header c.loop-stand.e.time c.charged_idle.result (whole c.loop-stand.s c.loop-stand.dues c.loop-stand.amounts).word (set (whole c.loop-stand.s c.loop-stand.dues c.loop-stand.amounts).threads c.from-i.result c.charged_thread.result) (whole c.loop-stand.s c.loop-stand.dues c.loop-stand.amounts).counts (whole c.loop-stand.s c.loop-stand.dues c.loop-stand.amounts).dues (whole c.loop-stand.s c.loop-stand.dues c.loop-stand.amounts).amounts (whole c.loop-stand.s c.loop-stand.dues c.loop-stand.amounts).lists) (last (turn_of (whole c.loop-stand.s c.loop-stand.dues c.loop-stand.amounts) (state-out (whole c.loop-stand.s c.loop-stand.dues c.loop-stand.amounts) c.loop-stand.invariant.stage.sound) c.loop-stand.e.time (coming c.loop-stand.invariant.origin c.loop-stand.e c.loop-stand.stand (whole c.loop-stand.s c.loop-stand.dues c.loop-stand.amounts) _ c.loop-stand.invariant.stage c.if-stand.false).top (coming c.loop-stand.invariant.origin c.loop-stand.e c.loop-stand.stand (whole c.loop-stand.s c.loop-stand.dues c.loop-stand.amounts) _ c.loop-stand.invariant.stage c.if-stand.false).by _ _ _ c.next_moment-next.result c.highest-level.ensures c.head_at-h.ensures c.from-i.ensures c.next_moment-next.ensures) (sym c.due_by.ensures ∙ c.if-due_by.false) c.charged_idle.result c.charged_thread.result c.charged_idle.ensures c.charged_thread.ensures) _ told m r g

ends : (c : After-charged_idle) (n : ℕ) → weight true c.loop-stand.stand.judging n < weight c.loop-stand.stand.done c.loop-stand.stand.judging (c.loop-stand.e.time - c.loop-stand.s.now)
ends c n = turn-ends _ c.loop-stand.stand.judging true _ _ n c.if-stand.false refl (λ q. q)

pub loop-stand-smaller-then-e-eq-CLOCK : goal.loop-stand-smaller-then-e-eq-CLOCK
loop-stand-smaller-then-e-eq-CLOCK c = same_left _ (ends (goal.at.loop-stand-smaller-then-e-eq-CLOCK c).After-charged_idle (c.loop-stand.e.time - c.loop-stand.e.time))

pub loop-stand-preserved-then-e-eq-CLOCK : goal.loop-stand-preserved-then-e-eq-CLOCK
loop-stand-preserved-then-e-eq-CLOCK c =
    let b = (goal.at.loop-stand-preserved-then-e-eq-CLOCK c).After-charged_idle in
    let y = (c.loop-stand.invariant.stage.going c.if-stand.false c.if-stand-3.false) in
    record {
      origin = c.loop-stand.invariant.origin;
      stage = finished b _ (told-clock _ c.loop-stand.e y.1.accepted _ _ y.2 (ap (λ (m : ℕ). due_by m c.loop-stand.e.time) (sym (is-next (turn_of (whole c.loop-stand.s c.loop-stand.dues c.loop-stand.amounts) (state-out (whole c.loop-stand.s c.loop-stand.dues c.loop-stand.amounts) c.loop-stand.invariant.stage.sound) c.loop-stand.e.time (coming c.loop-stand.invariant.origin c.loop-stand.e c.loop-stand.stand (whole c.loop-stand.s c.loop-stand.dues c.loop-stand.amounts) _ c.loop-stand.invariant.stage c.if-stand.false).top (coming c.loop-stand.invariant.origin c.loop-stand.e c.loop-stand.stand (whole c.loop-stand.s c.loop-stand.dues c.loop-stand.amounts) _ c.loop-stand.invariant.stage c.if-stand.false).by _ _ _ c.next_moment-next.result c.highest-level.ensures c.head_at-h.ensures c.from-i.ensures c.next_moment-next.ensures))) ∙ (sym c.due_by.ensures ∙ c.if-due_by.false)) c.if-e-eq-CLOCK.true) (state_of (whole c.loop-stand.s c.loop-stand.dues c.loop-stand.amounts).header c.loop-stand.e.time c.charged_idle.result (whole c.loop-stand.s c.loop-stand.dues c.loop-stand.amounts).word (set (whole c.loop-stand.s c.loop-stand.dues c.loop-stand.amounts).threads c.from-i.result c.charged_thread.result) (whole c.loop-stand.s c.loop-stand.dues c.loop-stand.amounts).counts (whole c.loop-stand.s c.loop-stand.dues c.loop-stand.amounts).dues (whole c.loop-stand.s c.loop-stand.dues c.loop-stand.amounts).amounts (whole c.loop-stand.s c.loop-stand.dues c.loop-stand.amounts).lists) (happened-none (state_of (whole c.loop-stand.s c.loop-stand.dues c.loop-stand.amounts).header c.loop-stand.e.time c.charged_idle.result (whole c.loop-stand.s c.loop-stand.dues c.loop-stand.amounts).word (set (whole c.loop-stand.s c.loop-stand.dues c.loop-stand.amounts).threads c.from-i.result c.charged_thread.result) (whole c.loop-stand.s c.loop-stand.dues c.loop-stand.amounts).counts (whole c.loop-stand.s c.loop-stand.dues c.loop-stand.amounts).dues (whole c.loop-stand.s c.loop-stand.dues c.loop-stand.amounts).amounts (whole c.loop-stand.s c.loop-stand.dues c.loop-stand.amounts).lists) c.loop-stand.e c.if-e-eq-CLOCK.true);
      same = c.loop-stand.invariant.same;
      silent = c.loop-stand.invariant.silent;
    }

concerns : (c : After-from-j) → Concerns (state_of (whole c.loop-stand.s c.loop-stand.dues c.loop-stand.amounts).header c.loop-stand.e.time c.charged_idle.result (whole c.loop-stand.s c.loop-stand.dues c.loop-stand.amounts).word (set (whole c.loop-stand.s c.loop-stand.dues c.loop-stand.amounts).threads c.from-i.result c.charged_thread.result) (whole c.loop-stand.s c.loop-stand.dues c.loop-stand.amounts).counts (whole c.loop-stand.s c.loop-stand.dues c.loop-stand.amounts).dues (whole c.loop-stand.s c.loop-stand.dues c.loop-stand.amounts).amounts (whole c.loop-stand.s c.loop-stand.dues c.loop-stand.amounts).lists) c.loop-stand.e c.concerned-number.result c.from-j.result
concerns c =
    let y = (c.loop-stand.invariant.stage.going c.if-stand.false c.if-stand-3.false) in
    let o = arrives _ c.loop-stand.e (whole c.loop-stand.s c.loop-stand.dues c.loop-stand.amounts) y.1 (state_of (whole c.loop-stand.s c.loop-stand.dues c.loop-stand.amounts).header c.loop-stand.e.time c.charged_idle.result (whole c.loop-stand.s c.loop-stand.dues c.loop-stand.amounts).word (set (whole c.loop-stand.s c.loop-stand.dues c.loop-stand.amounts).threads c.from-i.result c.charged_thread.result) (whole c.loop-stand.s c.loop-stand.dues c.loop-stand.amounts).counts (whole c.loop-stand.s c.loop-stand.dues c.loop-stand.amounts).dues (whole c.loop-stand.s c.loop-stand.dues c.loop-stand.amounts).amounts (whole c.loop-stand.s c.loop-stand.dues c.loop-stand.amounts).lists) (last (turn_of (whole c.loop-stand.s c.loop-stand.dues c.loop-stand.amounts) (state-out (whole c.loop-stand.s c.loop-stand.dues c.loop-stand.amounts) c.loop-stand.invariant.stage.sound) c.loop-stand.e.time (coming c.loop-stand.invariant.origin c.loop-stand.e c.loop-stand.stand (whole c.loop-stand.s c.loop-stand.dues c.loop-stand.amounts) _ c.loop-stand.invariant.stage c.if-stand.false).top (coming c.loop-stand.invariant.origin c.loop-stand.e c.loop-stand.stand (whole c.loop-stand.s c.loop-stand.dues c.loop-stand.amounts) _ c.loop-stand.invariant.stage c.if-stand.false).by _ _ _ c.next_moment-next.result c.highest-level.ensures c.head_at-h.ensures c.from-i.ensures c.next_moment-next.ensures) (sym c.due_by.ensures ∙ c.if-due_by.false) c.charged_idle.result c.charged_thread.result c.charged_idle.ensures c.charged_thread.ensures) in
    let f = allowed _ c.loop-stand.e (whole c.loop-stand.s c.loop-stand.dues c.loop-stand.amounts) y.1 (state_of (whole c.loop-stand.s c.loop-stand.dues c.loop-stand.amounts).header c.loop-stand.e.time c.charged_idle.result (whole c.loop-stand.s c.loop-stand.dues c.loop-stand.amounts).word (set (whole c.loop-stand.s c.loop-stand.dues c.loop-stand.amounts).threads c.from-i.result c.charged_thread.result) (whole c.loop-stand.s c.loop-stand.dues c.loop-stand.amounts).counts (whole c.loop-stand.s c.loop-stand.dues c.loop-stand.amounts).dues (whole c.loop-stand.s c.loop-stand.dues c.loop-stand.amounts).amounts (whole c.loop-stand.s c.loop-stand.dues c.loop-stand.amounts).lists) (last (turn_of (whole c.loop-stand.s c.loop-stand.dues c.loop-stand.amounts) (state-out (whole c.loop-stand.s c.loop-stand.dues c.loop-stand.amounts) c.loop-stand.invariant.stage.sound) c.loop-stand.e.time (coming c.loop-stand.invariant.origin c.loop-stand.e c.loop-stand.stand (whole c.loop-stand.s c.loop-stand.dues c.loop-stand.amounts) _ c.loop-stand.invariant.stage c.if-stand.false).top (coming c.loop-stand.invariant.origin c.loop-stand.e c.loop-stand.stand (whole c.loop-stand.s c.loop-stand.dues c.loop-stand.amounts) _ c.loop-stand.invariant.stage c.if-stand.false).by _ _ _ c.next_moment-next.result c.highest-level.ensures c.head_at-h.ensures c.from-i.ensures c.next_moment-next.ensures) (sym c.due_by.ensures ∙ c.if-due_by.false) c.charged_idle.result c.charged_thread.result c.charged_idle.ensures c.charged_thread.ensures) in
    let l : 0 < c.loop-stand.e.kind = omega (arith, c.if-e-eq-CLOCK.false) in
    record {
      sound = o.sound;
      fields = o.fields;
      allows = f;
      some = l;
      who = who-is (state_of (whole c.loop-stand.s c.loop-stand.dues c.loop-stand.amounts).header c.loop-stand.e.time c.charged_idle.result (whole c.loop-stand.s c.loop-stand.dues c.loop-stand.amounts).word (set (whole c.loop-stand.s c.loop-stand.dues c.loop-stand.amounts).threads c.from-i.result c.charged_thread.result) (whole c.loop-stand.s c.loop-stand.dues c.loop-stand.amounts).counts (whole c.loop-stand.s c.loop-stand.dues c.loop-stand.amounts).dues (whole c.loop-stand.s c.loop-stand.dues c.loop-stand.amounts).amounts (whole c.loop-stand.s c.loop-stand.dues c.loop-stand.amounts).lists) c.loop-stand.e o.sound o.fields f l _ _ c.highest-level.ensures c.head_at-h.ensures _ c.concerned-number.ensures;
      there = c.from-j.ensures;
    }

small : (c : After-from-j) → c.from-j.result < 32
small c = change-small (state_of (whole c.loop-stand.s c.loop-stand.dues c.loop-stand.amounts).header c.loop-stand.e.time c.charged_idle.result (whole c.loop-stand.s c.loop-stand.dues c.loop-stand.amounts).word (set (whole c.loop-stand.s c.loop-stand.dues c.loop-stand.amounts).threads c.from-i.result c.charged_thread.result) (whole c.loop-stand.s c.loop-stand.dues c.loop-stand.amounts).counts (whole c.loop-stand.s c.loop-stand.dues c.loop-stand.amounts).dues (whole c.loop-stand.s c.loop-stand.dues c.loop-stand.amounts).amounts (whole c.loop-stand.s c.loop-stand.dues c.loop-stand.amounts).lists) c.loop-stand.e _ _ (concerns c)

pub offset_bounds-s-j : goal.offset_bounds-s-j
offset_bounds-s-j c = fits _ (small (goal.at.offset_bounds-s-j c).After-from-j)

pub bounds-s-j : goal.bounds-s-j
bounds-s-j c = small (goal.at.bounds-s-j c).After-from-j

pub happen-c-requires : goal.happen-c-requires
happen-c-requires c =
    let g = goal.at.happen-c-requires c in
    let k = g.After-from-j in
    let y = (c.loop-stand.invariant.stage.going c.if-stand.false c.if-stand-3.false) in
    let v = concerns k in
    let m = small k in
    let s = (state_of (whole c.loop-stand.s c.loop-stand.dues c.loop-stand.amounts).header c.loop-stand.e.time c.charged_idle.result (whole c.loop-stand.s c.loop-stand.dues c.loop-stand.amounts).word (set (whole c.loop-stand.s c.loop-stand.dues c.loop-stand.amounts).threads c.from-i.result c.charged_thread.result) (whole c.loop-stand.s c.loop-stand.dues c.loop-stand.amounts).counts (whole c.loop-stand.s c.loop-stand.dues c.loop-stand.amounts).dues (whole c.loop-stand.s c.loop-stand.dues c.loop-stand.amounts).amounts (whole c.loop-stand.s c.loop-stand.dues c.loop-stand.amounts).lists) in
    let e = c.loop-stand.e in (
      m,
      (
        v.some,
        change-requires s e _ _ v _ refl,
        set-requires s e _ _ v _ refl,
        own-requires _ e y.1.accepted _ _ y.2 (ap (λ (m : ℕ). due_by m c.loop-stand.e.time) (sym (is-next (turn_of (whole c.loop-stand.s c.loop-stand.dues c.loop-stand.amounts) (state-out (whole c.loop-stand.s c.loop-stand.dues c.loop-stand.amounts) c.loop-stand.invariant.stage.sound) c.loop-stand.e.time (coming c.loop-stand.invariant.origin c.loop-stand.e c.loop-stand.stand (whole c.loop-stand.s c.loop-stand.dues c.loop-stand.amounts) _ c.loop-stand.invariant.stage c.if-stand.false).top (coming c.loop-stand.invariant.origin c.loop-stand.e c.loop-stand.stand (whole c.loop-stand.s c.loop-stand.dues c.loop-stand.amounts) _ c.loop-stand.invariant.stage c.if-stand.false).by _ _ _ c.next_moment-next.result c.highest-level.ensures c.head_at-h.ensures c.from-i.ensures c.next_moment-next.ensures))) ∙ (sym c.due_by.ensures ∙ c.if-due_by.false)) s (last (turn_of (whole c.loop-stand.s c.loop-stand.dues c.loop-stand.amounts) (state-out (whole c.loop-stand.s c.loop-stand.dues c.loop-stand.amounts) c.loop-stand.invariant.stage.sound) c.loop-stand.e.time (coming c.loop-stand.invariant.origin c.loop-stand.e c.loop-stand.stand (whole c.loop-stand.s c.loop-stand.dues c.loop-stand.amounts) _ c.loop-stand.invariant.stage c.if-stand.false).top (coming c.loop-stand.invariant.origin c.loop-stand.e c.loop-stand.stand (whole c.loop-stand.s c.loop-stand.dues c.loop-stand.amounts) _ c.loop-stand.invariant.stage c.if-stand.false).by _ _ _ c.next_moment-next.result c.highest-level.ensures c.head_at-h.ensures c.from-i.ensures c.next_moment-next.ensures) (sym c.due_by.ensures ∙ c.if-due_by.false) c.charged_idle.result c.charged_thread.result c.charged_idle.ensures c.charged_thread.ensures) refl c.from-j.result (v.there ∙ v.who) m (state-out s v.sound) _ refl,
      ),
    )

pub offset_bounds-s-j-in-loop-stand : goal.offset_bounds-s-j-in-loop-stand
offset_bounds-s-j-in-loop-stand c = fits _ (small (goal.at.offset_bounds-s-j-in-loop-stand c).After-from-j)

pub bounds-s-j-in-loop-stand : goal.bounds-s-j-in-loop-stand
bounds-s-j-in-loop-stand c = small (goal.at.bounds-s-j-in-loop-stand c).After-from-j

pub shift-requires : goal.shift-requires
shift-requires c = laws.shift-requires (state_of (whole c.loop-stand.s c.loop-stand.dues c.loop-stand.amounts).header c.loop-stand.e.time c.charged_idle.result (whole c.loop-stand.s c.loop-stand.dues c.loop-stand.amounts).word (set (whole c.loop-stand.s c.loop-stand.dues c.loop-stand.amounts).threads c.from-i.result c.charged_thread.result) (whole c.loop-stand.s c.loop-stand.dues c.loop-stand.amounts).counts (whole c.loop-stand.s c.loop-stand.dues c.loop-stand.amounts).dues (whole c.loop-stand.s c.loop-stand.dues c.loop-stand.amounts).amounts (whole c.loop-stand.s c.loop-stand.dues c.loop-stand.amounts).lists) c.loop-stand.e _ _ (concerns (goal.at.shift-requires c).After-from-j) _ refl _ refl _ c.happen-c.ensures.value

-- all that it tells
tells : (c : After-from-j)
    → more_of c.from-j.result (back_tally (own_back c.loop-stand.e.kind c.loop-stand.e.time (thread_at (state_of (whole c.loop-stand.s c.loop-stand.dues c.loop-stand.amounts).header c.loop-stand.e.time c.charged_idle.result (whole c.loop-stand.s c.loop-stand.dues c.loop-stand.amounts).word (set (whole c.loop-stand.s c.loop-stand.dues c.loop-stand.amounts).threads c.from-i.result c.charged_thread.result) (whole c.loop-stand.s c.loop-stand.dues c.loop-stand.amounts).counts (whole c.loop-stand.s c.loop-stand.dues c.loop-stand.amounts).dues (whole c.loop-stand.s c.loop-stand.dues c.loop-stand.amounts).amounts (whole c.loop-stand.s c.loop-stand.dues c.loop-stand.amounts).lists) c.from-j.result))) c.loop-stand.told
    ≡ event_numbers c.loop-stand.invariant.origin c.loop-stand.e
tells c =
    let y = (c.loop-stand.invariant.stage.going c.if-stand.false c.if-stand-3.false) in
    let v = concerns c in
    told-own _ c.loop-stand.e y.1.accepted _ _ y.2 (ap (λ (m : ℕ). due_by m c.loop-stand.e.time) (sym (is-next (turn_of (whole c.loop-stand.s c.loop-stand.dues c.loop-stand.amounts) (state-out (whole c.loop-stand.s c.loop-stand.dues c.loop-stand.amounts) c.loop-stand.invariant.stage.sound) c.loop-stand.e.time (coming c.loop-stand.invariant.origin c.loop-stand.e c.loop-stand.stand (whole c.loop-stand.s c.loop-stand.dues c.loop-stand.amounts) _ c.loop-stand.invariant.stage c.if-stand.false).top (coming c.loop-stand.invariant.origin c.loop-stand.e c.loop-stand.stand (whole c.loop-stand.s c.loop-stand.dues c.loop-stand.amounts) _ c.loop-stand.invariant.stage c.if-stand.false).by _ _ _ c.next_moment-next.result c.highest-level.ensures c.head_at-h.ensures c.from-i.ensures c.next_moment-next.ensures))) ∙ (sym c.due_by.ensures ∙ c.if-due_by.false)) (state_of (whole c.loop-stand.s c.loop-stand.dues c.loop-stand.amounts).header c.loop-stand.e.time c.charged_idle.result (whole c.loop-stand.s c.loop-stand.dues c.loop-stand.amounts).word (set (whole c.loop-stand.s c.loop-stand.dues c.loop-stand.amounts).threads c.from-i.result c.charged_thread.result) (whole c.loop-stand.s c.loop-stand.dues c.loop-stand.amounts).counts (whole c.loop-stand.s c.loop-stand.dues c.loop-stand.amounts).dues (whole c.loop-stand.s c.loop-stand.dues c.loop-stand.amounts).amounts (whole c.loop-stand.s c.loop-stand.dues c.loop-stand.amounts).lists) (last (turn_of (whole c.loop-stand.s c.loop-stand.dues c.loop-stand.amounts) (state-out (whole c.loop-stand.s c.loop-stand.dues c.loop-stand.amounts) c.loop-stand.invariant.stage.sound) c.loop-stand.e.time (coming c.loop-stand.invariant.origin c.loop-stand.e c.loop-stand.stand (whole c.loop-stand.s c.loop-stand.dues c.loop-stand.amounts) _ c.loop-stand.invariant.stage c.if-stand.false).top (coming c.loop-stand.invariant.origin c.loop-stand.e c.loop-stand.stand (whole c.loop-stand.s c.loop-stand.dues c.loop-stand.amounts) _ c.loop-stand.invariant.stage c.if-stand.false).by _ _ _ c.next_moment-next.result c.highest-level.ensures c.head_at-h.ensures c.from-i.ensures c.next_moment-next.ensures) (sym c.due_by.ensures ∙ c.if-due_by.false) c.charged_idle.result c.charged_thread.result c.charged_idle.ensures c.charged_thread.ensures) refl c.from-j.result (v.there ∙ v.who) (small c) _ refl

pub loop-stand-smaller : goal.loop-stand-smaller
loop-stand-smaller c = same_left _ (ends (goal.at.loop-stand-smaller c).After-charged_idle (c.loop-stand.e.time - c.loop-stand.e.time))

pub loop-stand-preserved : goal.loop-stand-preserved
loop-stand-preserved c =
    let g = goal.at.loop-stand-preserved c in
    let k = g.After-from-j in
    let h = c.happen-c.ensures in
    record {
      origin = c.loop-stand.invariant.origin;
      stage = finished g.After-charged_idle _ (h.told_after ∙ tells k) _
          (change-is (state_of (whole c.loop-stand.s c.loop-stand.dues c.loop-stand.amounts).header c.loop-stand.e.time c.charged_idle.result (whole c.loop-stand.s c.loop-stand.dues c.loop-stand.amounts).word (set (whole c.loop-stand.s c.loop-stand.dues c.loop-stand.amounts).threads c.from-i.result c.charged_thread.result) (whole c.loop-stand.s c.loop-stand.dues c.loop-stand.amounts).counts (whole c.loop-stand.s c.loop-stand.dues c.loop-stand.amounts).dues (whole c.loop-stand.s c.loop-stand.dues c.loop-stand.amounts).amounts (whole c.loop-stand.s c.loop-stand.dues c.loop-stand.amounts).lists) c.loop-stand.e _ _ (concerns k) _ refl _ refl _ h.value _ _ _ h.in_place _ _ c.shift.ensures.0 c.shift.ensures.1);
      same = c.loop-stand.invariant.same;
      silent = λ q n. h.told_after ∙ sym (none_told c.from-j.result _ _ (own-none c.loop-stand.e.kind c.loop-stand.e.time (thread_at (state_of (whole c.loop-stand.s c.loop-stand.dues c.loop-stand.amounts).header c.loop-stand.e.time c.charged_idle.result (whole c.loop-stand.s c.loop-stand.dues c.loop-stand.amounts).word (set (whole c.loop-stand.s c.loop-stand.dues c.loop-stand.amounts).threads c.from-i.result c.charged_thread.result) (whole c.loop-stand.s c.loop-stand.dues c.loop-stand.amounts).counts (whole c.loop-stand.s c.loop-stand.dues c.loop-stand.amounts).dues (whole c.loop-stand.s c.loop-stand.dues c.loop-stand.amounts).amounts (whole c.loop-stand.s c.loop-stand.dues c.loop-stand.amounts).lists) c.from-j.result) n)) ∙ c.loop-stand.invariant.silent q n;
    }

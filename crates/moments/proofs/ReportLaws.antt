-- What is told of the passing of time unfolds turn by turn, as the passing of time itself does; and no number of it is large.
use Prim.Native.Nat.{ℕ, zero, suc, ◌-◌, ◌≤◌, ◌<◌}
use mathlib.Core.Bool.{Bool, true, false}
use mathlib.Core.Path.{◌≡◌, refl, sym, ap, ap₂, ◌∙◌, subst}
use mathlib.Core.List.{[], ◌∷◌, ◌++◌}
use lib.ListN.{get_or}
use lib.Dec.{ltb}
use native.Mathlib.Omega.{arith}
use native.Mathlib.Decide.{ℕ_discrete}
use borrow.Author.Tests.{ltb-true, ltb-false}
use Rattle.base.proofs.TestLaws.{tests, cond-true, cond-false}
use Rattle.records.specs.declared.Header.{Header}
use Rattle.account.specs.Rules.{first_is_due}
use Rattle.passing.specs.Time.{due_by}
use Rattle.passing.proofs.TimeLaws.{due-false, due-yes}
use Rattle.passing.proofs.ReportLaws.{ReportLaws, reported-rest, reported-due}
use Rattle.reports.specs.Steps.{Happening, Log}
use Rattle.reports.specs.Tallies.{Tally, no_tallies, both, tallied}
use Rattle.reports.proofs.TallyLaws.{none_both, both-none, both-both, tallied-append}
use Rattle.state.specs.declared.State.{State}
use Rattle.state.specs.State.{pending_at}
use Rattle.state.specs.Sound.{sound_state}
use Rattle.state.proofs.SoundLaws.{SoundFrom, Sound, state-in}
use Rattle.ticks.specs.Running.{charge, limit, next}
use Rattle.moments.specs.Moments.{limits, first_returned, replenish_below, fire, clock}
use Rattle.moments.specs.Reports.{limit_log, return_log, replenish_log, below_log, fire_log, tallies, reported}
use Rattle.moments.proofs.ChargeLaws.{later, dues-after, limit-later, charged-sound}
use Rattle.moments.proofs.LimitLaws.{chosen_none, limits-none}
use Rattle.moments.proofs.FireLaws.{keeps-limits}
use Rattle.moments.proofs.MomentLaws.{before, within-limit, passing}
use Rattle.moments.proofs.TurnLaws.{first_of, Mid, sound-mid, nothing-due, below_none, below-same, first_below, first-due, first_some, one_fewer, first-lowest, still-lowest, backed-same, settled, settled-sound, settled_same, due-later, charge-none, Going, due-some, charged-going, due-now, is-due, backed-turn}

pub tally-laws : ReportLaws clock tallies (λ s. sound_state s ≡ true)
tally-laws = record { none-plus = none_both; plus_none = both-none; plus-plus = both-both; charged-add = λ i j s h. none_both no_tallies }

-- a sound state is at no limit
limit-log-none : (lo : ℕ → ℕ) (s : State) → SoundFrom lo s → limit_log s ≡ []
unfolding limit_log
limit-log-none lo s h = chosen_none [] _ _ lo s h

-- ---- what comes back, as steps

replenish-log-none : (k i : ℕ) (s : State) → first_is_due s.now (pending_at s i) ≡ false → replenish_log k i s ≡ []
unfolding replenish_log
replenish-log-none zero i s e = refl
replenish-log-none (suc k) i s e = cond-false (first_is_due s.now (pending_at s i)) _ _ e

replenish-log-step : (k i : ℕ) (s : State) → first_is_due s.now (pending_at s i) ≡ true → replenish_log (suc k) i s ≡ return_log i s ∷ replenish_log k i (first_returned i s)
unfolding replenish_log
replenish-log-step k i s e = cond-true (first_is_due s.now (pending_at s i)) _ _ e

-- the turn of thread n, once the threads below it had theirs and the state is u
abbrev turn_log : ℕ → State → Log
turn_log n u = replenish_log (get_or u.counts n 0) n u

below-log-suc : (n : ℕ) (s : State) → below_log (suc n) s ≡ below_log n s ++ turn_log n (replenish_below n s)
unfolding below_log
below-log-suc n s = refl

below-log-zero : (s : State) → below_log 0 s ≡ []
unfolding below_log
below-log-zero s = refl

pub below-log-none : (n : ℕ) (s : State) → ((j : ℕ) → j < n → first_is_due s.now (pending_at s j) ≡ false) → below_log n s ≡ []
below-log-none zero s f = below-log-zero s
below-log-none (suc n) s f =
    below-log-suc n s
    ∙ ap₂ (λ (xs ys : Log). xs ++ ys) (below-log-none n s (λ j l. f j (omega arith)))
    (ap (turn_log n) (below_none n s (λ j l. f j (omega arith))) ∙ replenish-log-none (get_or s.counts n 0) n s (f n (omega arith)))

-- what is one step more below m is so below n
below-log-more : (m n : ℕ) (s u : State) (x : Happening) → m ≤ n → replenish_below m s ≡ replenish_below m u → below_log m s ≡ x ∷ below_log m u
    → below_log n s ≡ x ∷ below_log n u
below-log-more m zero s u x l e f = subst (λ (k : ℕ). below_log k s ≡ x ∷ below_log k u) (omega arith) f
below-log-more m (suc n) s u x l e f = go (ℕ_discrete m (suc n)) (λ k. below-log-more m n s u x k e f)
  where
    go : Dec (m ≡ suc n) → (m ≤ n → below_log n s ≡ x ∷ below_log n u) → below_log (suc n) s ≡ x ∷ below_log (suc n) u
    go (yes q) r = subst (λ (k : ℕ). below_log k s ≡ x ∷ below_log k u) q f
    go (no q) r =
        let k : m ≤ n = omega (arith, q) in
        below-log-suc n s
        ∙ ap₂ (λ (xs ys : Log). xs ++ ys) (r k) (ap (turn_log n) (below-same m n s u k e))
        ∙ ap (λ (xs : Log). x ∷ xs) (sym (below-log-suc n u))

-- the first that is due is the first step
module _ (s : State) (h : Mid s) (d : (first_of s).thread ≡ 32 → ⊥) (e : (first_of s).due ≤ s.now) where
  abbrev i : ℕ
  i = (first_of s).thread

  abbrev backed : State
  backed = first_returned (first_of s).thread s

  pub backed-log : below_log s.header.n s ≡ return_log (first_of s).thread s ∷ below_log s.header.n (first_returned (first_of s).thread s)
  backed-log =
      below-log-more (suc i) s.header.n s backed (return_log i s) (omega (arith, first_below s h d e)) same_turn
      (below-log-suc i s
      ∙ ap₂ (λ (xs ys : Log). xs ++ ys) (below-log-none i s (first-lowest s h d e)) (ap (turn_log i) (below_none i s (first-lowest s h d e)))
      ∙ more (get_or s.counts i 0) refl
      ∙ ap (λ (xs : Log). return_log i s ∷ xs)
      (sym (below-log-suc i backed
      ∙ ap₂ (λ (xs ys : Log). xs ++ ys) (below-log-none i backed (still-lowest s h d e)) (ap (turn_log i) (below_none i backed (still-lowest s h d e))))))
    where
      more : (n : ℕ) → get_or s.counts (first_of s).thread 0 ≡ n
          → turn_log (first_of s).thread s ≡ return_log (first_of s).thread s ∷ turn_log (first_of s).thread (first_returned (first_of s).thread s)
      more zero q = absurd (omega (arith, first_some s h d e))
      more (suc n) q =
          let m : get_or backed.counts i 0 ≡ n = omega (arith, one_fewer s h d e) in
          ap (λ (k : ℕ). replenish_log k i s) q
          ∙ replenish-log-step n i s (first-due s h d e)
          ∙ ap (λ (k : ℕ). return_log i s ∷ replenish_log k i backed) (sym m)

      same_turn : replenish_below (suc (first_of s).thread) s ≡ replenish_below (suc (first_of s).thread) (first_returned (first_of s).thread s)
      same_turn = sym (backed-turn s h d e)

-- ---- what is still to be told between turns

-- what is due now, and from there on
abbrev pub rest : State → ℕ → ℕ → Tally
rest s t = both (tallied (below_log s.header.n s)) (reported (replenish_below s.header.n s) t)

module _ (s : State) (h : Mid s) (t : ℕ) (q : 0 < (first_of s).due → s.now < (first_of s).due) where
  -- nothing is due now
  pub rest-settled : rest s t ≡ reported s t
  rest-settled =
      ap₂ (λ (xs : Log) (u : State). both (tallied xs) (reported u t))
      (below-log-none s.header.n s (λ j l. nothing-due s.now (pending_at s j) (settled s h q j (omega (tests, h.sizes)))))
      (settled_same s h q)
      ∙ none_both (reported s t)

-- the first that is due now: what it tells, then the rest
pub rest_back : (s : State) → Mid s → (t : ℕ) → ((first_of s).thread ≡ 32 → ⊥) → (first_of s).due ≤ s.now
    → rest s t ≡ both (tallied (return_log (first_of s).thread s ∷ [])) (rest (first_returned (first_of s).thread s) t)
rest_back s h t d e =
    let v = first_returned (first_of s).thread s in
    ap₂ (λ (xs : Log) (w : State). both (tallied xs) (reported w t)) (backed-log s h d e) (sym (backed-same s h d e))
    ∙ ap (λ (f : ℕ → Tally). both f (reported (replenish_below s.header.n v) t)) (tallied-append (return_log (first_of s).thread s ∷ []) (below_log s.header.n v))
    ∙ both-both (tallied (return_log (first_of s).thread s ∷ [])) (tallied (below_log s.header.n v)) (reported (replenish_below s.header.n v) t)

-- where the loop begins, the whole is still to be told
pub rest-start : (s : State) (t : ℕ) → Sound s → rest s t ≡ reported s t
rest-start s t h = rest-settled s (sound-mid s h) t (due-later s (λ p. later s h p))

module _ (s₀ s : State) (t : ℕ) (g : Going s₀ t s) where
  -- no moment is due by t: nothing is left to be told
  pub rest-done : due_by (next s) t ≡ false → rest s t ≡ no_tallies
  rest-done e =
      rest-settled s g.mid t (due-later s (λ p. omega (arith, g.by, due-false (next s) t e p)))
      ∙ reported-rest clock tallies passing tally-laws s t e

  module _ (p : 0 < next s) (l : next s ≤ t) (top : t ≤ 1000000000000000) where
    abbrev u : State
    u = charge (next s - s.now) s

    -- the next moment is after now: its limits, then what is due at it
    later-rest : s.now < next s → rest s t ≡ both (tallied (limit_log u)) (rest (limits u) t)
    unfolding fire
    later-rest q =
        let m = due-later s (λ p. q) in
        let x = keeps-limits (λ (v : State). v.header) (λ i o v. refl) (λ p i v. refl) u in
        rest-settled s g.mid t m
        ∙ reported-due clock tallies passing tally-laws s t (state-in s (settled-sound s g.mid m)) top (due-yes (next s) t p l)
        ∙ ap (λ (f : ℕ → Tally). both f (reported (fire u) t)) (none_both (tallied (fire_log u)) ∙ tallied-append (limit_log u) (below_log s.header.n (limits u)))
        ∙ both-both (tallied (limit_log u)) (tallied (below_log s.header.n (limits u))) (reported (fire u) t)
        ∙ ap (λ (x : Header). both (tallied (limit_log u)) (both (tallied (below_log x.n (limits u))) (reported (replenish_below x.n (limits u)) t))) (sym x)

    -- a turn with a limit or the end of a quantum: what it tells, then the rest
    pub rest-limit : limit s ≡ next s → rest s t ≡ both (tallied (limit_log u)) (rest (limits u) t)
    rest-limit e = later-rest (omega (arith, limit-later (λ i. s.now - 1) s g.mid (omega arith)))

    -- a turn without one: the first that is due at the next moment, which may be now
    module _ (e : limit s ≡ next s → ⊥) where
      -- no limit: nothing is told up to it
      pub charged-rest : rest s t ≡ rest u t
      unfolding before
      charged-rest = go (ltb s.now (next s)) refl
        where
          go : (b : Bool) → ltb s.now (next s) ≡ b → rest s t ≡ rest (charge (next s - s.now) s) t
          go true r =
              let q : s.now < next s = ltb-true s.now (next s) r in
              let i = is-due s₀ s t g p l top e in
              let h = settled-sound s g.mid (due-later s (λ p. q)) in
              let m = charged-sound (λ i. s.now) (before s) (next s - s.now) s h (dues-after (λ i. s.now) s (next s - 1) h (λ q. omega arith))
              (within-limit (λ i. s.now) (next s - s.now) s h (λ p. omega (arith, i.0, i.1 p))) (omega arith) in
              later-rest q
              ∙ ap₂ (λ (xs : Log) (v : State). both (tallied xs) (rest v t)) (limit-log-none (before s) u m) (limits-none (before s) u m)
              ∙ none_both (rest u t)
          go false r =
              let q : next s - s.now ≡ 0 = omega (arith, ltb-false s.now (next s) r) in
              sym (ap (λ (k : ℕ). rest (charge k s) t) q ∙ ap (λ (v : State). rest v t) (charge-none s))

      pub rest-return : rest s t ≡ both (tallied (return_log (first_of s).thread u ∷ [])) (rest (first_returned (first_of s).thread u) t)
      rest-return = charged-rest ∙ rest_back u (charged-going s₀ s t g p l top e).mid t (due-some s₀ s t g p l top e) (due-now s₀ s t g p l top e)

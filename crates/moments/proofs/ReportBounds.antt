-- No number that is told of the passing of time is large: there are few turns, and each tells at most one of each kind.
use Prim.Native.Nat.{ℕ, zero, suc, ◌+◌, ◌-◌, ◌*◌, ◌≤◌, ◌<◌}
use mathlib.Core.Bool.{Bool, true, false, cond, ◌&&◌}
use mathlib.Core.Path.{◌≡◌, refl, ap, ◌∙◌, subst, subst⁻¹}
use mathlib.Core.List.{List, [], ◌∷◌}
use lib.ListN.{length, take, get_or}
use lib.Dec.{ltb, eqb}
use native.Mathlib.Omega.{arith}
use native.Mathlib.Decide.{ℕ_discrete}
use Rattle.base.proofs.TestLaws.{tests, cond-elim}
use Rattle.records.specs.declared.Parameters.{Parameters}
use Rattle.records.proofs.PolicyLaws.{policy-elim}
use Rattle.sporadic.specs.declared.Server.{Server}
use Rattle.sporadic.specs.declared.Effect.{Effect}
use Rattle.sporadic.specs.Rules.{limit_effect, return_effect}
use Rattle.sporadic.proofs.EffectLaws.{at-limit-elim, limit-elim, return-elim}
use Rattle.account.specs.declared.Pending.{Pending}
use Rattle.account.specs.Rules.{return_first}
use Rattle.account.specs.Sound.{sum}
use Rattle.passing.specs.Time.{due_by}
use Rattle.passing.proofs.TimeLaws.{due-true}
use Rattle.reports.specs.Steps.{Log, happens}
use Rattle.reports.specs.Steps.Step.{quantum}
use Rattle.reports.specs.Tallies.{Tally, tally, nothing, plus, returned, of_thread, both, tallied}
use Rattle.reports.proofs.TallyLaws.{AtMost, plus-most, most-more, none-most, thread-most}
use Rattle.thread.specs.declared.Thread.{Thread}
use Rattle.thread.specs.Thread.{is_blocked}
use Rattle.state.specs.declared.State.{State}
use Rattle.state.specs.State.{thread_at, pending_at, account_at}
use Rattle.state.proofs.SoundLaws.{ThreadSound, SoundFrom, Sound}
use Rattle.state.proofs.SoundLaws.ThreadSound.{absent, fifo, rr, sporadic}
use Rattle.rows.specs.Rows.{slots_at}
use Rattle.ticks.specs.Running.{level, head, idles, charge, limit, next}
use Rattle.moments.specs.Moments.{limits, first_returned}
use Rattle.moments.specs.Reports.{limit_log_of, limit_log, return_log, reported}
use Rattle.moments.proofs.ChargeLaws.{limit-later}
use Rattle.moments.proofs.StepLaws.{limit-thread, limited-used}
use Rattle.moments.proofs.TurnLaws.{first_of, first_small, first_some, Going, weight, start, turn-limit, due-some, charged-going, due-now, turn-due}
use Rattle.moments.proofs.ReportLaws.{rest, rest-start, rest-done, rest-limit, rest-return}

-- ---- what one step tells

back_one : (n : ℕ) → cond (eqb n 0) 0 1 ≤ 1
back_one n = cond-elim (λ (x : ℕ). x ≤ 1) (eqb n 0) 0 1 (λ e. omega arith) (λ e. omega arith)

pub returned-most : (e : Effect) (m : ℕ) → e.back ≤ m → AtMost 1 m (returned e)
returned-most e m l = record { limits = omega arith; quanta = omega arith; replenishments = back_one e.back; amounts = l }

pub one_told : (j m i : ℕ) (x : Tally) → AtMost 1 m x → AtMost 1 m (both (of_thread j x) (λ k. nothing) i)
one_told j m i x a = most-more (1 + 0) (m + 0) 1 m _ (omega arith) (omega arith) (plus-most 1 m 0 0 _ nothing (thread-most j i 1 m x a) (none-most 0 0))

-- a limit with what comes back at once
both_told : (j m i : ℕ) (e : Effect) → e.back ≤ m → AtMost 1 m (both (of_thread j (tally 1 0 0 0)) (both (of_thread j (returned e)) (λ k. nothing)) i)
both_told j m i e l = go (eqb j i)
  where
    go : (b : Bool) → AtMost 1 m (plus (cond b (tally 1 0 0 0) nothing) (plus (cond b (returned e) nothing) nothing))
    go true = record { limits = omega arith; quanta = omega arith; replenishments = omega (arith, back_one e.back); amounts = omega arith }
    go false = record { limits = omega arith; quanta = omega arith; replenishments = omega arith; amounts = omega arith }

-- U at most comes back at a limit
pub limit-back : (now : ℕ) (p : Parameters) (s : Server) (b : Bool) → (limit_effect now b p s).back ≤ s.used
limit-back now p s b =
    limit-elim now p s b (λ (e : Effect). e.back ≤ s.used) (omega arith)
    (at-limit-elim now p s (λ (e : Effect). e.back ≤ s.used) (λ u. omega arith) (λ u d. omega arith) (λ u d. omega arith))

limit-most : (u : State) (m i : ℕ) → (idles u ≡ false → ((thread_at u (head u)).parameters.policy ≡ 1 → ⊥) → (thread_at u (head u)).server.used ≤ m)
    → AtMost 1 m (tallied (limit_log u) i)
unfolding limit_log
limit-most u m i f =
    let t = thread_at u (head u) in
    let P : Log → Type 0 = λ xs. AtMost 1 m (tallied xs i) in
    cond-elim P (idles u) [] (limit_log_of (level u) (head u) t u) (λ e. none-most 1 m)
    (λ e. policy-elim P t.parameters.policy _ _ _ (λ c. none-most 1 m)
    (λ c. cond-elim P (eqb t.left 0) (happens (head u) quantum ∷ []) [] (λ d. one_told (head u) m i (tally 0 1 0 0) quantum-most) (λ d. none-most 1 m))
    (λ c. cond-elim P (eqb (level u) t.parameters.priority && eqb t.server.capacity 0) _ [] (λ d. both_told (head u) m i (limit_effect u.now false t.parameters t.server) (omega (arith, limit-back u.now t.parameters t.server false, f e (λ q. omega arith)))) (λ d. none-most 1 m)))
  where
    quantum-most : AtMost 1 m (tally 0 1 0 0)
    quantum-most = record { limits = omega arith; quanta = omega arith; replenishments = omega arith; amounts = omega arith }

-- the first entry's amount is at most the budget
first-least : (n : ℕ) (xs : List ℕ) → 0 < n → get_or xs 0 0 ≤ sum (take n xs)
first-least zero xs l = absurd (omega arith)
first-least (suc n) [] l = omega arith
first-least (suc n) (x ∷ xs) l = omega arith

pub first-amount : (lo : ℕ → ℕ) (s : State) → SoundFrom lo s → (j : ℕ) → j < 32 → 0 < get_or s.counts j 0 → get_or (slots_at j s.amounts) 0 0 ≤ 1000000000
first-amount lo s h j l c = go (h.each j l)
  where
    go : ThreadSound s.header.start s.now (lo j) (ltb j s.header.n) (thread_at s j) (pending_at s j) → get_or (slots_at j s.amounts) 0 0 ≤ 1000000000
    go (absent n t q) = absurd (omega (arith, ap (λ (q : Pending). q.count) q))
    go (fifo n z g a v q) = absurd (omega (arith, ap (λ (q : Pending). q.count) q))
    go (rr n z g a v q) = absurd (omega (arith, ap (λ (q : Pending). q.count) q))
    go (sporadic n z g a v) = omega (tests, g, v.sums.0, first-least (get_or s.counts j 0) (slots_at j s.amounts) c)

pub return_back : (now : ℕ) (p : Parameters) (s : Server) (b : Bool) (count amount m : ℕ) → amount ≤ m → (return_effect now b p count amount s).back ≤ m
return_back now p s b count amount m l =
    return-elim now p s b count amount (λ (e : Effect). e.back ≤ m) (λ z. omega arith) (λ c u. l) (λ c f u. l)

return-most : (lo : ℕ → ℕ) (s : State) → SoundFrom lo s → (j i : ℕ) → j < 32 → 0 < get_or s.counts j 0 → AtMost 1 1000000000 (tallied (return_log j s ∷ []) i)
return-most lo s h j i l c =
    one_told j 1000000000 i (returned (return_first s.now (is_blocked (thread_at s j)) (thread_at s j).parameters (account_at s j)))
    (returned-most (return_first s.now (is_blocked (thread_at s j)) (thread_at s j).parameters (account_at s j)) 1000000000
    (return_back s.now (thread_at s j).parameters (thread_at s j).server (is_blocked (thread_at s j)) (get_or s.counts j 0) (get_or (slots_at j s.amounts) 0 0) 1000000000
    (first-amount lo s h j l c)))

-- ---- over the turns

-- at most so many of each, and so many times the largest budget
abbrev pub Within : ℕ → Tally → Type 0
Within n x = AtMost n (n * 1000000000) x

within_more : (n k : ℕ) (x y : Tally) → n < k → AtMost 1 1000000000 x → Within n y → Within k (plus x y)
within_more n k x y l a b = most-more (1 + n) (1000000000 + n * 1000000000) k (k * 1000000000) (plus x y) (omega arith) (omega arith) (plus-most 1 1000000000 n (n * 1000000000) x y a b)

-- one turn, and then the rest
module _ (s₀ s : State) (t i : ℕ) (g : Going s₀ t s) (top : t ≤ 1000000000000000)
    (then : (u : State) → Going s₀ t u → weight t u < weight t s → Within (weight t u) (rest u t i)) where
  told : (f : ℕ → Tally) → rest s t ≡ f → Within (weight t s) (f i) → Within (weight t s) (rest s t i)
  told f e h = subst⁻¹ (λ (f : ℕ → Tally). Within (weight t s) (f i)) e h

  module _ (p : 0 < next s) (l : next s ≤ t) where
    abbrev u : State
    u = charge (next s - s.now) s

    after-limit : limit s ≡ next s → Within (weight t s) (rest s t i)
    after-limit q =
        let r = turn-limit s₀ s t g p l top q in
        let m = limit-later (λ i. s.now - 1) s g.mid (omega arith) in
        let w = limit-thread (λ i. s.now - 1) s g.mid p q (omega arith) in
        told (both (tallied (limit_log u)) (rest (limits u) t)) (rest-limit s₀ s t g p l top q)
        (within_more (weight t (limits u)) (weight t s) (tallied (limit_log u) i) (rest (limits u) t i) r.1
        (limit-most u 1000000000 i (λ f d. limited-used (λ i. s.now - 1) s g.mid p q (omega arith) (λ z. d (ap (λ (x : Thread). x.parameters.policy) w ∙ z))))
        (then (limits u) r.0 r.1))

    after-return : (limit s ≡ next s → ⊥) → Within (weight t s) (rest s t i)
    after-return q =
        let r = turn-due s₀ s t g p l top q in
        let c = charged-going s₀ s t g p l top q in
        let d = due-some s₀ s t g p l top q in
        let n = due-now s₀ s t g p l top q in
        let j = (first_of s).thread in
        told (both (tallied (return_log j u ∷ [])) (rest (first_returned j u) t)) (rest-return s₀ s t g p l top q)
        (within_more (weight t (first_returned j u)) (weight t s) (tallied (return_log j u ∷ []) i) (rest (first_returned j u) t i) r.1
        (return-most (λ i. u.now - 1) u c.mid j i (first_small u c.mid d n) (first_some u c.mid d n))
        (then (first_returned j u) r.0 r.1))

  one-turn : Within (weight t s) (rest s t i)
  one-turn = go (due_by (next s) t) refl
    where
      go : (b : Bool) → due_by (next s) t ≡ b → Within (weight t s) (rest s t i)
      go false e = told (λ j. nothing) (rest-done s₀ s t g e) (none-most _ _)
      go true e = let d = due-true (next s) t e in by (ℕ_discrete (limit s) (next s)) d.0 d.1
        where
          by : Dec (limit s ≡ next s) → 0 < next s → next s ≤ t → Within (weight t s) (rest s t i)
          by (yes q) p l = after-limit p l q
          by (no q) p l = after-return p l q

rest-most : (k : ℕ) (s₀ s : State) (t i : ℕ) → Going s₀ t s → t ≤ 1000000000000000 → weight t s ≤ k → Within (weight t s) (rest s t i)
rest-most zero s₀ s t i g top w = one-turn s₀ s t i g top (λ u h l. absurd (omega arith))
rest-most (suc k) s₀ s t i g top w = one-turn s₀ s t i g top (λ u h l. rest-most k s₀ u t i h top (omega arith))

-- ---- the whole

-- at most 8 entries a thread
sum-most : (xs : List ℕ) (m : ℕ) → ((i : ℕ) → i < length xs → get_or xs i 0 ≤ m) → sum xs ≤ length xs * m
sum-most [] m f = omega arith
sum-most (x ∷ xs) m f = omega (arith, f 0 (omega arith), sum-most xs m (λ i l. f (suc i) (omega arith)))

counts-most : (lo : ℕ → ℕ) (s : State) → SoundFrom lo s → sum s.counts ≤ 256
counts-most lo s h = omega (tests, h.sizes, sum-most s.counts 8 (λ i l. each i (h.each i (omega (tests, h.sizes)))))
  where
    each : (i : ℕ) → ThreadSound s.header.start s.now (lo i) (ltb i s.header.n) (thread_at s i) (pending_at s i) → get_or s.counts i 0 ≤ 8
    each i (absent n t q) = omega (arith, ap (λ (q : Pending). q.count) q)
    each i (fifo n z g a v q) = omega (arith, ap (λ (q : Pending). q.count) q)
    each i (rr n z g a v q) = omega (arith, ap (λ (q : Pending). q.count) q)
    each i (sporadic n z g a v) = omega (tests, v.numbers)

-- over at most the longest step: each turn takes a tick or one of the entries
pub reported-most : (s : State) (t i : ℕ) → Sound s → s.now ≤ t → t ≤ s.now + 1000000 → t ≤ 1000000000000000
    → Within 2000256 (reported s t i)
unfolding weight
reported-most s t i h l near top =
    let w : weight t s ≤ 2000256 = omega (arith, counts-most (λ i. s.now) s h) in
    most-more (weight t s) (weight t s * 1000000000) 2000256 2000256000000000 (reported s t i) (omega arith) (omega arith)
    (subst (λ (f : ℕ → Tally). Within (weight t s) (f i)) (rest-start s t h) (rest-most (weight t s) s s t i (start s t h l) top (omega arith)))

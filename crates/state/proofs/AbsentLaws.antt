-- The places from N on: their threads and counts one by one, their slots as one run of zeros.
use Prim.Native.Nat.{ℕ, zero, suc, ◌+◌, ◌-◌, ◌*◌, ◌≤◌, ◌<◌}
use mathlib.Core.Bool.{Bool, true, false, cond}
use mathlib.Core.Path.{◌≡◌, refl, sym, ap, ◌∙◌}
use mathlib.Core.List.{List, [], ◌∷◌, ◌++◌}
use native.Mathlib.Omega.{arith}
use lib.ListN.{length, drop, get_or}
use lib.Bits.{bit_or}
use lib.Dec.{ltb, eqb}
use borrow.Author.Tests.{lt-ltb, le-ltb, eqb-true}
use Rattle.base.specs.Tests.{all, zeros}
use Rattle.base.proofs.TestLaws.{tests, All, all_true, true-all, all_one, same_test, below_at, cond-true, cond-false}
use Rattle.base.proofs.ZeroLaws.{or-none, cond_both, Clear, part-clear, clear-part, drop-clear, clear-drop}
use Rattle.records.specs.declared.Parameters.{Parameters}
use Rattle.records.specs.Ranges.{by_policy, all_zero, fifo_in_range}
use Rattle.account.specs.declared.Pending.{Pending}
use Rattle.rows.specs.Rows.{slots_at}
use Rattle.sporadic.specs.declared.Server.{Server}
use Rattle.sporadic.specs.Rules.{at_upper}
use Rattle.thread.specs.declared.Thread.{Thread}
use Rattle.thread.specs.Thread.{place_of}
use Rattle.state.specs.declared.State.{State}
use Rattle.state.specs.State.{thread_at, pending_at}
use Rattle.state.specs.Sound.{server_tests, no_account_tests, absent_fields, absent_test, present_test, thread_test, totals, sound_tests, sound_state}
use Rattle.state.proofs.ThreadLaws.{totals-next, totals-none}

-- no thread, less its slots
abbrev pub no_thread_tests : Thread → ℕ → List Bool
no_thread_tests t count = absent_fields t ++ (server_tests t.server ++ (eqb count 0 ∷ []))

-- the bits of a number and of a list
abbrev pub or_all : ℕ → List ℕ → ℕ
or_all a [] = a
or_all a (x ∷ xs) = or_all (bit_or a x) xs

pub or-all : (a : ℕ) (xs : List ℕ) → eqb (or_all a xs) 0 ≡ all (zeros (a ∷ xs))
unfolding all
or-all a [] = sym (all_one (eqb a 0))
or-all a (x ∷ xs) = or-all (bit_or a x) xs ∙ rw (or-none a x) (cond_both (eqb a 0) (eqb x 0) (all (zeros xs)))

-- all bytes and all words of a place
abbrev pub bytes_of : Thread → ℕ → ℕ
bytes_of t count = let p = t.parameters in or_all p.policy (p.priority ∷ p.low ∷ p.max_repl ∷ t.blocked ∷ count ∷ [])

abbrev pub words_of : Thread → ℕ
words_of t =
    let p = t.parameters in
    let v = t.server in
    or_all p.budget (p.period ∷ t.total ∷ t.left ∷ v.capacity ∷ v.used ∷ v.activation ∷ p.flag ∷ [])

-- no bit, no thread
pub no_bits : (t : Thread) (count : ℕ) → eqb (bit_or (words_of t) (bytes_of t count)) 0 ≡ all (no_thread_tests t count)
unfolding all_zero fifo_in_range
no_bits t count =
    same_test _ _
    (λ e.
    let w = all_true (zeros (p.budget ∷ p.period ∷ t.total ∷ t.left ∷ v.capacity ∷ v.used ∷ v.activation ∷ p.flag ∷ bytes_of t count ∷ []))
    (sym (or-all p.budget (p.period ∷ t.total ∷ t.left ∷ v.capacity ∷ v.used ∷ v.activation ∷ p.flag ∷ bytes_of t count ∷ [])) ∙ e) in
    let b = all_true (zeros (p.policy ∷ p.priority ∷ p.low ∷ p.max_repl ∷ t.blocked ∷ count ∷ []))
    (sym (or-all p.policy (p.priority ∷ p.low ∷ p.max_repl ∷ t.blocked ∷ count ∷ [])) ∙ w.1.1.1.1.1.1.1.1.0) in
    let fifo = true-all _ (b.1.1.0, (b.1.1.1.0, (w.0, (w.1.0, tt)))) in
    let zero = true-all _ (b.0, (b.1.0, (w.1.1.1.1.1.1.1.0, (fifo, tt)))) in
    true-all (no_thread_tests t count)
    (zero, (b.1.1.1.1.0, (w.1.1.0, (w.1.1.1.0, (w.1.1.1.1.0, (w.1.1.1.1.1.0, (w.1.1.1.1.1.1.0, (b.1.1.1.1.1.0, tt)))))))))
    (λ e.
    let h = all_true (no_thread_tests t count) e in
    let z = all_true _ h.0 in
    let f = all_true _ z.1.1.1.0 in
    let b = or-all p.policy (p.priority ∷ p.low ∷ p.max_repl ∷ t.blocked ∷ count ∷ [])
    ∙ true-all (zeros (p.policy ∷ p.priority ∷ p.low ∷ p.max_repl ∷ t.blocked ∷ count ∷ []))
    (z.0, (z.1.0, (f.0, (f.1.0, (h.1.0, (h.1.1.1.1.1.1.1.0, tt)))))) in
    or-all p.budget (p.period ∷ t.total ∷ t.left ∷ v.capacity ∷ v.used ∷ v.activation ∷ p.flag ∷ bytes_of t count ∷ [])
    ∙ true-all (zeros (p.budget ∷ p.period ∷ t.total ∷ t.left ∷ v.capacity ∷ v.used ∷ v.activation ∷ p.flag ∷ bytes_of t count ∷ []))
    (f.1.1.0, (f.1.1.1.0, (h.1.1.0, (h.1.1.1.0, (h.1.1.1.1.0, (h.1.1.1.1.1.0, (h.1.1.1.1.1.1.0, (z.1.1.0, (b, tt))))))))))
  where
    p : Parameters
    p = t.parameters

    v : Server
    v = t.server

module _ (t : Thread) (q : Pending) where
  pub absent-in : all (no_thread_tests t q.count) ≡ true → All (zeros q.dues) → All (zeros q.amounts) → absent_test t q ≡ true
  unfolding absent_test
  absent-in e d a =
      let h = all_true (no_thread_tests t q.count) e in
      let v = h.1.1.1.1 in
      let n = true-all (no_account_tests t.server q) (v.0, (v.1.0, (v.1.1.0, (v.1.1.1.0, (true-all _ d, (true-all _ a, tt)))))) in
      true-all _ (h.0, (h.1.0, (h.1.1.0, (h.1.1.1.0, (n, tt)))))

  pub absent-out : absent_test t q ≡ true → (all (no_thread_tests t q.count) ≡ true) × All (zeros q.dues) × All (zeros q.amounts)
  unfolding absent_test
  absent-out e =
      let h = all_true _ e in
      let v = all_true (no_account_tests t.server q) h.1.1.1.1.0 in (
        true-all (no_thread_tests t q.count) (h.0, (h.1.0, (h.1.1.0, (h.1.1.1.0, (v.0, (v.1.0, (v.1.1.0, (v.1.1.1.0, tt)))))))),
        all_true _ v.1.1.1.1.0,
        all_true _ v.1.1.1.1.1.0,
      )

  -- it stands in no list and has not run
  pub absent-place : absent_test t q ≡ true → place_of t q.count ≡ 0
  unfolding absent_test all_zero
  absent-place e =
      let h = all_true _ e in
      let z = all_true _ h.0 in
      let b : t.blocked ≡ 0 = eqb-true _ _ h.1.0 in
      let p : t.parameters.policy ≡ 0 = eqb-true _ _ z.0 in
      let y : t.parameters.priority ≡ 0 = eqb-true _ _ z.1.0 in
      cond-false _ _ _ (le-ltb 0 t.blocked (omega arith))
      ∙ ap (λ (c : ℕ). by_policy c t.parameters.priority t.parameters.priority
      (cond (at_upper t.parameters t.server.capacity q.count) t.parameters.priority t.parameters.low)) p
      ∙ y

  pub absent-total : absent_test t q ≡ true → t.total ≡ 0
  unfolding absent_test
  absent-total e = eqb-true _ _ (all_true _ e).1.1.0

-- ---- the slots as one run

slots-run : (d n : ℕ) (l : List ℕ) → ((j : ℕ) → n ≤ j → j < d + n → All (zeros (slots_at j l))) → Clear (n * 8) ((d + n) * 8) l
slots-run zero n l h j lo hi = absurd (omega arith)
slots-run (suc d) n l h j lo hi = go (ltb j ((d + n) * 8)) (λ e. slots-run d n l (λ k a b. h k a (omega arith)) j lo (omega (tests, e))) (λ e. last (omega (tests, e)))
  where
    last : (d + n) * 8 ≤ j → get_or l j 0 ≡ 0
    last g = part-clear ((d + n) * 8) 8 l (h (d + n) (omega arith) (omega arith)) j g (omega arith)

    go : (b : Bool) → (b ≡ true → get_or l j 0 ≡ 0) → (b ≡ false → get_or l j 0 ≡ 0) → get_or l j 0 ≡ 0
    go true f g = f refl
    go false f g = g refl

run-slots : (n j : ℕ) (l : List ℕ) → Clear (n * 8) 256 l → n ≤ j → j < 32 → All (zeros (slots_at j l))
run-slots n j l c lo hi = clear-part (j * 8) 8 l (λ k a b. c k (omega arith) (omega arith))

-- ---- a state's threads, from N on and below

module _ (s : State) (hi : s.header.n ≤ 32) where
  pub at-absent : (j : ℕ) → s.header.n ≤ j → thread_test s j ≡ absent_test (thread_at s j) (pending_at s j)
  at-absent j g = cond-false _ _ _ (le-ltb j s.header.n g)

  pub at-present : (j : ℕ) → j < s.header.n → thread_test s j ≡ present_test s.header.start s.now (thread_at s j) (pending_at s j)
  at-present j g = cond-true _ _ _ (lt-ltb j s.header.n g)

  module _ (d : length s.dues ≡ 256) (a : length s.amounts ≡ 256) where
    -- what the run of slots is asked
    abbrev pub slots_test : Bool
    slots_test = all (all (zeros (drop (s.header.n * 8) s.dues)) ∷ all (zeros (drop (s.header.n * 8) s.amounts)) ∷ [])

    pub none_in : ((j : ℕ) → s.header.n ≤ j → j < 32 → all (no_thread_tests (thread_at s j) (get_or s.counts j 0)) ≡ true) → slots_test ≡ true
        → (j : ℕ) → s.header.n ≤ j → j < 32 → absent_test (thread_at s j) (pending_at s j) ≡ true
    none_in f e j lo up =
        let h = all_true _ e in
        absent-in (thread_at s j) (pending_at s j) (f j lo up)
        (run-slots s.header.n j s.dues (λ k x y. drop-clear _ _ (all_true _ h.0) k x (omega arith)) lo up)
        (run-slots s.header.n j s.amounts (λ k x y. drop-clear _ _ (all_true _ h.1.0) k x (omega arith)) lo up)

    module _ (y : sound_state s ≡ true) where
      every : (j : ℕ) → j < 32 → thread_test s j ≡ true
      unfolding sound_state
      every = below_at 32 (thread_test s) (all_true (sound_tests s) y).1.1.1.1.1.1.1.1.0

      out : (j : ℕ) → s.header.n ≤ j → j < 32
          → (all (no_thread_tests (thread_at s j) (get_or s.counts j 0)) ≡ true) × All (zeros (slots_at j s.dues)) × All (zeros (slots_at j s.amounts))
      out j lo up = absent-out (thread_at s j) (pending_at s j) (sym (at-absent j lo) ∙ every j up)

      pub none-thread : (j : ℕ) → s.header.n ≤ j → j < 32 → all (no_thread_tests (thread_at s j) (get_or s.counts j 0)) ≡ true
      none-thread j lo up = (out j lo up).0

      pub none-slots : slots_test ≡ true
      none-slots =
          true-all _ (
            true-all _ (clear-drop _ s.dues (run s.dues d (λ j lo up. (out j lo up).1))),
            (true-all _ (clear-drop _ s.amounts (run s.amounts a (λ j lo up. (out j lo up).2))), tt),
          )
        where
          run : (l : List ℕ) → length l ≡ 256 → ((j : ℕ) → s.header.n ≤ j → j < 32 → All (zeros (slots_at j l))) → Clear (s.header.n * 8) (length l) l
          run l n f j lo up = slots-run (32 - s.header.n) s.header.n l (λ k x y. f k x (omega arith)) j lo (omega arith)

  -- no thread from N on has run
  pub none-run : length s.threads ≡ 32 → ((j : ℕ) → s.header.n ≤ j → j < 32 → (thread_at s j).total ≡ 0) → totals (drop s.header.n s.threads) ≡ 0
  none-run n f = go (32 - s.header.n) s.header.n (omega arith) (omega arith)
    where
      go : (d i : ℕ) → d + i ≡ 32 → s.header.n ≤ i → totals (drop i s.threads) ≡ 0
      go zero i e l = totals-none s.threads i (omega arith)
      go (suc d) i e l = omega (arith, totals-next s.threads i (omega arith), f i l (omega arith), go d (i + 1) (omega arith) (omega arith))

-- Soundness of a state as a proposition, and that the test decides it.
use Prim.Native.Nat.{ℕ, zero, suc, ◌+◌, ◌-◌, ◌≤◌, ◌<◌}
use mathlib.Core.Bool.{Bool, true, false, cond}
use mathlib.Core.Path.{◌≡◌, refl, ap, ◌∙◌, subst⁻¹}
use mathlib.Core.List.{List, [], ◌∷◌}
use lib.ListN.{length, replicate}
use lib.Dec.{ltb, leb, eqb}
use native.Mathlib.Omega.{arith}
use borrow.Author.Tests.{eqb-true, eq-eqb}
use Rattle.records.specs.declared.Parameters.{Parameters}
use Rattle.base.specs.Tests.{all, zeros}
use Rattle.records.specs.Ranges.{by_policy, in_range, all_zero, fifo_in_range, rr_in_range, sporadic_in_range, no_parameters}
use Rattle.base.proofs.TestLaws.{tests, All, all_true, true-all, below_at, at-below, zeros-eq, cond-true, cond-false}
use Rattle.sporadic.specs.declared.Server.{Server}
use Rattle.account.specs.declared.Pending.{Pending}
use Rattle.account.specs.Sound.{sound_at, runs_upper}
use Rattle.account_laws.proofs.SoundLaws.{AccountSound, sound-in, sound-out}
use Rattle.ready.proofs.Soundness.{ListsSound, sound-true, true-sound}
use Rattle.rows.proofs.RowLaws.{row-length}
use Rattle.thread.specs.declared.Thread.{Thread}
use Rattle.state.specs.declared.State.{State}
use Rattle.state.specs.State.{thread_at, pending_at, place}
use Rattle.thread.specs.Thread.{is_blocked, no_server, no_thread}
use Rattle.state.specs.Sound.{no_account_tests, left_tests, account_test, present_test, absent_test, thread_test, totals, sound_tests, sound_state}

-- nothing pending
abbrev pub no_pending : Pending
no_pending = record { count = 0; dues = replicate 8 0; amounts = replicate 8 0 }

-- the ranges of each policy's parameters and of the number that says whether a thread is blocked, for omega
abbrev pub FifoTests : Parameters → ℕ → List Bool
FifoTests p blocked = leb 1 p.priority ∷ leb p.priority 32 ∷ eqb p.low 0 ∷ eqb p.max_repl 0 ∷ eqb p.budget 0 ∷ eqb p.period 0 ∷ eqb p.flag 0 ∷ leb blocked 1 ∷ []

abbrev pub RrTests : Parameters → ℕ → List Bool
RrTests p blocked =
    leb 1 p.priority ∷ leb p.priority 32 ∷ eqb p.low 0 ∷ eqb p.max_repl 0 ∷ leb 1 p.budget ∷ leb p.budget 1000000000 ∷ eqb p.period 0
    ∷ eqb p.flag 0 ∷ leb blocked 1 ∷ []

abbrev pub SporadicTests : Parameters → ℕ → List Bool
SporadicTests p blocked =
    leb 1 p.priority ∷ leb p.priority 32 ∷ leb 1 p.low ∷ ltb p.low p.priority ∷ leb 1 p.max_repl ∷ leb p.max_repl 8
    ∷ leb 1 p.budget ∷ leb p.budget p.period ∷ leb p.period 1000000000 ∷ eqb p.flag 0 ∷ leb blocked 1 ∷ []

-- what a sound state has at a place: dues are after lo, which is now in a sound state
pub data ThreadSound (start now lo : ℕ) (present : Bool) (t : Thread) (q : Pending) : Type 0 where
  absent : present ≡ false → t ≡ no_thread → q ≡ no_pending → ThreadSound start now lo present t q
  fifo : present ≡ true → t.parameters.policy ≡ 0 → All (FifoTests t.parameters t.blocked) → t.left ≡ 0 → t.server ≡ no_server → q ≡ no_pending
      → ThreadSound start now lo present t q
  rr : present ≡ true → t.parameters.policy ≡ 1 → All (RrTests t.parameters t.blocked) → All (leb 1 t.left ∷ leb t.left t.parameters.budget ∷ [])
      → t.server ≡ no_server → q ≡ no_pending → ThreadSound start now lo present t q
  sporadic : present ≡ true → t.parameters.policy ≡ 2 → All (SporadicTests t.parameters t.blocked) → t.left ≡ 0
      → AccountSound start now lo (runs_upper (is_blocked t) t.parameters (record { server = t.server; pending = q })) t.parameters
      (record { server = t.server; pending = q })
      → ThreadSound start now lo present t q

pub blocked-most : (start now lo : ℕ) (b : Bool) (t : Thread) (q : Pending) → ThreadSound start now lo b t q → t.blocked ≤ 1
blocked-most start now lo b t q (absent n e f) = omega (arith, ap (λ (x : Thread). x.blocked) e)
blocked-most start now lo b t q (fifo n z h l v f) = omega (tests, h)
blocked-most start now lo b t q (rr n z h l v f) = omega (tests, h)
blocked-most start now lo b t q (sporadic n z h l v) = omega (tests, h)

-- N, the times and the lengths
abbrev pub size_tests : State → List Bool
size_tests s =
    leb 1 s.header.n
    ∷ leb s.header.n 32
    ∷ leb s.header.start s.now
    ∷ leb s.now 1000000000000000
    ∷ eqb (length s.threads) 32
    ∷ eqb (length s.counts) 32
    ∷ eqb (length s.dues) 256
    ∷ eqb (length s.amounts) 256
    ∷ []

pub record SoundFrom (lo : ℕ → ℕ) (s : State) : Type 0 where
  pub sizes : All (size_tests s)
  pub each : (i : ℕ) → i < 32 → ThreadSound s.header.start s.now (lo i) (ltb i s.header.n) (thread_at s i) (pending_at s i)
  pub lists : ListsSound (place s) s.word s.lists
  pub timed : s.header.start + totals s.threads + s.idle ≡ s.now

abbrev pub Sound : State → Type 0
Sound s = SoundFrom (λ i. s.now) s

-- ---- a thread's part of the test

none_out : (s : Server) (q : Pending) → length q.dues ≡ 8 → length q.amounts ≡ 8 → All (no_account_tests s q) → (s ≡ no_server) × (q ≡ no_pending)
none_out s q d x h = (
  λ j. record { capacity = eqb-true s.capacity 0 h.0 j; used = eqb-true s.used 0 h.1.0 j; activation = eqb-true s.activation 0 h.1.1.0 j },
  λ j. record { count = eqb-true q.count 0 h.1.1.1.0 j; dues = row q.dues d h.1.1.1.1.0 j; amounts = row q.amounts x h.1.1.1.1.1.0 j },
)
  where
    row : (xs : List ℕ) → length xs ≡ 8 → all (zeros xs) ≡ true → xs ≡ replicate 8 0
    row xs l e = zeros-eq xs (all_true (zeros xs) e) ∙ ap (λ (n : ℕ). replicate n 0) l

none_in : (s : Server) (q : Pending) → s ≡ no_server → q ≡ no_pending → all (no_account_tests s q) ≡ true
unfolding all
none_in s q e f = subst⁻¹ (λ (x : Server). all (no_account_tests x q) ≡ true) e (subst⁻¹ (λ (y : Pending). all (no_account_tests no_server y) ≡ true) f refl)

-- the ranges by policy
pub range-out : (p : Parameters) → in_range 8 p ≡ true → (1 ≤ p.priority) × (p.priority ≤ 32) × (p.policy ≤ 2)
    × (by_policy p.policy (fifo_in_range p) (rr_in_range p) (sporadic_in_range 8 p) ≡ true)
unfolding in_range
range-out p e = let h = all_true _ e in (omega (tests, h.0), omega (tests, h.1.0), omega (tests, h.1.1.0), h.1.1.1.0)

range-in : (p : Parameters) (c : ℕ) → p.policy ≡ c → c ≤ 2 → 1 ≤ p.priority → p.priority ≤ 32
    → by_policy c (fifo_in_range p) (rr_in_range p) (sporadic_in_range 8 p) ≡ true → in_range 8 p ≡ true
unfolding in_range
range-in p c e l a b h = true-all _ (omega tests, (omega tests, (omega tests, (ap (λ (k : ℕ). by_policy k (fifo_in_range p) (rr_in_range p) (sporadic_in_range 8 p)) e ∙ h, tt))))

pub fifo-out : (p : Parameters) → fifo_in_range p ≡ true → All (eqb p.low 0 ∷ eqb p.max_repl 0 ∷ eqb p.budget 0 ∷ eqb p.period 0 ∷ [])
unfolding fifo_in_range
fifo-out p e = all_true _ e

fifo-in : (p : Parameters) → All (eqb p.low 0 ∷ eqb p.max_repl 0 ∷ eqb p.budget 0 ∷ eqb p.period 0 ∷ []) → fifo_in_range p ≡ true
unfolding fifo_in_range
fifo-in p h = true-all _ h

pub rr-out : (p : Parameters) → rr_in_range p ≡ true
    → All (eqb p.low 0 ∷ eqb p.max_repl 0 ∷ leb 1 p.budget ∷ leb p.budget 1000000000 ∷ eqb p.period 0 ∷ [])
unfolding rr_in_range
rr-out p e = all_true _ e

rr-in : (p : Parameters) → All (eqb p.low 0 ∷ eqb p.max_repl 0 ∷ leb 1 p.budget ∷ leb p.budget 1000000000 ∷ eqb p.period 0 ∷ [])
    → rr_in_range p ≡ true
unfolding rr_in_range
rr-in p h = true-all _ h

pub sporadic-out : (p : Parameters) → sporadic_in_range 8 p ≡ true
    → All (leb 1 p.low ∷ ltb p.low p.priority ∷ leb 1 p.max_repl ∷ leb p.max_repl 8 ∷ leb 1 p.budget ∷ leb p.budget p.period ∷ leb p.period 1000000000 ∷ [])
unfolding sporadic_in_range
sporadic-out p e = all_true _ e

sporadic-in : (p : Parameters)
    → All (leb 1 p.low ∷ ltb p.low p.priority ∷ leb 1 p.max_repl ∷ leb p.max_repl 8 ∷ leb 1 p.budget ∷ leb p.budget p.period ∷ leb p.period 1000000000 ∷ [])
    → sporadic_in_range 8 p ≡ true
unfolding sporadic_in_range
sporadic-in p h = true-all _ h

-- one thread below N
present-out : (start now : ℕ) (t : Thread) (q : Pending) → length q.dues ≡ 8 → length q.amounts ≡ 8 → present_test start now t q ≡ true
    → ThreadSound start now now true t q
unfolding present_test fifo_in_range rr_in_range sporadic_in_range sound_at
present-out start now t q d x e = go t.parameters.policy refl (all_true _ e)
  where
    go : (c : ℕ) → t.parameters.policy ≡ c
        → All (in_range 8 t.parameters ∷ eqb t.parameters.flag 0 ∷ leb t.blocked 1 ∷ all (left_tests t) ∷ account_test start now t q ∷ [])
        → ThreadSound start now now true t q
    go zero z h =
        let r = range-out t.parameters h.0 in
        let f = fifo-out t.parameters (rw z at r.3) in
        let n = none_out t.server q d x (all_true (no_account_tests t.server q) (rw z at h.1.1.1.1.0)) in
        let l = all_true (eqb t.left 0 ∷ []) (rw z at h.1.1.1.0) in
        fifo refl z (omega (tests, r.0, r.1, f, h.1.0, h.1.1.0)) (omega (tests, l)) n.0 n.1
    go (suc zero) z h =
        let r = range-out t.parameters h.0 in
        let f = rr-out t.parameters (rw z at r.3) in
        let n = none_out t.server q d x (all_true (no_account_tests t.server q) (rw z at h.1.1.1.1.0)) in
        let l = all_true (leb 1 t.left ∷ leb t.left t.parameters.budget ∷ []) (rw z at h.1.1.1.0) in
        rr refl z (omega (tests, r.0, r.1, f, h.1.0, h.1.1.0)) l n.0 n.1
    go (suc (suc zero)) z h =
        let r = range-out t.parameters h.0 in
        let f = sporadic-out t.parameters (rw z at r.3) in
        let l = all_true (eqb t.left 0 ∷ []) (rw z at h.1.1.1.0) in
        sporadic refl z (omega (tests, r.0, r.1, f, h.1.0, h.1.1.0)) (omega (tests, l))
        (sound-out start now (is_blocked t) t.parameters (record { server = t.server; pending = q }) (rw z at h.1.1.1.1.0))
    go (suc (suc (suc n))) z h = absurd (omega (arith, (range-out t.parameters h.0).2))

zero-out : (p : Parameters) → all_zero p ≡ true → p ≡ no_parameters
unfolding all_zero
zero-out p e =
    let h = all_true _ e in
    let f = fifo-out p h.1.1.1.0 in
    λ j. record {
      policy = eqb-true p.policy 0 h.0 j;
      priority = eqb-true p.priority 0 h.1.0 j;
      low = eqb-true p.low 0 f.0 j;
      max_repl = eqb-true p.max_repl 0 f.1.0 j;
      flag = eqb-true p.flag 0 h.1.1.0 j;
      budget = eqb-true p.budget 0 f.1.1.0 j;
      period = eqb-true p.period 0 f.1.1.1.0 j;
    }

-- a place from N on
absent-out : (start now lo : ℕ) (t : Thread) (q : Pending) → length q.dues ≡ 8 → length q.amounts ≡ 8 → absent_test t q ≡ true → ThreadSound start now lo false t q
unfolding absent_test
absent-out start now lo t q d x e =
    let h = all_true _ e in
    let n = none_out t.server q d x (all_true (no_account_tests t.server q) h.1.1.1.1.0) in
    absent refl
    (λ j. record {
      parameters = zero-out t.parameters h.0 j;
      blocked = eqb-true t.blocked 0 h.1.0 j;
      total = eqb-true t.total 0 h.1.1.0 j;
      left = eqb-true t.left 0 h.1.1.1.0 j;
      server = n.0 j;
    }) n.1

absent-in : (t : Thread) (q : Pending) → t ≡ no_thread → q ≡ no_pending → absent_test t q ≡ true
unfolding absent_test all_zero fifo_in_range all
absent-in t q z n = subst⁻¹ (λ (x : Thread). absent_test x q ≡ true) z (subst⁻¹ (λ (y : Pending). absent_test no_thread y ≡ true) n refl)

-- the parts of a present thread's test at a known policy
present-in : (start now : ℕ) (t : Thread) (q : Pending) (c : ℕ) → t.parameters.policy ≡ c → in_range 8 t.parameters ≡ true → t.parameters.flag ≡ 0 → t.blocked ≤ 1
    → all (by_policy c (eqb t.left 0 ∷ []) (leb 1 t.left ∷ leb t.left t.parameters.budget ∷ []) (eqb t.left 0 ∷ [])) ≡ true
    → by_policy c (all (no_account_tests t.server q)) (all (no_account_tests t.server q))
    (sound_at start now (is_blocked t) t.parameters (record { server = t.server; pending = q })) ≡ true
    → present_test start now t q ≡ true
unfolding present_test
present-in start now t q c z r f b l a =
    true-all _ (
      r,
      (
        omega tests,
        (
          omega tests,
          (
            ap (λ (k : ℕ). all (by_policy k (eqb t.left 0 ∷ []) (leb 1 t.left ∷ leb t.left t.parameters.budget ∷ []) (eqb t.left 0 ∷ []))) z ∙ l,
            (
              ap (λ (k : ℕ). by_policy k (all (no_account_tests t.server q)) (all (no_account_tests t.server q))
                  (sound_at start now (is_blocked t) t.parameters (record { server = t.server; pending = q }))) z ∙ a,
              tt,
            ),
          ),
        ),
      ),
    )

thread-in : (start now : ℕ) (b : Bool) (t : Thread) (q : Pending) → ThreadSound start now now b t q → cond b (present_test start now t q) (absent_test t q) ≡ true
thread-in start now b t q (absent e z n) = cond-false b _ _ e ∙ absent-in t q z n
thread-in start now b t q (fifo e z h l a n) =
    cond-true b _ _ e
    ∙ present-in start now t q 0 z
    (range-in t.parameters 0 z (omega arith) (omega (tests, h)) (omega (tests, h)) (fifo-in t.parameters (omega (tests, h))))
    (omega (tests, h)) (omega (tests, h)) (true-all (eqb t.left 0 ∷ []) (omega tests)) (none_in t.server q a n)
thread-in start now b t q (rr e z h l a n) =
    cond-true b _ _ e
    ∙ present-in start now t q 1 z
    (range-in t.parameters 1 z (omega arith) (omega (tests, h)) (omega (tests, h)) (rr-in t.parameters (omega (tests, h))))
    (omega (tests, h)) (omega (tests, h)) (true-all (leb 1 t.left ∷ leb t.left t.parameters.budget ∷ []) l) (none_in t.server q a n)
thread-in start now b t q (sporadic e z h l a) =
    cond-true b _ _ e
    ∙ present-in start now t q 2 z
    (range-in t.parameters 2 z (omega arith) (omega (tests, h)) (omega (tests, h)) (sporadic-in t.parameters (omega (tests, h))))
    (omega (tests, h)) (omega (tests, h)) (true-all (eqb t.left 0 ∷ []) (omega tests))
    (sound-in start now (is_blocked t) t.parameters (record { server = t.server; pending = q }) a)

thread-out : (start now : ℕ) (b : Bool) (t : Thread) (q : Pending) → length q.dues ≡ 8 → length q.amounts ≡ 8
    → cond b (present_test start now t q) (absent_test t q) ≡ true → ThreadSound start now now b t q
thread-out start now true t q d x e = present-out start now t q d x e
thread-out start now false t q d x e = absent-out start now now t q d x e

-- ---- the state

pub state-out : (s : State) → sound_state s ≡ true → Sound s
unfolding sound_state
state-out s e =
    let h = all_true (sound_tests s) e in
    let z : All (size_tests s) = (h.0, (h.1.0, (h.1.1.0, (h.1.1.1.0, (h.1.1.1.1.0, (h.1.1.1.1.1.0, (h.1.1.1.1.1.1.0, (h.1.1.1.1.1.1.1.0, tt)))))))) in
    record {
      sizes = z;
      each = λ i l.
          thread-out s.header.start s.now (ltb i s.header.n) (thread_at s i) (pending_at s i)
          (row-length i s.dues l (omega (tests, z))) (row-length i s.amounts l (omega (tests, z)))
          (below_at 32 (thread_test s) h.1.1.1.1.1.1.1.1.0 i l);
      lists = sound-true (place s) s.word s.lists h.1.1.1.1.1.1.1.1.1.0;
      timed = eqb-true _ _ h.1.1.1.1.1.1.1.1.1.1.0;
    }

pub state-in : (s : State) → Sound s → sound_state s ≡ true
unfolding sound_state
state-in s h =
    let z = h.sizes in
    true-all (sound_tests s) (
      z.0,
      (
        z.1.0,
        (
          z.1.1.0,
          (
            z.1.1.1.0,
            (
              z.1.1.1.1.0,
              (
                z.1.1.1.1.1.0,
                (
                  z.1.1.1.1.1.1.0,
                  (
                    z.1.1.1.1.1.1.1.0,
                    (
                      at-below 32 (thread_test s) (λ i l. thread-in s.header.start s.now (ltb i s.header.n) (thread_at s i) (pending_at s i) (h.each i l)),
                      (
                        true-sound (place s) s.word s.lists h.lists,
                        (eq-eqb (s.header.start + totals s.threads + s.idle) s.now h.timed, tt),
                      ),
                    ),
                  ),
                ),
              ),
            ),
          ),
        ),
      ),
    )

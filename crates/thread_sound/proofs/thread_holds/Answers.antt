-- `thread_sound::thread_holds` meets its contract: the thread's fields, and then its account.
use Prim.Native.Nat.{ℕ, ◌+◌, ◌-◌, ◌*◌, ◌≤◌, ◌<◌}
use mathlib.Core.Bool.{Bool, true, false, cond}
use mathlib.Core.Path.{◌≡◌, sym, ap, ap₂, ◌∙◌}
use mathlib.Core.List.{List, [], ◌∷◌}
use native.Mathlib.Omega.{arith}
use borrow.Author.Tests.{eq-eqb, ne_eqb}
use lib.ListN.{take, drop, get_or}
use lib.Dec.{eqb}
use Rattle.base.specs.Tests.{all, zeros}
use Rattle.base.proofs.TestLaws.{all-false, all_one, cond-true, cond-false}
use Rattle.account.specs.declared.Pending.{Pending}
use Rattle.account.specs.Sound.{sound_at}
use Rattle.account_lent.specs.Lent.{account_of}
use Rattle.rows.specs.Rows.{slots_at, pending_of}
use Rattle.thread.specs.declared.Thread.{Thread}
use Rattle.thread.specs.Thread.{is_blocked}
use Rattle.state.specs.Sound.{server_tests, no_account_tests, account_test, present_fields, present_test}
use Rattle.state.proofs.TestLaws.{all_append}
use Rattle.records.proofs.PolicyLaws.{policy-low, policy-sporadic}
use Rattle.thread_sound.proofs.thread_holds.Goals as goal

-- what is lent are thread i's slots
lent : (i : ℕ) (xs : List ℕ) → take (i * 8 + 8 - i * 8) (drop (i * 8) xs) ≡ slots_at i xs
lent i xs = let e : i * 8 + 8 - i * 8 ≡ 8 = omega arith in ap (λ (n : ℕ). take n (drop (i * 8) xs)) e

module _ (start now : ℕ) (t : Thread) (q : Pending) where
  abbrev absent : Bool
  absent = all (no_account_tests t.server q)

  abbrev held : Bool
  held = sound_at start now (is_blocked t) t.parameters (record { server = t.server; pending = q })

  parts : present_test start now t q ≡ cond (all (present_fields t)) (account_test start now t q) false
  unfolding present_test all
  parts = all_append (present_fields t) (account_test start now t q ∷ []) ∙ ap (λ (x : Bool). cond (all (present_fields t)) x false) (all_one (account_test start now t q))

  refused : all (present_fields t) ≡ false → false ≡ present_test start now t q
  refused e = sym (parts ∙ cond-false _ _ _ e)

  some : (r : Bool) → all (present_fields t) ≡ true → 1 < t.parameters.policy → r ≡ held → r ≡ present_test start now t q
  some r f h e = e ∙ sym (parts ∙ cond-true _ _ _ f ∙ policy-sporadic t.parameters.policy absent absent held (omega arith))

  none : (r : Bool) → all (present_fields t) ≡ true → t.parameters.policy ≤ 1 → r ≡ absent → r ≡ present_test start now t q
  none r f h e = e ∙ sym (parts ∙ cond-true _ _ _ f ∙ policy-low t.parameters.policy absent held (omega arith))

  -- the slots decide, where there is no server and no count
  slots : all (server_tests t.server) ≡ true → q.count ≡ 0 → all (all (zeros q.dues) ∷ all (zeros q.amounts) ∷ []) ≡ absent
  unfolding all
  slots e f =
      let rest = eqb q.count 0 ∷ all (zeros q.dues) ∷ all (zeros q.amounts) ∷ [] in
      let g : all rest ≡ all (all (zeros q.dues) ∷ all (zeros q.amounts) ∷ []) = simp (eq-eqb q.count 0 f) in
      sym (all_append (server_tests t.server) rest ∙ cond-true _ _ _ e ∙ g)

-- the account was judged on the slots that were lent
judged : (start now : ℕ) (t : Thread) (counts dues amounts : List ℕ) (i : ℕ) {r : Bool}
    → r ≡ sound_at start now (is_blocked t) t.parameters
    (account_of t.server (get_or counts i 0) (take (i * 8 + 8 - i * 8) (drop (i * 8) dues)) (take (i * 8 + 8 - i * 8) (drop (i * 8) amounts)))
    → r ≡ sound_at start now (is_blocked t) t.parameters (record { server = t.server; pending = pending_of counts dues amounts i })
judged start now t counts dues amounts i e =
    e
    ∙ ap₂ (λ (ds xs : List ℕ). sound_at start now (is_blocked t) t.parameters (account_of t.server (get_or counts i 0) ds xs)) (lent i dues) (lent i amounts)

pub returns-then-not-present_fields : goal.returns-then-not-present_fields
returns-then-not-present_fields c =
    let a = c.args in
    let q = pending_of a.counts.now a.dues.now a.amounts.now a.i in
    refused a.start a.time a.t q (sym c.present_fields.ensures ∙ c.if-not-present_fields.true)

pub returns-then-t-gt-SCHED_RR : goal.returns-then-t-gt-SCHED_RR
returns-then-t-gt-SCHED_RR c =
    let a = c.args in
    let q = pending_of a.counts.now a.dues.now a.amounts.now a.i in
    some a.start a.time a.t q _ (sym c.present_fields.ensures ∙ c.if-not-present_fields.false) c.if-t-gt-SCHED_RR.true
    (judged a.start a.time a.t a.counts.now a.dues.now a.amounts.now a.i c.sound_lent.ensures)

pub returns-then-not-no_server : goal.returns-then-not-no_server
returns-then-not-no_server c =
    let a = c.args in
    let q = pending_of a.counts.now a.dues.now a.amounts.now a.i in
    none a.start a.time a.t q _ (sym c.present_fields.ensures ∙ c.if-not-present_fields.false) c.if-t-gt-SCHED_RR.false
    (sym (all_append (server_tests a.t.server) _ ∙ cond-false _ _ _ (sym c.no_server.ensures ∙ c.if-not-no_server.true)))

pub returns-then-counts-i-ne0 : goal.returns-then-counts-i-ne0
returns-then-counts-i-ne0 c =
    let a = c.args in
    let q = pending_of a.counts.now a.dues.now a.amounts.now a.i in
    none a.start a.time a.t q _ (sym c.present_fields.ensures ∙ c.if-not-present_fields.false) c.if-t-gt-SCHED_RR.false
    (sym (all-false (no_account_tests a.t.server q) 3 (ne_eqb _ _ c.if-counts-i-ne0.true)))

pub returns : goal.returns
returns c =
    let a = c.args in
    let q = pending_of a.counts.now a.dues.now a.amounts.now a.i in
    none a.start a.time a.t q _ (sym c.present_fields.ensures ∙ c.if-not-present_fields.false) c.if-t-gt-SCHED_RR.false
    (c.clear_slots.ensures
    ∙ ap₂ (λ (ds xs : List ℕ). all (all (zeros ds) ∷ all (zeros xs) ∷ [])) (lent a.i a.dues.now) (lent a.i a.amounts.now)
    ∙ slots a.start a.time a.t q (sym c.no_server.ensures ∙ c.if-not-no_server.false) c.if-counts-i-ne0.false)

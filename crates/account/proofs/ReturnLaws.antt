-- What is due comes back one entry after the other.
use Prim.Native.Nat.{ℕ, zero, suc, ◌-◌, ◌<◌}
use mathlib.Core.Bool.{Bool, true, false, ◌&&◌}
use mathlib.Core.Path.{◌≡◌, refl, sym, ap, ◌∙◌}
use lib.ListN.{get_or}
use lib.Dec.{ltb, leb}
use native.Mathlib.Omega.{arith}
use borrow.Author.Tests.{ltb-true}
use Rattle.base.proofs.TestLaws.{false-true}
use Rattle.records.specs.declared.Parameters.{Parameters}
use Rattle.account.specs.declared.Pending.{Pending}
use Rattle.account.specs.declared.Account.{Account}
use Rattle.sporadic.specs.declared.Effect.{Effect}
use Rattle.account.specs.Rules.{count_after, applied, first_is_due, return_first, returned}
use Rattle.sporadic.proofs.EffectLaws.{return-elim}

pub due-some : (now : ℕ) (q : Pending) → first_is_due now q ≡ true → 0 < q.count
due-some now q e = go (ltb 0 q.count) refl e
  where
    go : (b : Bool) → ltb 0 q.count ≡ b → (b && leb (get_or q.dues 0 0) now) ≡ true → 0 < q.count
    go true f r = ltb-true 0 q.count f
    go false f r = false-true r

module _ (now : ℕ) (b : Bool) (p : Parameters) where
  pub first_counted : (a : Account) → 0 < a.pending.count → (applied (return_first now b p a) a).pending.count ≡ a.pending.count - 1
  first_counted a c =
      let n = a.pending.count in
      return-elim now p a.server b n (get_or a.pending.amounts 0 0) (λ (e : Effect). count_after e.first e.amount n ≡ n - 1) (λ z. omega arith) (λ c u. refl) (λ c f u. refl)

  module _ (a : Account) where
    abbrev next : Account
    next = applied (return_first now b p a) a

    returned-step : (k : ℕ) → first_is_due now a.pending ≡ true → returned (suc k) now b p a ≡ returned k now b p next
    unfolding returned
    returned-step k e = simp e

    -- as many as are pending
    pub returned-more : first_is_due now a.pending ≡ true → returned next.pending.count now b p next ≡ returned a.pending.count now b p a
    returned-more e = go a.pending.count refl
      where
        go : (n : ℕ) → a.pending.count ≡ n → returned next.pending.count now b p next ≡ returned a.pending.count now b p a
        go zero q = absurd (omega (arith, due-some now a.pending e))
        go (suc n) q =
            let m : next.pending.count ≡ n = first_counted a (omega arith) ∙ omega arith in
            ap (λ (k : ℕ). returned k now b p next) m ∙ sym (returned-step n e) ∙ ap (λ (k : ℕ). returned k now b p a) (sym q)

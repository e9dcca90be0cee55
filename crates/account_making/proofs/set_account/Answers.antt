-- `account_making::set_account` meets its contract.
use Prim.Native.Nat.{ℕ, zero, suc, ◌<◌}
use mathlib.Core.Path.{◌≡◌, refl, ◌∙◌}
use native.Mathlib.Omega.{arith}
use Rattle.records.specs.Ranges.{by_policy}
use Rattle.account_making.proofs.set_account.Goals as goal

-- nothing is carried over where one of the two policies is not sporadic
anew : {A : Type 0} (old new : ℕ) (x y z : A) → (1 < old → new < 2)
    → by_policy new x x y ≡ by_policy old (by_policy new x x y) (by_policy new x x y) (by_policy new x x z)
anew zero new x y z h = refl
anew (suc zero) new x y z h = refl
anew (suc (suc old)) zero x y z h = refl
anew (suc (suc old)) (suc zero) x y z h = refl
anew (suc (suc old)) (suc (suc new)) x y z h = let l = h (omega arith) in absurd (omega arith)

pub returns-then-old-lt-SCHED_SPORADIC : goal.returns-then-old-lt-SCHED_SPORADIC
returns-then-old-lt-SCHED_SPORADIC c =
    let a = c.args in
    c.new_account.ensures ∙ anew a.old.policy a.new.policy _ _ _ (λ l. omega arith)

-- Laws of the slots of pending replenishments: the first `count` are in use.
use Prim.Native.Nat.{ℕ, ◌+◌, ◌≤◌, ◌<◌}
use mathlib.Core.Bool.{Bool, true, false, cond}
use mathlib.Core.Path.{◌≡◌, refl, ◌∙◌}
use mathlib.Core.List.{List, [], ◌∷◌}
use lib.ListN.{length, drop, length-append, length-drop}
use native.Mathlib.Omega.{arith}
use lib.Dec.{eqb}
use borrow.Author.Tests.{eqb-false}
use Rattle.base.proofs.TestLaws.{cond-elim}
use Rattle.entries.specs.Entries.{slot_for, inserted, slots_after}
use Rattle.entries.proofs.InsertLaws.{inserted-length}
use Rattle.account.specs.declared.Pending.{Pending}
use Rattle.sporadic.specs.declared.Effect.{Effect}
use Rattle.account.specs.Rules.{pending_after}

pub slots_length : (first : Bool) (amount k count x : ℕ) (xs : List ℕ) → 0 < length xs → (first ≡ false → 0 < amount → (k ≤ count) × (count < length xs))
    → length (slots_after first amount k count x xs) ≡ length xs
slots_length true amount k count x xs l h = length-append (drop 1 xs) (0 ∷ []) ∙ omega (arith, length-drop 1 xs)
slots_length false amount k count x xs l h =
    cond-elim (λ (ys : List ℕ). length ys ≡ length xs) (eqb amount 0) xs (inserted k count x xs) (λ e. refl)
    (λ e. let r = h refl (omega (arith, eqb-false amount 0 e)) in inserted-length k count x xs r.0 r.1)

-- one more entry, in due order
abbrev pub with_entry : ℕ → ℕ → Pending → Pending
with_entry due amount q =
    record {
      count = q.count + 1;
      dues = inserted (slot_for due q.count q.dues) q.count due q.dues;
      amounts = inserted (slot_for due q.count q.dues) q.count amount q.amounts;
    }

-- where no entry goes: none more, or one in due order
pub added-elim : (P : Pending → Type 0) (e : Effect) (q : Pending) → e.first ≡ false → P q
    → (0 < e.amount → P (with_entry e.due e.amount q)) → P (pending_after e q)
added-elim P e q f x y = rw f (go (eqb e.amount 0) refl)
  where
    k : ℕ
    k = slot_for e.due q.count q.dues

    go : (b : Bool) → eqb e.amount 0 ≡ b
        → P (record {
          count = cond b q.count (q.count + 1);
          dues = cond b q.dues (inserted k q.count e.due q.dues);
          amounts = cond b q.amounts (inserted k q.count e.amount q.amounts);
        })
    go true z = x
    go false z = y (omega (arith, eqb-false e.amount 0 z))

-- The next due where one thread's entries change.
use Prim.Native.Nat.{ℕ, ◌*◌, ◌≤◌, ◌<◌}
use mathlib.Core.Bool.{false}
use mathlib.Core.Path.{◌≡◌, refl, sym, ap, ◌∙◌}
use mathlib.Core.List.{List}
use lib.ListN.{length, get_or, set}
use lib.Seq.{get_or-set_same, get_or-set_other}
use native.Mathlib.Omega.{arith}
use Rattle.account.specs.declared.Pending.{Pending}
use Rattle.sporadic.specs.declared.Effect.{Effect}
use Rattle.account.specs.Rules.{slot_for, Room, pending_after}
use Rattle.entries.proofs.InsertLaws.{slot-for, inserted-length, inserted-first}
use Rattle.account.proofs.EntryLaws.{added-elim}
use Rattle.rows.specs.Rows.{with_slots}
use Rattle.rows.proofs.RowLaws.{row_first}
use Rattle.due_search.specs.declared.Due.{Due}
use Rattle.due_search.specs.Search.{next_due}
use Rattle.due_search.specs.Kept.{EntryCame}
use Rattle.moments.proofs.ChangeLaws.{row_at, row_other}

-- thread k has the entries q, the first due no later than before: the next due is found without a search
module _ (counts dues : List ℕ) (n k : ℕ) (m : n ≤ 32) (l : k < 32) (lc : length counts ≡ 32) (ld : length dues ≡ 256)
    (q : Pending) (lq : length q.dues ≡ 8) (present : 0 < q.count → k < n)
    (keeps : 0 < get_or counts k 0 → (0 < q.count) × (get_or q.dues 0 0 ≤ get_or dues (k * 8) 0)) where
  abbrev counts' : List ℕ
  counts' = set counts k q.count

  abbrev dues' : List ℕ
  dues' = with_slots k q.dues dues

  pub came : (x : Due) → x ≡ next_due counts dues n → EntryCame x k q.count (get_or dues' (k * 8) 0) counts' dues' n
  came x e =
      record {
        small = m;
        counted = get_or-set_same counts k q.count 0 (omega arith);
        due = refl;
        present = present;
        counts_before = counts;
        dues_before = dues;
        first = e;
        kept = λ c. let y = keeps c in (y.0, omega (arith, y.1, due-here));
        others = λ i d. (
          get_or-set_other counts k i q.count 0 d,
          sym (row_first i dues') ∙ ap (λ (r : List ℕ). get_or r 0 0) (row_other k q.dues dues l ld lq i d) ∙ row_first i dues,
        );
      }
    where
      due-here : get_or dues' (k * 8) 0 ≡ get_or q.dues 0 0
      due-here = sym (row_first k dues') ∙ ap (λ (r : List ℕ). get_or r 0 0) (row_at k q.dues dues l ld lq)

-- ---- what a limit does to the pending entries: none more, or one in due order

pub limit-entries : (e : Effect) (q : Pending) → e.first ≡ false → Room e.first e.amount q.count → length q.dues ≡ 8
    → (length (pending_after e q).dues ≡ 8) × (0 < q.count → (0 < (pending_after e q).count) × (get_or (pending_after e q).dues 0 0 ≤ get_or q.dues 0 0))
limit-entries e q f r l =
    added-elim (λ (w : Pending). (length w.dues ≡ 8) × (0 < q.count → (0 < w.count) × (get_or w.dues 0 0 ≤ get_or q.dues 0 0))) e q f (l, λ c. (c, omega arith))
    (λ u.
    let n : q.count < length q.dues = omega (arith, r.1 f u) in (
      inserted-length (slot_for e.due q.count q.dues) q.count e.due q.dues (slot-for e.due q.count q.dues).within n ∙ l,
      λ c. (omega arith, inserted-first e.due q.count q.dues c n),
    ))

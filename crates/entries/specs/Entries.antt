-- The slots of an account's pending entries: an entry comes in due order, and the first one goes.
use Rattle.std.specs.Prelude.{ℕ, zero, suc, ◌+◌, ◌-◌, ◌<◌}
use mathlib.Core.{Bool.Bool, Bool.true, Bool.false, Bool.cond, Path.◌≡◌, List.List, List.[], List.◌∷◌, List.◌++◌}
use lib.{ListN.take, ListN.drop, ListN.get_or, Dec.leb, Dec.eqb}
use Rattle.records.specs.Ranges.{most_replenishments}

-- how many pending replenishments there are slots for: as many as max_repl allows
abbrev pub entries : ℕ
entries = most_replenishments

-- the first slot's number is gone, and the others move up
abbrev pub without_first : List ℕ → List ℕ
without_first xs = drop 1 xs ++ 0 ∷ []

-- 02 E7 3: of the first n dues, how many stand before one that is due at d: those up to the last that is due at d or earlier
unfoldable pub slot_for : ℕ → ℕ → List ℕ → ℕ
slot_for d zero ds = 0
slot_for d (suc n) ds = cond (leb (get_or ds n 0) d) (suc n) (slot_for d n ds)

-- x at slot k of the first n numbers; those from k on move one slot down, over the one at n
unfoldable pub inserted : ℕ → ℕ → ℕ → List ℕ → List ℕ
inserted k n x xs = take k xs ++ (x ∷ (take (n - k) (drop k xs) ++ drop (n + 1) xs))

-- the count, and the slots of dues or of amounts, after a rule: the first entry is gone, or one more stands at slot k, of which x is
-- the due time or the amount; amount 0 adds nothing
abbrev pub count_after : Bool → ℕ → ℕ → ℕ
count_after first amount count = cond first (count - 1) (cond (eqb amount 0) count (count + 1))

abbrev pub slots_after : Bool → ℕ → ℕ → ℕ → ℕ → List ℕ → List ℕ
slots_after first amount k count x xs = cond first (without_first xs) (cond (eqb amount 0) xs (inserted k count x xs))

-- what that needs: an entry to go, or a free slot
abbrev pub Room : Bool → ℕ → ℕ → Type 0
Room first amount count = (first ≡ true → 0 < count) × (first ≡ false → 0 < amount → count < entries)

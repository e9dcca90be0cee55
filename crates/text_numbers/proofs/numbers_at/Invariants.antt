-- `text_numbers::numbers_at` meets its contract: the numbers found so far and those that the rest of the text would give are all.
use Rattle.std.proofs.Common.{◌≤◌, length, drop}
use Rattle.text_numbers.proofs.NumberLaws.{Left}
use Rattle.text_numbers.proofs.numbers_at.Given as goal

abbrev pub invariant-loop-i : goal.invariant-loop-i
invariant-loop-i l = (l.i ≤ length l.most) × Left l.most (drop l.place l.text) l.text l.values l.at l.i

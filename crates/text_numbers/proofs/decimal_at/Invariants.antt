-- `text_numbers::decimal_at` meets its contract: the bytes passed are the digits of a number that is right so far.
use Rattle.std.proofs.Common.{◌-◌, ◌≤◌, drop}
use Rattle.text_numbers.proofs.NumberLaws.{Scanned}
use Rattle.text_numbers.proofs.decimal_at.Given as goal

abbrev pub invariant-loop-i : goal.invariant-loop-i
invariant-loop-i l = (l.place ≤ l.i) × Scanned l.most (drop l.place l.text) (l.i - l.place) l.value

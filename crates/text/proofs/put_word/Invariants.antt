-- `text::put_word` meets its contract: the bytes so far are the word's first i.
use mathlib.Core.Path.{◌≡◌}
use lib.ListN.{length, take}
use Rattle.text.specs.Placed.{Put}
use Rattle.text.proofs.put_word.Given as goal

abbrev pub invariant-loop-i : goal.invariant-loop-i
invariant-loop-i l = (length l.out ≡ length l.initial.out) × Put l.initial.out l.at (take l.i l.word) l.out l.here

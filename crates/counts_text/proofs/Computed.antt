-- Lines by computing: the bytes of a text as it is read.
use mathlib.Core.Path.{◌≡◌, refl}
use mathlib.Core.List.{List, [], ◌∷◌, ◌++◌}
use Prim.Native.Nat.{ℕ}
use lib.ListN.{replicate}
use Rattle.base.specs.Tests.{all}
use Rattle.text.specs.Decimal.{digits, decimal}
use Rattle.text.specs.Fields.{space, newline, field, row}
use Rattle.trace.specs.Lists.{joined}
use Rattle.counts_text.specs.Lines.{event_word, count_word, sum_word, event_line, four_line, quiet, count_line, event_text, sums_text}
use Rattle.counts_text.specs.Sums.{added}

-- thread 1 reached its limit 12 times and 2 replenishments brought back 30; nothing happened to thread 0
abbrev told : List ℕ
told = 0 ∷ 0 ∷ 0 ∷ 0 ∷ 12 ∷ 0 ∷ 2 ∷ 30 ∷ replicate 120 0

-- `event 3 0`, and `count 1 12 0 2 30`
event-row : event_text 3 0 2 told ≡ event_word ++ (51 ∷ space ∷ 48 ∷ newline ∷ []) ++ count_word ++ (49 ∷ space ∷ 49 ∷ 50 ∷ space ∷ 48 ∷ space ∷ 50 ∷ space ∷ 51 ∷ 48 ∷ newline ∷ [])
unfolding event_text event_line count_line quiet four_line all joined field row decimal digits
event-row = refl

-- `sum 0 0 0 0 0`, and `sum 1 12 0 2 30`
sums-row : sums_text 2 told
    ≡ sum_word ++ (48 ∷ space ∷ 48 ∷ space ∷ 48 ∷ space ∷ 48 ∷ space ∷ 48 ∷ newline ∷ [])
    ++ sum_word ++ (49 ∷ space ∷ 49 ∷ 50 ∷ space ∷ 48 ∷ space ∷ 50 ∷ space ∷ 51 ∷ 48 ∷ newline ∷ [])
unfolding sums_text four_line joined field row decimal digits
sums-row = refl

added-row : added (1 ∷ 2 ∷ 3 ∷ []) (10 ∷ 20 ∷ 30 ∷ []) ≡ 11 ∷ 22 ∷ 33 ∷ []
unfolding added
added-row = refl

-- The loop of `opening::opened`: the first k threads have entered.
use mathlib.Core.Path.{◌≡◌}
use Rattle.state.specs.Updates.{whole}
use Rattle.events.specs.Opening.{empty_state, entered_below}
use Rattle.opening.proofs.opened.Given as goal

abbrev pub invariant-loop-k : goal.invariant-loop-k
invariant-loop-k l = whole l.s l.dues l.amounts ≡ entered_below l.k l.fn.table (empty_state l.fn.header)

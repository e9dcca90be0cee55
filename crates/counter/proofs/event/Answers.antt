-- `counter::event` meets its contract.
use Rattle.std.proofs.Common.{◌∙◌}
use Rattle.counter.proofs.CounterLaws.{guarded-same}
use Rattle.counter.proofs.event.Goals as goal

pub returns : goal.returns
returns c =
    let same = guarded-same _ _ _ c.guarded_time.ensures in
    record { amounts_after = c.event.ensures.amounts_after ∙ same.0; numbers = c.event.ensures.numbers ∙ same.1 }

-- `counts_event::put_count` meets its contract: no line, or the thread's.
use mathlib.Core.Path.{sym, ◌∙◌}
use native.Mathlib.Omega.{arith}
use Rattle.text.proofs.PlacedLaws.{nothing}
use Rattle.counts_text.proofs.LineLaws.{quiet_put, count-put}
use Rattle.counts_event.proofs.put_count.Goals as goal

pub returns-then-is_quiet : goal.returns-then-is_quiet
returns-then-is_quiet c =
    let a = c.args in
    record { put = quiet_put a.xs.now a.i (sym c.if-is_quiet.true ∙ c.is_quiet.ensures) (nothing a.out.now a.at); upper_bound = omega arith }

pub returns : goal.returns
returns c =
    let a = c.args in
    record { put = count-put a.xs.now a.i (sym c.if-is_quiet.false ∙ c.is_quiet.ensures) c.put_thread.ensures.put; upper_bound = c.put_thread.ensures.upper_bound }

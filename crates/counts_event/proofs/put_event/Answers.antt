-- `counts_event::put_event` meets its contract: the lines so far are the event's and those of the first t threads.
use mathlib.Core.Path.{◌≡◌, refl, ◌∙◌}
use native.Mathlib.Omega.{arith}
use Rattle.counts_text.specs.Lines.{count_line}
use Rattle.counts_text.proofs.LineLaws.{event-put, lines_none, lines_next}
use Rattle.counts_event.proofs.put_event.Goals as goal

pub put_event_line-here-requires : goal.put_event_line-here-requires
put_event_line-here-requires c = (omega (arith, c.requires.0), omega (arith, c.requires.2))

pub loop-t-init : goal.loop-t-init
loop-t-init c = (omega arith, refl, omega arith, lines_none _ _ _)

pub put_count-here-requires : goal.put_count-here-requires
put_count-here-requires c =
    let w = c.loop-t in
    (omega (arith, c.requires.1), omega (arith, c.requires.1, c.requires.2, w.invariant.1, w.invariant.2, c.put_event_line-here.auto.out, c.put_event_line-here.ensures.upper_bound))

pub loop-t-preserved : goal.loop-t-preserved
loop-t-preserved c =
    let p = c.put_count-here in
    let w = c.loop-t in (
      omega arith,
      p.auto.out ∙ w.invariant.1,
      omega (arith, w.invariant.2, p.ensures.upper_bound),
      lines_next (count_line c.args.told.now) w.t (omega (arith, c.requires.1, c.requires.2, w.invariant.2, c.put_event_line-here.auto.out, c.put_event_line-here.ensures.upper_bound)) w.invariant.3 p.ensures.put,
    )

pub shape_of-out : goal.shape_of-out
shape_of-out c = c.loop-t.invariant.1 ∙ c.put_event_line-here.auto.out

pub returns : goal.returns
returns c =
    let w = c.loop-t in
    let a = c.args in
    let k : w.t ≡ a.n = omega arith in record {
      put = event-put a.i a.status a.n a.told.now (omega (arith, c.requires.2, c.put_event_line-here.ensures.upper_bound)) c.put_event_line-here.ensures.put (rw k at w.invariant.3);
      upper_bound = omega (arith, w.invariant.2, c.put_event_line-here.ensures.upper_bound, c.requires.1);
    }

-- `bound_listing::put_listing` meets its contract: the line of the refusal, or the lines of the table.
use native.Mathlib.Omega.{arith}
use Rattle.bound_listing.proofs.LineLaws.{refusal-put, lines-put}
use Rattle.bound_listing.proofs.put_listing.Goals as goal

pub returns-then-status-ne0 : goal.returns-then-status-ne0
returns-then-status-ne0 c =
    let p = c.put_refusal in
    let b = c.begin_status-status in
    let a = c.args in
    record {
      put = refusal-put a.file.now a.ticks b.result b.ensures c.if-status-ne0.true p.ensures.put;
      upper_bound = omega (arith, p.ensures.upper_bound);
    }

pub returns : goal.returns
returns c =
    let p = c.put_lines in
    let b = c.begin_status-status in
    let a = c.args in
    record {
      put = lines-put a.file.now a.ticks b.result b.ensures c.if-status-ne0.false _ c.read-contents.ensures p.ensures.put;
      upper_bound = p.ensures.upper_bound;
    }

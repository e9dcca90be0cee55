-- `share_lines::put_shares` meets its contract: the threads, and then the summary.
use mathlib.Core.Path.{◌∙◌}
use native.Mathlib.Omega.{arith}
use Rattle.state.specs.Updates.{whole}
use Rattle.share_lines.proofs.ShownLaws.{summary-shown-as}
use Rattle.share_lines.proofs.LineLaws.{shares-after}
use Rattle.share_lines.proofs.put_shares.Goals as goal

pub put_threads-at-requires : goal.put_threads-at-requires
put_threads-at-requires c =
    let s = c in
    (s.requires.0, omega (arith, s.requires.1))

pub put_summary-requires : goal.put_summary-requires
put_summary-requires c =
    let s = c in
    let t = c.put_threads-at in (
      summary-shown-as (whole c.args.c c.args.dues.now c.args.amounts.now) s.requires.0 c.summary_of-x.result c.summary_of-x.ensures,
      omega (arith, s.requires.1, t.ensures.upper_bound, t.auto.out),
    )

pub shape_of-out : goal.shape_of-out
shape_of-out c = c.put_summary.auto.out ∙ c.put_threads-at.auto.out

pub returns : goal.returns
returns c =
    let s = c in
    let t = c.put_threads-at in
    let p = c.put_summary in record {
      put = shares-after (whole c.args.c c.args.dues.now c.args.amounts.now) c.summary_of-x.result (omega (arith, s.requires.1, t.ensures.upper_bound)) t.ensures.put c.summary_of-x.ensures p.ensures.put;
      upper_bound = omega (arith, p.ensures.upper_bound, t.ensures.upper_bound);
    }

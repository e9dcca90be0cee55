-- `listing::replay::put_listing` meets its contract: the line of the refusal, or the parts of a replay one after another.
use native.Mathlib.Omega.{arith}
use Rattle.replay_steps.specs.FileSteps.{begun_with}
use Rattle.text.proofs.FieldLaws.{labelled-length}
use Rattle.listing.specs.Lines.{refused_word, refused_line}
use Rattle.listing.proofs.PrintLaws.{few}
use Rattle.listing.proofs.ListingLaws.{refusal-put, replay-put}
use Rattle.listing.proofs.replay.put_listing.Goals as goal

pub returns-then-begun-ne0 : goal.returns-then-begun-ne0
unfolding refused_line
returns-then-begun-ne0 c =
    let p = rw c.from.ensures at c.put_labelled.ensures in
    let b = c.begin-begun in
    record {
      put = refusal-put c.args.file.now (begun_with b.result b.new.dues b.new.amounts) b.ensures.amounts_after c.if-begun-ne0.true p;
      upper_bound = omega (arith, p.next, labelled-length refused_word {n = b.result.status} (omega arith));
    }

pub put_labelled-requires : goal.put_labelled-requires
put_labelled-requires c = omega (arith, c.requires, labelled-length refused_word {n = c.from.result} (omega arith))

pub put_events-ended-requires : goal.put_events-ended-requires
put_events-ended-requires c = (
  c.begin-begun.ensures.amounts_after_2 c.if-begun-ne0.false,
  omega (arith, c.put_header-here.ensures.next, c.put_header-here.auto.out, c.requires),
)

pub put_threads-requires : goal.put_threads-requires
put_threads-requires c =
    let d = c.put_header-here in
    let e = c.put_events-ended in (
      few _ e.ensures.amounts_after.1,
      omega (arith, d.ensures.next, d.auto.out, e.auto.out, e.ensures.amounts_after.2, c.requires),
    )

pub returns : goal.returns
returns c =
    let b = c.begin-begun in
    let t = c.put_threads in
    let a = c.args in
    let d = c.put_header-here in
    let e = c.put_events-ended in
    record {
      put = replay-put a.file.now _ (omega (arith, d.ensures.next, c.requires)) (omega (arith, d.ensures.next, e.ensures.amounts_after.2, c.requires)) d.ensures (t.ensures.by_index _ _) (begun_with b.result b.new.dues b.new.amounts) b.ensures.amounts_after c.if-begun-ne0.false e.ensures.put e.ensures.amounts_after.0;
      upper_bound = omega (arith, d.ensures.next, e.ensures.amounts_after.2, t.ensures.upper_bound);
    }

-- Of a file that is not refused the parameters of each thread are accepted.
use Prim.Native.Nat.{ℕ, ◌<◌}
use mathlib.Core.Bool.{true, ◌&&◌}
use mathlib.Core.List.{List}
use mathlib.Core.Path.{◌≡◌, sym, ap, ◌∙◌}
use lib.ListN.{get_or}
use lib.Dec.{leb, eqb}
use native.Mathlib.Decide.{ℕ_discrete}
use borrow.Author.Tests.{not-false, eq-eqb, ne_eqb}
use Rattle.base.proofs.TestLaws.{true-all, below_at, cond-true, cond-false}
use Rattle.base.proofs.RefusalLaws.{passed}
use Rattle.records.specs.declared.{Parameters.Parameters, Header.Header}
use Rattle.records.specs.Ranges.{in_range, no_parameters}
use Rattle.passing.specs.Sequence.{Answer}
use Rattle.state.specs.declared.State.{State}
use Rattle.events.specs.Opening.{open_status, opening}
use Rattle.events.proofs.EventLaws.{and_both}
use Rattle.trace_contents.specs.Read.{contents_of}
use Rattle.replay_steps.proofs.FileLaws.{begun-parts}
use Rattle.bound.specs.declared.Most.{Most}
use Rattle.bound.specs.Most.{sporadic_thread, most_of}
use Rattle.bound_listing.specs.BoundListing.{LinesAccepted}

-- an opening that answers 0 was not refused
open-status : (header : Header) (table : List Parameters) → (opening header table).status ≡ 0 → open_status header table ≡ 0
unfolding opening
open-status header table z = go (ℕ_discrete (open_status header table) 0)
  where
    go : Dec (open_status header table ≡ 0) → open_status header table ≡ 0
    go (yes e) = e
    go (no d) = sym (ap (λ (a : Answer State). a.status) (cond-false (eqb (open_status header table) 0) _ _ (ne_eqb (open_status header table) 0 d))) ∙ z

-- each thread of its table may be opened
may-open : (header : Header) (table : List Parameters) → open_status header table ≡ 0 → (i : ℕ) → i < header.n
    → (in_range 8 (get_or table i no_parameters) && leb (get_or table i no_parameters).flag 1) ≡ true
unfolding open_status
may-open header table z i l =
    let c = passed _ 5 _ (passed _ 2 _ (passed _ 4 _ z).1).1 in
    below_at header.n (λ (j : ℕ). in_range 8 (get_or table j no_parameters) && leb (get_or table j no_parameters).flag 1) (not-false _ c.0) i l

pub lines-accepted : LinesAccepted
unfolding most_of sporadic_thread
lines-accepted file ticks i z l q =
    let h = (contents_of file).header in
    let t = (contents_of file).table in
    let p = get_or t i no_parameters in
    let r = and_both (in_range 8 p) (leb p.flag 1) (may-open h t (open-status h t (begun-parts file z).1) i l) in
    let a : sporadic_thread p ≡ true = true-all _ (eq-eqb p.policy 2 q, (r.1, (r.0, tt))) in
    ap (λ (x : Most). x.status) (cond-true (sporadic_thread p) _ _ a)

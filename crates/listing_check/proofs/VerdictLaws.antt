-- The verdict by its two numbers, and what it says of the bytes.
use Prim.Native.Nat.{ℕ, zero, suc, ◌<◌}
use mathlib.Core.Bool.{Bool, true, false, cond}
use mathlib.Core.List.{List, [], ◌∷◌, ◌++◌}
use mathlib.Core.Path.{◌≡◌, refl, sym, ap, ◌∙◌}
use native.Mathlib.Omega.{arith}
use lib.Dec.{leb, eqb}
use lib.ListN.{length, take, drop}
use lib.Seq.{take_at}
use borrow.Author.Tests.{eqb-true, eqb-false}
use Rattle.base.proofs.TestLaws.{cond-true, cond-false}
use Rattle.text_lines.specs.Lines.{lines_of, difference_from, first_difference}
use Rattle.text.specs.Fields.{newline}
use Rattle.text_lines.proofs.LineLaws.{no_difference, next_both, byte-apart, end-first}
use Rattle.replay_steps.specs.FileSteps.{begun_of}
use Rattle.listing.specs.declared.Listed.{Listed}
use Rattle.listing.specs.Listing.{listing_of, listed_of, buffer_of}
use Rattle.listing_check.specs.declared.Verdict.{Verdict}
use Rattle.listing_check.specs.declared.Verdict.TheVariants as verdict
use Rattle.listing_check.specs.Verdict.{by_line, by_status, verdict_of, YesIsSame, RefusedFirst, StartDecides}

-- a listing that was written, and the first bytes of the buffer
pub listed-whole : (file out left : List ℕ) (r : Listed) → r ≡ listed_of file (length out) → left ≡ buffer_of file out → r.status ≡ 0
    → take r.length left ≡ listing_of file
unfolding listed_of buffer_of
listed-whole file out left r e b z = go (leb (length (listing_of file)) (length out)) refl
  where
    go : (x : Bool) → leb (length (listing_of file)) (length out) ≡ x → take r.length left ≡ listing_of file
    go true k =
        let n : r.length ≡ length (listing_of file) =
        ap (λ (l : Listed). l.length) (e ∙ cond-true (leb (length (listing_of file)) (length out)) (record { status = 0; length = length (listing_of file) }) (record { status = 12; length = 0 }) k) in
        ap (take r.length) (b ∙ cond-true (leb (length (listing_of file)) (length out)) (listing_of file ++ drop (length (listing_of file)) out) out k)
        ∙ take_at (listing_of file) (drop (length (listing_of file)) out) r.length (sym n)
    go false k =
        let n : r.status ≡ 12 =
        ap (λ (l : Listed). l.status) (e ∙ cond-false (leb (length (listing_of file)) (length out)) (record { status = 0; length = length (listing_of file) }) (record { status = 12; length = 0 }) k) in
        absurd (omega arith)

pub of-the-listing : (ours listing theirs : List ℕ) (r : ℕ) → r ≡ first_difference ours theirs → ours ≡ listing → r ≡ first_difference listing theirs
of-the-listing ours listing theirs r e l = e ∙ ap (λ (s : List ℕ). first_difference s theirs) l

-- the two numbers by cases
refused-by : (n : ℕ) (v : Verdict) → (n ≡ 0 → ⊥) → by_status n v ≡ verdict.Refused n
refused-by zero v h = absurd (h refl)
refused-by (suc n) v h = refl

differs-by : (k : ℕ) → (k ≡ 0 → ⊥) → by_line k ≡ verdict.Differs k
differs-by zero h = absurd (h refl)
differs-by (suc k) h = refl

pub refused-first : RefusedFirst
unfolding verdict_of
refused-first file theirs h = refused-by (begun_of file).status (by_line (first_difference (listing_of file) theirs)) h

lines-decide : (file theirs : List ℕ) → (begun_of file).status ≡ 0 → verdict_of file theirs ≡ by_line (first_difference (listing_of file) theirs)
unfolding verdict_of
lines-decide file theirs z = ap (λ (n : ℕ). by_status n (by_line (first_difference (listing_of file) theirs))) z

no-line-differs : (file theirs : List ℕ) → (begun_of file).status ≡ 0 → first_difference (listing_of file) theirs ≡ 0 → verdict_of file theirs ≡ verdict.Same
no-line-differs file theirs z h = lines-decide file theirs z ∙ ap by_line h

-- the verdict as the code makes it of the status n of the file's beginning and of the line that was found
module _ (file theirs : List ℕ) (n : ℕ) (e : n ≡ (begun_of file).status) where
  pub is-refused : (n ≡ 0 → ⊥) → verdict.Refused n ≡ verdict_of file theirs
  is-refused d = ap verdict.Refused e ∙ sym (refused-first file theirs (λ z. d (e ∙ z)))

  is-by-line : (k : ℕ) → n ≡ 0 → k ≡ first_difference (listing_of file) theirs → by_line k ≡ verdict_of file theirs
  is-by-line k z f = ap by_line f ∙ sym (lines-decide file theirs (sym e ∙ z))

  pub is-differs : (k : ℕ) → n ≡ 0 → k ≡ first_difference (listing_of file) theirs → (k ≡ 0 → ⊥) → verdict.Differs k ≡ verdict_of file theirs
  is-differs k z f d = sym (differs-by k d) ∙ is-by-line k z f

  pub is_same : (k : ℕ) → n ≡ 0 → k ≡ first_difference (listing_of file) theirs → k ≡ 0 → verdict.Same ≡ verdict_of file theirs
  is_same k z f d = sym (ap by_line d) ∙ is-by-line k z f

-- yes is said in one case alone
abbrev is_other : Verdict → ℕ
is_other verdict.Same = 0
is_other (verdict.Differs k) = 1
is_other (verdict.Refused n) = 1

both-none : (n k : ℕ) → by_status n (by_line k) ≡ verdict.Same → (n ≡ 0) × (k ≡ 0)
both-none zero zero e = (refl, refl)
both-none zero (suc k) e = absurd (omega (arith, ap is_other e))
both-none (suc n) k e = absurd (omega (arith, ap is_other e))

pub yes-is-same : YesIsSame
unfolding verdict_of
yes-is-same file theirs = (yes, λ h. no-line-differs file theirs h.0 ((no_difference (listing_of file) theirs).1 (sym h.1)))
  where
    yes : verdict_of file theirs ≡ verdict.Same → ((begun_of file).status ≡ 0) × (theirs ≡ listing_of file)
    yes e =
        let n = both-none (begun_of file).status (first_difference (listing_of file) theirs) e in
        (n.0, sym ((no_difference (listing_of file) theirs).0 n.1))

-- past the end of the first text one byte of the second decides
start-decides-from : (k m : ℕ) (s t : List ℕ) → length s < m → difference_from k (lines_of s) (lines_of (take m t)) ≡ difference_from k (lines_of s) (lines_of t)
start-decides-from k zero s t h = absurd (omega arith)
start-decides-from k (suc m) s [] h = refl
start-decides-from k (suc m) [] (b ∷ t) h = end-first k b (take m t) ∙ sym (end-first k b t)
start-decides-from k (suc m) (a ∷ s) (b ∷ t) h =
    go (eqb a b) refl (start-decides-from (cond (eqb b newline) (suc k) k) m s t (omega arith))
  where
    go : (x : Bool) → eqb a b ≡ x
        → difference_from (cond (eqb b newline) (suc k) k) (lines_of s) (lines_of (take m t)) ≡ difference_from (cond (eqb b newline) (suc k) k) (lines_of s) (lines_of t)
        → difference_from k (lines_of (a ∷ s)) (lines_of (b ∷ take m t)) ≡ difference_from k (lines_of (a ∷ s)) (lines_of (b ∷ t))
    go true e f = let q = eqb-true a b e in rw q (next_both k b s (take m t) ∙ f ∙ sym (next_both k b s t))
    go false e f = let q = eqb-false a b e in byte-apart k a b s (take m t) q ∙ sym (byte-apart k a b s t q)

pub start-decides : StartDecides
unfolding verdict_of first_difference
start-decides file theirs m h = ap (λ (k : ℕ). by_status (begun_of file).status (by_line k)) (start-decides-from 1 m (listing_of file) theirs h)

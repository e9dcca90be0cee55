-- The verdict on another kernel's listing of a trace.
use Rattle.std.specs.Prelude.{ℕ, zero, suc, ◌<◌, List, ◌≡◌, length, take}
use Rattle.text_lines.specs.Lines.{first_difference}
use Rattle.replay_steps.specs.FileSteps.{begun_of}
use Rattle.listing.specs.Listing.{listing_of}
use Rattle.listing_check.specs.declared.Checked.{Checked}
use Rattle.listing_check.specs.declared.Verdict.{Verdict}
use Rattle.listing_check.specs.declared.Verdict.TheVariants as verdict

-- 02 E11 2: by the number of the first line that differs, is missing or is surplus, 0 where there is none: yes, or that line
abbrev pub by_line : ℕ → Verdict
by_line zero = verdict.Same
by_line (suc k) = verdict.Differs (suc k)

-- 02 E11 3: by the number of the refusal of reading or else of opening, 0 where there is none: what the lines say, or that refusal, before
-- any line is compared
abbrev pub by_status : ℕ → Verdict → Verdict
by_status zero lines = lines
by_status (suc n) lines = verdict.Refused (suc n)

-- 02 E11 1 to 3: the verdict on a trace and another kernel's listing of it, any bytes both
unfoldable pub verdict_of : List ℕ → List ℕ → Verdict
verdict_of file theirs = by_status (begun_of file).status (by_line (first_difference (listing_of file) theirs))

-- a verdict in numbers: which of the three it is, the refusal and the line, of which what doesn't apply is 0
abbrev pub checked_of : Verdict → Checked
checked_of verdict.Same = record { verdict = 0; status = 0; line = 0 }
checked_of (verdict.Differs k) = record { verdict = 1; status = 0; line = k }
checked_of (verdict.Refused n) = record { verdict = 2; status = n; line = 0 }

-- 02 E11 2: yes exactly where the trace is not refused and the bytes are those of our listing, the last newline included
abbrev pub YesIsSame : Type 0
YesIsSame =
    (file theirs : List ℕ)
    → (verdict_of file theirs ≡ verdict.Same → ((begun_of file).status ≡ 0) × (theirs ≡ listing_of file))
    × (((begun_of file).status ≡ 0) × (theirs ≡ listing_of file) → verdict_of file theirs ≡ verdict.Same)

-- 02 E11 3: a trace that is refused answers its refusal whatever the listing is, so also where it is that very `refused n` line
abbrev pub RefusedFirst : Type 0
RefusedFirst = (file theirs : List ℕ) → ((begun_of file).status ≡ 0 → ⊥) → verdict_of file theirs ≡ verdict.Refused (begun_of file).status

-- a listing's first bytes, if they are more than ours, have the verdict that all of it has
abbrev pub StartDecides : Type 0
StartDecides = (file theirs : List ℕ) (m : ℕ) → length (listing_of file) < m → verdict_of file (take m theirs) ≡ verdict_of file theirs

-- 02 E1: what holds of both directions together, for every text, file and length of a buffer. Each statement is proved in proofs/RoundTrips.antt.
use Rattle.std.specs.Prelude.{ℕ, ◌≤◌, true, false, List, ◌≡◌, length}
use Rattle.little_endian.specs.LittleEndian.{Bytes}
use Rattle.trace_contents.specs.Read.{read_status}
use Rattle.trace_making.specs.FromText.{text_status, trace_in}
use Rattle.trace_telling.specs.ToText.{fits_in, text_of, file_status}

-- 02 E1 5: the file that a text makes is one that the reader accepts, and it fits the text
abbrev pub MadeIsRead : Type 0
MadeIsRead = (text : List ℕ) (room : ℕ) → text_status text room ≡ 0 → (read_status (trace_in text) ≡ 0) × (fits_in (trace_in text) ≡ true)

-- 02 E1 5: the text of a file that reads and fits is accepted, and makes that same file
abbrev pub FileAgain : Type 0
FileAgain =
    (s : List ℕ) → Bytes s → read_status s ≡ 0 → fits_in s ≡ true → (room : ℕ) → length s ≤ room
    → (text_status (text_of s) room ≡ 0) × (trace_in (text_of s) ≡ s)

-- 02 E1 7: a file that reads gets 14 exactly where it doesn't fit
abbrev pub OnlyUnfit : Type 0
OnlyUnfit = (s : List ℕ) (room : ℕ) → read_status s ≡ 0 → (fits_in s ≡ false → file_status s room ≡ 14) × (file_status s room ≡ 14 → fits_in s ≡ false)

-- 02 E1 6: a text that makes a file is the text of that file: there is no second way to type it
abbrev pub TextAgain : Type 0
TextAgain = (text : List ℕ) (room : ℕ) → text_status text room ≡ 0 → text_of (trace_in text) ≡ text

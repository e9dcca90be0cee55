-- The status numbers by name, in the order of 01's table; 0 is accepted (01 Status 1).
use Rattle.std.specs.Prelude.{ℕ, Result, Ok, Err}
use Rattle.base.specs.declared.Refusal.{Refusal}
use Rattle.base.specs.declared.Refusal.TheVariants as refusal

-- 01 Status 2 to 4: by the time of an event, or at opening
abbrev pub before_now : ℕ
before_now = 1

abbrev pub step_too_long : ℕ
step_too_long = 2

abbrev pub past_last_time : ℕ
past_last_time = 3

-- 01 Status 5 to 7: by the fields
abbrev pub wrong_kind : ℕ
wrong_kind = 4

abbrev pub wrong_thread : ℕ
wrong_thread = 5

abbrev pub wrong_parameters : ℕ
wrong_parameters = 6

-- 01 Status 8 to 10: by the state
abbrev pub nothing_runs : ℕ
nothing_runs = 7

abbrev pub not_blocked : ℕ
not_blocked = 8

abbrev pub not_sound : ℕ
not_sound = 9

-- 01 Status 11 to 14: by the file
abbrev pub too_short : ℕ
too_short = 10

abbrev pub wrong_header : ℕ
wrong_header = 11

abbrev pub no_room : ℕ
no_room = 12

abbrev pub wrong_filler : ℕ
wrong_filler = 13

-- 02 E1: a line of a text is wrong, or a field does not fit a text
abbrev pub wrong_text : ℕ
wrong_text = 14

-- 02 E7 9: the account can't be carried over
abbrev pub not_carried : ℕ
not_carried = 15

-- the number of a refusal
abbrev pub number_of : Refusal → ℕ
number_of refusal.BeforeNow = before_now
number_of refusal.StepTooLong = step_too_long
number_of refusal.PastLastTime = past_last_time
number_of refusal.WrongKind = wrong_kind
number_of refusal.WrongThread = wrong_thread
number_of refusal.WrongParameters = wrong_parameters
number_of refusal.NothingRuns = nothing_runs
number_of refusal.NotBlocked = not_blocked
number_of refusal.NotSound = not_sound
number_of refusal.TooShort = too_short
number_of refusal.WrongHeader = wrong_header
number_of refusal.NoRoom = no_room
number_of refusal.WrongFiller = wrong_filler
number_of refusal.WrongText = wrong_text
number_of refusal.NotCarried = not_carried

-- 01 Status 1: what is answered as a status, 0 where nothing is refused
abbrev pub as_status : {A : Type 0} → Result A Refusal → ℕ
as_status (Ok a) = 0
as_status (Err r) = number_of r

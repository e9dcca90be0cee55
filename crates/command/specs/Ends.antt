-- How a command ends, by its exit status.
use Rattle.std.specs.Prelude.{ℕ, Result, Ok, Err}
use Rattle.command.specs.declared.Ending.{Ending}
use Rattle.command.specs.declared.Ending.TheVariants as ending
use Rattle.command.specs.declared.Told.{Told}

-- the exit status of an ending
abbrev pub number_of : Ending → ℕ
number_of ending.Done = 0
number_of ending.Refused = 1

-- and of a command that may have failed
abbrev pub status_of : Result Ending Told → ℕ
status_of (Ok e) = number_of e
status_of (Err told) = 2

-- A refusal's number is not that of an accepted event.
use mathlib.Core.Path.{◌≡◌}
use native.Mathlib.Omega.{arith}
use Rattle.base.specs.declared.Refusal.{Refusal}
use Rattle.base.specs.declared.Refusal.TheVariants as refusal
use Rattle.base.specs.Status.{number_of}

pub refused : (r : Refusal) → number_of r ≡ 0 → ⊥
refused refusal.BeforeNow e = omega arith
refused refusal.StepTooLong e = omega arith
refused refusal.PastLastTime e = omega arith
refused refusal.WrongKind e = omega arith
refused refusal.WrongThread e = omega arith
refused refusal.WrongParameters e = omega arith
refused refusal.NothingRuns e = omega arith
refused refusal.NotBlocked e = omega arith
refused refusal.NotSound e = omega arith
refused refusal.TooShort e = omega arith
refused refusal.WrongHeader e = omega arith
refused refusal.NoRoom e = omega arith
refused refusal.WrongFiller e = omega arith
refused refusal.WrongText e = omega arith
refused refusal.NotCarried e = omega arith

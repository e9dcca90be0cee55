-- The account that a set gives (02 E7).
use Rattle.std.specs.Prelude.{ℕ, ◌+◌}
use mathlib.Core.{Bool.Bool, Bool.true, Bool.false, Path.◌≡◌}
use Rattle.records.specs.{declared.Parameters.Parameters, Ranges.by_policy}
use Rattle.sporadic.specs.Carry.{carried_server, cant_carry}
use Rattle.account.specs.{declared.Account.Account, Account.no_account, Account.new_account, Account.pending_amounts, Sound.sum, Sound.sound_at}

-- 02 E7 2 and 3: an account that is carried over to new parameters; the pending entries stay, with their old due times
unfoldable pub carried : ℕ → Bool → Parameters → Parameters → Account → Account
carried now blocked old new a = record { server = carried_server now blocked old new a.pending.count a.server; pending = a.pending }

-- 02 E7 2 and 7: a set to sporadic of a thread already sporadic carries its account over; any other set stays as it was
abbrev pub set_account : ℕ → Bool → Parameters → Parameters → Account → Account
set_account now blocked old new a =
    by_policy old.policy (new_account now new) (new_account now new) (by_policy new.policy no_account no_account (carried now blocked old new a))

-- 02 E7 2 and 3: capacity, U and what is pending make the new budget
abbrev pub CarriedAddsUp : Type 0
CarriedAddsUp =
    (start now : ℕ) (blocked : Bool) (old new : Parameters) (a : Account) → sound_at start now blocked old a ≡ true
    → cant_carry blocked old new a.server.capacity a.pending.count ≡ false
    → (carried now blocked old new a).server.capacity + (carried now blocked old new a).server.used + sum (pending_amounts (carried now blocked old new a).pending) ≡ new.budget

-- 02 E7 1: a set to the parameters that a thread has is not refused, and leaves its account as it is
abbrev pub SameChangesNothing : Type 0
SameChangesNothing =
    (start now : ℕ) (blocked : Bool) (p : Parameters) (a : Account) → sound_at start now blocked p a ≡ true
    → (cant_carry blocked p p a.server.capacity a.pending.count ≡ false) × (carried now blocked p p a ≡ a)

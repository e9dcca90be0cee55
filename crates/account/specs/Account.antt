-- One sporadic account (01 State 2): capacity, charged time not yet scheduled, activation time, pending replenishments.
use Rattle.std.specs.Prelude.{ℕ}
use mathlib.Core.{Bool.Bool, Bool.cond, List.List}
use lib.{ListN.take, ListN.get_or, ListN.replicate, Dec.eqb}
use Rattle.records.specs.{declared.Parameters.Parameters, Ranges.by_policy}
pub use Rattle.entries.specs.Entries.{entries}
use Rattle.sporadic.specs.Rules.{at_upper}
use Rattle.account.specs.declared.{Pending.Pending, Account.Account}

-- 01 State 2: the due times and the amounts of the pending replenishments
abbrev pub pending_dues : Pending → List ℕ
pending_dues q = take q.count q.dues

abbrev pub pending_amounts : Pending → List ℕ
pending_amounts q = take q.count q.amounts

-- 01 State 9: whether an account gives the upper priority
abbrev pub is_upper : Parameters → Account → Bool
is_upper p a = at_upper p a.server.capacity a.pending.count

-- 01 Passing 2: when the first of the pending replenishments is due, 0 for none
abbrev pub first_due : Pending → ℕ
first_due q = cond (eqb q.count 0) 0 (get_or q.dues 0 0)

-- 01 State 17: nothing charged and nothing pending
abbrev pub unused_account : ℕ → ℕ → Account
unused_account capacity activation =
    record {
      server = record { capacity = capacity; used = 0; activation = activation };
      pending = record { count = 0; dues = replicate entries 0; amounts = replicate entries 0 };
    }

-- 01 Events 6: a set gives the whole budget, nothing charged or pending, and activation now
abbrev pub fresh_account : ℕ → Parameters → Account
fresh_account now p = unused_account p.budget now

-- 01 State 17: no account
abbrev pub no_account : Account
no_account = unused_account 0 0

-- 01 Events 6: the account that goes with new parameters
abbrev pub new_account : ℕ → Parameters → Account
new_account now p = by_policy p.policy no_account no_account (fresh_account now p)

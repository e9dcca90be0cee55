-- An account made of its parts, as they are lent.
use Rattle.std.specs.Prelude.{ℕ, List}
use Rattle.sporadic.specs.declared.Server.{Server}
use Rattle.account.specs.declared.Account.{Account}

-- 01 State 2: the server, the count, and the slots of dues and of amounts
abbrev pub account_of : Server → ℕ → List ℕ → List ℕ → Account
account_of s count dues amounts = record { server = s; pending = record { count = count; dues = dues; amounts = amounts } }

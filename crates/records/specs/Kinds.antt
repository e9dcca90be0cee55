-- The kinds of events.
use Rattle.std.specs.Prelude.{ℕ, zero, suc}

-- 01 Events 2 to 6: by the number of a kind: 0 is clock, 1 block, 2 yield, 3 wake, and any other set
abbrev pub by_kind : {A : Type 0} → ℕ → A → A → A → A → A → A
by_kind zero clock block yield wake set = clock
by_kind (suc zero) clock block yield wake set = block
by_kind (suc (suc zero)) clock block yield wake set = yield
by_kind (suc (suc (suc zero))) clock block yield wake set = wake
by_kind (suc (suc (suc (suc n)))) clock block yield wake set = set

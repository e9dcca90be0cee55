-- What only private functions promise.
use Rattle.std.specs.Prelude.{ℕ, ◌+◌, cond, nat_lt}
use Rattle.records.specs.Ranges.{last_time}
use Rattle.counter.specs.Counter.{elapsed_ticks}

-- 02 E10 1, where a sound state can have the time now (01 State 6); else now, since a state that isn't sound is refused at any time
abbrev pub guarded_time : ℕ → ℕ → ℕ
guarded_time now reading = cond (nat_lt last_time now) now (now + elapsed_ticks now reading)

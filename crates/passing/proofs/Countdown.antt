-- A machine to compute with, a timer that fires every `period` ticks until it is stopped, and rows of its answers.
use Prim.Native.Nat.{ℕ, ◌+◌, ◌-◌, ◌*◌}
use mathlib.Core.Bool.{cond, ◌&&◌}
use mathlib.Core.Path.{◌≡◌, refl}
use mathlib.Core.List.{List, [], ◌∷◌, map}
use lib.Dec.{ltb, leb, eqb}
use native.Mathlib.Omega.{arith}
use Rattle.passing.specs.Time.{Clock, by_moments}
use Rattle.base.specs.Refusals.{first_refusal}
use Rattle.passing.specs.Sequence.{Machine, Answer, status, answer, answers}
use Rattle.passing.specs.Readings.{Entry, second, Placed}
use Rattle.passing.specs.Reports.{Reports, report, reports, sums}

-- ticks left up to the next moment, 0 once it is stopped
pub record Timer : Type 0 where
  pub now : ℕ
  pub left : ℕ
  pub period : ℕ

-- kind 0 reads the clock, kind 1 stops the timer
pub record Request : Type 0 where
  pub time : ℕ
  pub kind : ℕ

abbrev pub next : Timer → ℕ
next s = cond (ltb 0 s.left) (s.now + s.left) 0

abbrev pub charge : ℕ → Timer → Timer
charge k s = record { now = s.now + k; left = s.left - k; period = s.period }

abbrev pub with_left : ℕ → Timer → Timer
with_left n s = record { now = s.now; left = n; period = s.period }

abbrev pub clock : Clock Timer
clock = record { now = λ s. s.now; next = next; charge = charge; fire = λ s. with_left s.period s }

abbrev pub timer : Machine Timer Request
timer =
    record {
      clock = clock;
      last_time = 1000;
      longest_step = 20;
      sound = λ s. ltb 0 s.period && leb s.left s.period && leb s.now 1000;
      running = λ s. cond (ltb 0 s.left) 7 255;
      time = λ e. e.time;
      reading = λ t. record { time = t; kind = 0 };
      field_status = λ s e. cond (ltb 1 e.kind) 4 0;
      state_status = λ s e. cond (eqb e.kind 1 && eqb s.left 0) 7 0;
      does = λ s e. cond (eqb e.kind 1) (with_left 0 s) s;
    }

-- A row: the request's time and kind, then the answer's status, running thread and next moment.
record Row : Type 0 where
  time : ℕ
  kind : ℕ
  status : ℕ
  running : ℕ
  next : ℕ

abbrev row : ℕ → ℕ → ℕ → ℕ → ℕ → Row
row t k s r n = record { time = t; kind = k; status = s; running = r; next = n }

-- The rows' requests, given one after another from s, get the rows' answers.
abbrev Computed : Timer → List Row → Type 0
Computed s rows =
    map (λ (a : Answer Timer). a.status ∷ a.running ∷ a.next ∷ [])
    (answers timer s (map (λ (r : Row). record { time = r.time; kind = r.kind }) rows))
    ≡ map (λ (r : Row). r.status ∷ r.running ∷ r.next ∷ []) rows

abbrev pub fresh : Timer
fresh = record { now = 0; left = 5; period = 5 }

sound-rows : Computed fresh
    (row 5 0 0 7 10  -- a moment at the request's very time
    ∷ row 5 0 0 7 10  -- the time now again
    ∷ row 7 0 0 7 10  -- no moment on the way
    ∷ row 6 0 1 7 10  -- before the time now
    ∷ row 28 0 2 7 10  -- a tick more than the longest step
    ∷ row 27 0 0 7 30  -- the longest step, over four moments
    ∷ row 1001 0 3 7 30  -- past the last time, which comes before too far
    ∷ row 1001 2 4 7 30  -- no such kind, which comes before the time
    ∷ row 30 1 0 255 0  -- stopped at a moment's very time
    ∷ row 31 1 7 255 0  -- not running
    ∷ row 51 1 2 255 0  -- too far, which comes before not running
    ∷ row 40 0 0 255 0  -- no moment once it is stopped
    ∷ [])
unfolding by_moments first_refusal status answer
sound-rows = refl

unsound-rows : Computed (record { now = 0; left = 6; period = 5 })
    (row 1 0 9 255 0  -- more ticks left than the period
    ∷ row 1001 2 9 255 0  -- which comes before all else
    ∷ [])
unfolding by_moments first_refusal status answer
unsound-rows = refl

-- A row: the times of extra clock readings, and the time and the kind of the request that they stand before.
abbrev before : List ℕ → ℕ → ℕ → List (Entry Request)
before ts t k = record { times = ts; event = record { time = t; kind = k } } ∷ []

abbrev fifth : Timer
fifth = record { now = 5; left = 5; period = 5 }

-- from the time now up to the request's time
placed_row : Placed timer fifth fifth (before (5 ∷ 6 ∷ 6 ∷ 7 ∷ []) 7 0)
unfolding by_moments first_refusal status answer
placed_row = ((omega arith, (omega arith, (omega arith, (omega arith, (omega arith, omega arith))))), tt)

-- a tick before the time now
early-row : Placed timer fifth fifth (before (4 ∷ []) 7 0) → ⊥
early-row h = omega (arith, h.0.1.0)

-- a tick after the request's time
late-row : Placed timer fifth fifth (before (8 ∷ []) 7 0) → ⊥
late-row h = omega (arith, h.0.1.1)

-- before a request that is refused: there is no such kind
refused-row : Placed timer fifth fifth (before (6 ∷ []) 7 2) → ⊥
unfolding by_moments first_refusal status answer
refused-row h = omega (arith, h.0.0)

-- Reports: 1 for each moment, with what is left then, which is 0; 100 for each tick; 10 where the timer is stopped.
abbrev pub counted : Reports Timer ℕ
counted = record { none = 0; plus = λ a b. a + b; charged = λ k s. 100 * k; fired = λ s. 1 + s.left }

abbrev pub stopped : Timer → Request → ℕ
stopped s e = cond (eqb e.kind 1) 10 0

abbrev asked : ℕ → ℕ → Request
asked t k = record { time = t; kind = k }

-- a moment at the request's very time; the same time again; ticks only; refused; four moments; a moment and the stop; ticks only
report-row : reports timer counted stopped fresh
    (asked 5 0 ∷ asked 5 0 ∷ asked 7 0 ∷ asked 12 2 ∷ asked 27 0 ∷ asked 30 1 ∷ asked 40 0 ∷ [])
    ≡ 501 ∷ 0 ∷ 200 ∷ 0 ∷ 2004 ∷ 311 ∷ 1000 ∷ []
unfolding by_moments first_refusal status answer report
report-row = refl

-- two requests, the first with three extra readings before it: what each event of the second sequence reports, and the two sums
abbrev spread : List (Entry Request)
spread = record { times = 3 ∷ 5 ∷ 5 ∷ []; event = asked 12 1 } ∷ record { times = []; event = asked 11 0 } ∷ []

spread_row : reports timer counted stopped fresh (second timer spread) ≡ 300 ∷ 201 ∷ 0 ∷ 711 ∷ 0 ∷ []
unfolding by_moments first_refusal status answer report
spread_row = refl

sums-row : sums counted spread (reports timer counted stopped fresh (second timer spread)) ≡ 1212 ∷ 0 ∷ []
unfolding by_moments first_refusal status answer report
sums-row = refl

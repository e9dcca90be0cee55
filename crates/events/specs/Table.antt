-- The worked table: the replay's seven events and the rows of 01 that are marked to be proved (01 Replay 1 to 6, 01 Instances 1 to 11).
use Rattle.std.specs.Prelude.{ℕ, zero, suc, ◌-◌}
use mathlib.Core.{Path.◌≡◌, Bool.cond, List.List, List.[], List.◌∷◌, List.◌++◌, List.map}
use lib.{ListN.length, ListN.take, ListN.drop, ListN.get_or, Dec.eqb}
use Rattle.records.specs.{declared.Parameters.Parameters, declared.Event.Event, Ranges.no_parameters}
use Rattle.account.specs.Account.{pending_dues, pending_amounts}
use Rattle.ready.specs.Lists.{threads, occurs}
use Rattle.passing.specs.Sequence.{Answer, answers}
use Rattle.state.specs.{declared.State.State, State.thread_at, State.pending_at}
use Rattle.thread.specs.Thread.{assigned}
use Rattle.events.specs.{Answers.executive, Answers.reading, Opening.opening}

-- what the table says of a thread: capacity, assigned priority, the list in which it stands (0 for none), activation time, pending
-- entries, total
pub record Seen : Type 0 where
  pub capacity : ℕ
  pub priority : ℕ
  pub list : ℕ
  pub activation : ℕ
  pub dues : List ℕ
  pub amounts : List ℕ
  pub total : ℕ

-- and of an answer: status, running thread, next moment, every thread, and the idle time
pub record Shown : Type 0 where
  pub status : ℕ
  pub running : ℕ
  pub next : ℕ
  pub threads : List Seen
  pub idle : ℕ

-- the highest of the lists 1 to n in which thread i stands, 0 for none
unfoldable pub list_of : ℕ → ℕ → List ℕ → ℕ
list_of zero i l = 0
list_of (suc level) i l = cond (eqb (occurs i (threads (suc level) l)) 0) (list_of level i l) (suc level)

abbrev pub seen : State → ℕ → Seen
seen s i =
    record {
      capacity = (thread_at s i).server.capacity;
      priority = assigned (thread_at s i) (get_or s.counts i 0);
      list = list_of 32 i s.lists;
      activation = (thread_at s i).server.activation;
      dues = pending_dues (pending_at s i);
      amounts = pending_amounts (pending_at s i);
      total = (thread_at s i).total;
    }

-- the threads 0 to n - 1, of which the table has at most two
abbrev pub all_seen : State → ℕ → List Seen
all_seen s zero = []
all_seen s (suc zero) = seen s 0 ∷ []
all_seen s (suc (suc n)) = seen s 0 ∷ seen s 1 ∷ []

abbrev pub shown : Answer State → Shown
shown a =
    record {
      status = a.status;
      running = a.running;
      next = a.next;
      threads = all_seen a.state a.state.header.n;
      idle = a.state.idle;
    }

-- an entry: threads, opened at time 0, the events given to them, and what the last of these are answered
pub record Entry : Type 0 where
  pub table : List Parameters
  pub events : List Event
  pub last : List Shown

abbrev pub given : Entry → List Shown
given x =
    let all = map shown (answers executive (opening (record { n = length x.table; start = 0 }) x.table).state x.events) in
    drop (length all - length x.last) all

-- every entry is answered as it says
abbrev pub Holds : List Entry → Type 0
Holds xs = map given xs ≡ map (λ (x : Entry). x.last) xs

-- a runnable thread (start flag 1), or a blocked one (0)
abbrev pub sporadic : ℕ → ℕ → ℕ → ℕ → Parameters
sporadic flag budget period max_repl =
    record { policy = 2; priority = 20; low = 5; max_repl = max_repl; flag = flag; budget = budget; period = period }

abbrev pub fifo : ℕ → ℕ → Parameters
fifo flag priority = record { policy = 0; priority = priority; low = 0; max_repl = 0; flag = flag; budget = 0; period = 0 }

abbrev pub event : ℕ → ℕ → ℕ → Event
event kind time thread = record { time = time; kind = kind; thread = thread; parameters = no_parameters }

abbrev pub clock_at : ℕ → Event
clock_at t = reading t

abbrev pub block_at : ℕ → Event
block_at t = event 1 t 0

abbrev pub wake_at : ℕ → ℕ → Event
wake_at t i = event 3 t i

abbrev pub at : ℕ → ℕ → ℕ → ℕ → List ℕ → List ℕ → ℕ → Seen
at capacity priority list activation dues amounts total =
    record { capacity = capacity; priority = priority; list = list; activation = activation; dues = dues; amounts = amounts; total = total }

abbrev pub says : ℕ → ℕ → ℕ → List Seen → ℕ → Shown
says status running next threads idle = record { status = status; running = running; next = next; threads = threads; idle = idle }

-- 01 Replay 1 to 3: the threads of the replay
abbrev pub two : List Parameters
two = sporadic 1 10 40 2 ∷ fifo 1 10 ∷ []

-- thread 1 of the replay, and of the row in which it preempts
abbrev pub other : ℕ → ℕ → ℕ → Seen
other priority list total = at 0 priority list 0 [] [] total

-- 01 Replay 4 and 5: its events, and the entry of the first k of them
abbrev pub replayed : List Event
replayed = clock_at 4 ∷ block_at 6 ∷ wake_at 15 0 ∷ clock_at 25 ∷ clock_at 40 ∷ clock_at 46 ∷ clock_at 45 ∷ []

abbrev pub up_to : ℕ → Shown → Entry
up_to k x = record { table = two; events = take k replayed; last = x ∷ [] }

-- 01 Replay 4 to 6: one entry for each of the seven events
abbrev pub replay : List Entry
replay =
    up_to 1 (says 0 0 10 (at 6 20 20 0 [] [] 4 ∷ other 10 10 0 ∷ []) 0)
    ∷ up_to 2 (says 0 1 40 (at 4 20 0 0 (40 ∷ []) (6 ∷ []) 6 ∷ other 10 10 0 ∷ []) 0)
    ∷ up_to 3 (says 0 0 19 (at 4 20 20 15 (40 ∷ []) (6 ∷ []) 6 ∷ other 10 10 9 ∷ []) 0)
    ∷ up_to 4 (says 0 1 40 (at 0 5 5 15 (40 ∷ 55 ∷ []) (6 ∷ 4 ∷ []) 10 ∷ other 10 10 15 ∷ []) 0)
    ∷ up_to 5 (says 0 0 46 (at 6 20 20 40 (55 ∷ []) (4 ∷ []) 10 ∷ other 10 10 30 ∷ []) 0)
    ∷ up_to 6 (says 0 1 55 (at 0 5 5 40 (55 ∷ 80 ∷ []) (4 ∷ 6 ∷ []) 16 ∷ other 10 10 30 ∷ []) 0)
    ∷ up_to 7 (says 1 1 55 (at 0 5 5 40 (55 ∷ 80 ∷ []) (4 ∷ 6 ∷ []) 16 ∷ other 10 10 30 ∷ []) 0)
    ∷ []

-- 01 Instances 3 to 11
abbrev pub instances : List Entry
instances =
    -- 01 Instances 3 to 5: one replenishment at a time: low at the wake, and upper again when it has come back
    record {
      table = sporadic 1 10 40 1 ∷ [];
      events = block_at 3 ∷ wake_at 5 0 ∷ clock_at 40 ∷ [];
      last = says 0 0 40 (at 7 5 5 0 (40 ∷ []) (3 ∷ []) 3 ∷ []) 2 ∷ says 0 0 50 (at 10 20 20 40 [] [] 38 ∷ []) 2 ∷ [];
    }
    -- 01 Instances 6 and 7: the budget is the period, so it comes back at its limit
    ∷ record { table = sporadic 1 10 10 2 ∷ []; events = clock_at 10 ∷ []; last = says 0 0 20 (at 10 20 20 10 [] [] 10 ∷ []) 0 ∷ [] }
    -- 01 Instances 8 and 9: preempted from 4 to 20 by a thread that wakes and blocks; at 20 the limit is still 6 ticks away
    ∷ record {
      table = sporadic 1 10 12 2 ∷ fifo 0 30 ∷ [];
      events = wake_at 4 1 ∷ block_at 20 ∷ clock_at 26 ∷ [];
      last =
          says 0 0 26 (at 6 20 20 0 [] [] 4 ∷ other 30 0 16 ∷ []) 0
          ∷ says 0 0 36 (at 10 20 20 26 [] [] 10 ∷ other 30 0 16 ∷ []) 0
          ∷ [];
    }
    -- 01 Instances 10: a wake and a block at one time schedule nothing
    ∷ record {
      table = sporadic 0 10 40 2 ∷ [];
      events = wake_at 7 0 ∷ block_at 7 ∷ [];
      last = says 0 255 0 (at 10 20 0 7 [] [] 0 ∷ []) 7 ∷ [];
    }
    -- 01 Instances 11: an RR thread alone runs on with a full quantum
    ∷ record {
      table = record { policy = 1; priority = 10; low = 0; max_repl = 0; flag = 1; budget = 5; period = 0 } ∷ [];
      events = clock_at 5 ∷ [];
      last = says 0 0 10 (at 0 10 10 0 [] [] 5 ∷ []) 0 ∷ [];
    }
    ∷ []

-- 01 Replay 1 to 6, 01 Instances 3 to 11: the 12 entries are answered so
abbrev pub TableHolds : Type 0
TableHolds = Holds (replay ++ instances)

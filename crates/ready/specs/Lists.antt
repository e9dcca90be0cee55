-- 01 State 3: for each priority 1 to 32 an ordered list of thread numbers, head first.
-- All lists stand in one array, a row for each: a list's length, its threads in order, and zeros.
use mathlib.Core.{List.List, List.[], List.◌∷◌, List.◌++◌, Bool.cond}
use Rattle.std.specs.Prelude.{ℕ, ◌+◌, ◌-◌, ◌*◌}
use lib.{ListN.length, ListN.take, ListN.drop, ListN.get_or, ListN.replicate, Dec.eqb}
use Rattle.records.specs.Ranges.{most_threads, highest_priority}

-- the numbers of a row: a list may hold every thread; and those of all rows
abbrev pub row_bytes : ℕ
row_bytes = 1 + most_threads

abbrev pub list_bytes : ℕ
list_bytes = highest_priority * row_bytes

-- where the row of list p starts in the array
abbrev pub start : ℕ → ℕ
start p = (p - 1) * row_bytes

-- the row of list p
abbrev pub row_at : ℕ → List ℕ → List ℕ
row_at p l = take row_bytes (drop (start p) l)

-- a row's parts: the length, the threads, and the places that are not in use
abbrev pub size : List ℕ → ℕ
size row = get_or row 0 0

abbrev pub members : List ℕ → List ℕ
members row = take (size row) (drop 1 row)

abbrev pub unused : List ℕ → List ℕ
unused row = drop (size row) (drop 1 row)

-- the row that holds a list; 01 State 17: places that are not in use hold 0
abbrev pub row_of : List ℕ → List ℕ
row_of xs = length xs ∷ (xs ++ replicate (most_threads - length xs) 0)

-- 01 State 3: the threads of list p, in order
abbrev pub threads : ℕ → List ℕ → List ℕ
threads p l = members (row_at p l)

-- the array with another list p
unfoldable pub with_threads : ℕ → List ℕ → List ℕ → List ℕ
with_threads p xs l = take (start p) l ++ (row_of xs ++ drop (start p + row_bytes) l)

-- thread i at place k of a list, place 0 being the head; the threads from k on move one place towards the tail
abbrev pub insert_at : ℕ → ℕ → List ℕ → List ℕ
insert_at k i xs = take k xs ++ (i ∷ drop k xs)

-- a list less the first i in it, where there is one (a sound list holds each thread once); the others keep their order
unfoldable pub without : ℕ → List ℕ → List ℕ
without i [] = []
without i (x ∷ xs) = cond (eqb x i) xs (x ∷ without i xs)

-- how often i stands in a list
unfoldable pub occurs : ℕ → List ℕ → ℕ
occurs i [] = 0
occurs i (x ∷ xs) = cond (eqb x i) 1 0 + occurs i xs

-- the thread at the head of list p
abbrev pub head_of : ℕ → List ℕ → ℕ
head_of p l = get_or (threads p l) 0 0

-- thread i becomes the tail of list p
abbrev pub appended : ℕ → ℕ → List ℕ → List ℕ
appended p i l = with_threads p (insert_at (length (threads p l)) i (threads p l)) l

-- thread i leaves list p
abbrev pub removed : ℕ → ℕ → List ℕ → List ℕ
removed p i l = with_threads p (without i (threads p l)) l

-- thread i leaves list `from` and becomes the tail of list `to`
abbrev pub moved : ℕ → ℕ → ℕ → List ℕ → List ℕ
moved i from to l = appended to i (removed from i l)

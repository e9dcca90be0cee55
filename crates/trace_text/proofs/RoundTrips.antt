-- Both directions together: the statements of specs/RoundTrips.antt.
use Prim.Native.Nat.{ℕ, zero, suc, ◌+◌, ◌-◌, ◌≤◌, ◌<◌, ◌^◌}
use mathlib.Core.Bool.{Bool, true, false, cond, not}
use mathlib.Core.List.{List, [], ◌∷◌, ◌++◌, map, append-nil}
use mathlib.Core.Path.{◌≡◌, refl, sym, ap, ap₂, ◌∙◌, subst}
use native.Mathlib.Omega.{arith}
use lib.Dec.{ltb, leb, eqb}
use lib.ListN.{length, get_or}
use borrow.Author.Tests.{le-ltb, le-leb, eqb-true, eqb-false, eq-eqb, ne_eqb}
use Rattle.records.specs.declared.Parameters.{Parameters}
use Rattle.records.specs.declared.Event.{Event}
use Rattle.records.specs.declared.Header.{Header}
use Rattle.records.specs.Ranges.{no_parameters}
use Rattle.base.proofs.TestLaws.{true-all, at-below, below_at, cond-elim, false-true}
use Rattle.little_endian.specs.LittleEndian.{Bytes}
use Rattle.text_lines.specs.Lines.{lines_of}
use Rattle.text_lines.proofs.LineLaws.{joined_lines, lines-joined, line-ended}
use Rattle.trace_lines.specs.declared.Line.{Line}
use Rattle.trace_lines.specs.declared.Line.TheVariants as line
use Rattle.trace_lines.specs.Lines.{line_in, status_in, line_text, fits_text, LineFits, Writable}
use Rattle.trace_lines.proofs.RoundTrips.{line-is-read, only-lines-are-read, line-text-ended}
use Rattle.trace_records.specs.Layout.{thread_offset, event_offset, total_of}
use Rattle.trace_records.specs.Records.{fields_of, header_bytes, parameters_at, parameters_bytes, event_at, event_bytes, no_event, ParametersFit, EventFits}
use Rattle.trace_contents.specs.declared.Contents.{Contents}
use Rattle.trace_header.specs.Header.{count_right}
use Rattle.trace_contents.specs.Read.{list_of, read_status, table_of, contents_of, events_of as file_events}
use Rattle.base.specs.Refusals.{first_refusal}
use Rattle.trace_contents.proofs.ListLaws.{length-list, list_at, list_same}
use Rattle.trace_contents.proofs.ReadLaws.{accepted, contents, contents-accepted, contents-status}
use Rattle.base.proofs.RefusalLaws.{passed, past, refused-at}
use Rattle.trace_reader.specs.Reader.{first_offset, events_from, array_of}
use Rattle.trace_reader.proofs.ReaderLaws.{all-accepted}
use Rattle.trace.specs.Write.{write_refusals, write_status, file_of, threads_bytes, events_bytes, first_threads}
use Rattle.trace.proofs.RoundTrips.{read-then-write, write-then-read}
use Rattle.trace.proofs.RunLaws.{joined_same}
use Rattle.trace.proofs.WriteLaws.{Room, has_room}
use Rattle.trace_making.specs.FromText.{stage_after, wrong_from, lines_in, wrong_line, start_of, threads_of, events_of, header_in, count_in, text_status, trace_in}
use Rattle.trace_telling.specs.ToText.{file_lines, lines_text, text_of, fits_in, file_refusals, file_status}
use Rattle.trace_text.specs.RoundTrips.{MadeIsRead, FileAgain, OnlyUnfit, TextAgain}
use Rattle.trace_telling.proofs.FileLaws.{lines_fit}

-- lines in their order: the start line, threads, events
abbrev in_order : ℕ → List Parameters → List Event → List Line
in_order t ps es = line.Start t ∷ (map line.Thread ps ++ map line.Event es)

map-append : {A B : Type 0} (f : A → B) (xs ys : List A) → map f (xs ++ ys) ≡ map f xs ++ map f ys
map-append f [] ys = refl
map-append f (x ∷ xs) ys = ap (λ zs. f x ∷ zs) (map-append f xs ys)

-- a list by its numbers
list-map : {A B : Type 0} (f : A → B) (g : ℕ → A) (n : ℕ) → list_of (λ i. f (g i)) n ≡ map f (list_of g n)
unfolding list_of
list-map f g zero = refl
list-map f g (suc n) = ap (λ xs. xs ++ (f (g n) ∷ [])) (list-map f g n) ∙ sym (map-append f (list_of g n) (g n ∷ []))

list-first : {A : Type 0} (f : ℕ → A) (n : ℕ) → list_of f (suc n) ≡ f 0 ∷ list_of (λ i. f (suc i)) n
unfolding list_of
list-first f zero = refl
list-first f (suc n) = ap (λ xs. xs ++ (f (suc n) ∷ [])) (list-first f n)

list_all : {A : Type 0} (d : A) (xs : List A) → list_of (λ i. get_or xs i d) (length xs) ≡ xs
unfolding list_of
list_all d [] = refl
list_all d (x ∷ xs) = list-first (λ i. get_or (x ∷ xs) i d) (length xs) ∙ ap (λ zs. x ∷ zs) (list_all d xs)

-- what lines in their order hold
module _ (t : ℕ) (es : List Event) where
  events-threads : (es : List Event) → threads_of (map line.Event es) ≡ []
  unfolding threads_of
  events-threads [] = refl
  events-threads (e ∷ es) = events-threads es

  events-events : (es : List Event) → events_of (map line.Event es) ≡ es
  unfolding events_of
  events-events [] = refl
  events-events (e ∷ es) = ap (λ zs. e ∷ zs) (events-events es)

  threads-threads : (ps : List Parameters) → threads_of (map line.Thread ps ++ map line.Event es) ≡ ps
  unfolding threads_of
  threads-threads [] = events-threads es
  threads-threads (p ∷ ps) = ap (λ zs. p ∷ zs) (threads-threads ps)

  threads-events : (ps : List Parameters) → events_of (map line.Thread ps ++ map line.Event es) ≡ es
  unfolding events_of
  threads-events [] = events-events es
  threads-events (p ∷ ps) = threads-events ps

  order-start : (ps : List Parameters) → start_of (in_order t ps es) ≡ t
  unfolding start_of
  order-start ps = refl

  order-threads : (ps : List Parameters) → threads_of (in_order t ps es) ≡ ps
  unfolding threads_of
  order-threads ps = threads-threads ps

  order-events : (ps : List Parameters) → events_of (in_order t ps es) ≡ es
  unfolding events_of
  order-events ps = threads-events ps

  no-fault-events : (k stage : ℕ) (es : List Event) → 1 ≤ stage → wrong_from k stage (map line.Event es) ≡ 0
  unfolding wrong_from
  no-fault-events k stage [] h = rw (ne_eqb stage 0 (λ z. omega arith))
  no-fault-events k stage (e ∷ es) h = rw (le-leb 1 stage h) (no-fault-events (suc k) 2 es (omega arith))

  no-fault-threads : (k : ℕ) (ps : List Parameters) → wrong_from k 1 (map line.Thread ps ++ map line.Event es) ≡ 0
  unfolding wrong_from
  no-fault-threads k [] = no-fault-events k 1 es (omega arith)
  no-fault-threads k (p ∷ ps) = no-fault-threads (suc k) ps

  no-fault : (ps : List Parameters) → wrong_from 1 0 (in_order t ps es) ≡ 0
  unfolding wrong_from
  no-fault ps = no-fault-threads 2 ps

-- and lines of which none is at fault stand in their order, and are of a form
abbrev Right : List Line → Type 0
Right [] = Unit {0}
Right (l ∷ ls) = (status_in l ≡ 0) × Right ls

-- the rest of a list of lines goes on where its first line is in order
goes_on : (k stage : ℕ) (l : Line) (ls : List Line) → wrong_from (suc k) stage (l ∷ ls) ≡ 0
    → (stage_after stage l ≡ 0 → ⊥) × (wrong_from (suc (suc k)) (stage_after stage l) ls ≡ 0)
unfolding wrong_from
goes_on k stage l ls = go (eqb (stage_after stage l) 0) refl
  where
    go : (b : Bool) → eqb (stage_after stage l) 0 ≡ b → cond b (suc k) (wrong_from (suc (suc k)) (stage_after stage l) ls) ≡ 0
        → (stage_after stage l ≡ 0 → ⊥) × (wrong_from (suc (suc k)) (stage_after stage l) ls ≡ 0)
    go true e h = absurd (omega arith)
    go false e h = (eqb-false (stage_after stage l) 0 e, h)

events-right : (k : ℕ) (ls : List Line) → wrong_from (suc k) 2 ls ≡ 0 → Right ls × ((threads_of ls ≡ []) × (ls ≡ map line.Event (events_of ls)))
unfolding threads_of events_of
events-right k [] h = (tt, (refl, refl))
events-right k (line.Start t ∷ ls) h = absurd ((goes_on k 2 (line.Start t) ls h).0 refl)
events-right k (line.Thread p ∷ ls) h = absurd ((goes_on k 2 (line.Thread p) ls h).0 refl)
events-right k (line.Event e ∷ ls) h =
    let r = events-right (suc k) ls (goes_on k 2 (line.Event e) ls h).1 in
    ((refl, r.0), (r.1.0, ap (λ zs. line.Event e ∷ zs) r.1.1))
events-right k (line.Wrong ∷ ls) h = absurd ((goes_on k 2 line.Wrong ls h).0 refl)

threads-right : (k : ℕ) (ls : List Line) → wrong_from (suc k) 1 ls ≡ 0 → Right ls × (ls ≡ map line.Thread (threads_of ls) ++ map line.Event (events_of ls))
unfolding threads_of events_of
threads-right k [] h = (tt, refl)
threads-right k (line.Start t ∷ ls) h = absurd ((goes_on k 1 (line.Start t) ls h).0 refl)
threads-right k (line.Thread p ∷ ls) h =
    let r = threads-right (suc k) ls (goes_on k 1 (line.Thread p) ls h).1 in
    ((refl, r.0), ap (λ zs. line.Thread p ∷ zs) r.1)
threads-right k (line.Event e ∷ ls) h =
    let r = events-right (suc k) ls (goes_on k 1 (line.Event e) ls h).1 in (
      (refl, r.0),
      ap (λ zs. line.Event e ∷ zs) r.1.1
          ∙ ap (λ ps. map line.Thread ps ++ (line.Event e ∷ map line.Event (events_of ls))) (sym r.1.0),
    )
threads-right k (line.Wrong ∷ ls) h = absurd ((goes_on k 1 line.Wrong ls h).0 refl)

lines-right : (ls : List Line) → wrong_from 1 0 ls ≡ 0 → Right ls × (ls ≡ in_order (start_of ls) (threads_of ls) (events_of ls))
unfolding wrong_from start_of threads_of events_of
lines-right [] h = absurd (omega arith)
lines-right (line.Start t ∷ ls) h =
    let r = threads-right 1 ls (goes_on 0 0 (line.Start t) ls h).1 in
    ((refl, r.0), ap (λ zs. line.Start t ∷ zs) r.1)
lines-right (line.Thread p ∷ ls) h = absurd ((goes_on 0 0 (line.Thread p) ls h).0 refl)
lines-right (line.Event e ∷ ls) h = absurd ((goes_on 0 0 (line.Event e) ls h).0 refl)
lines-right (line.Wrong ∷ ls) h = absurd ((goes_on 0 0 line.Wrong ls h).0 refl)

-- lines that are read are the text, and can be written
abbrev Fit : List Line → Type 0
Fit [] = Unit {0}
Fit (l ∷ ls) = (LineFits l × Writable l) × Fit ls

read-lines : (xs : List (List ℕ)) → Right (map line_in xs) → (lines_text (map line_in xs) ≡ joined_lines xs) × Fit (map line_in xs)
unfolding lines_text joined_lines
read-lines [] h = (refl, tt)
read-lines (x ∷ xs) h =
    let o = only-lines-are-read x h.0 in
    let r = read-lines xs h.1 in
    (ap₂ (λ (a b : List ℕ). a ++ b) o.0 r.0, (o.1, r.1))

-- the records of such lines fit
start_fits : (ls : List Line) → Fit ls → start_of ls < 2 ^ 64
unfolding start_of
start_fits [] f = omega arith
start_fits (line.Start t ∷ ls) f = f.0.0
start_fits (line.Thread p ∷ ls) f = omega arith
start_fits (line.Event e ∷ ls) f = omega arith
start_fits (line.Wrong ∷ ls) f = omega arith

threads-fit : (ls : List Line) → Fit ls → (i : ℕ) → i < length (threads_of ls) → ParametersFit (get_or (threads_of ls) i no_parameters)
unfolding threads_of
threads-fit [] f i h = absurd (omega arith)
threads-fit (line.Start t ∷ ls) f i h = threads-fit ls f.1 i h
threads-fit (line.Thread p ∷ ls) f zero h = f.0.0
threads-fit (line.Thread p ∷ ls) f (suc i) h = threads-fit ls f.1 i (omega arith)
threads-fit (line.Event e ∷ ls) f i h = threads-fit ls f.1 i h
threads-fit (line.Wrong ∷ ls) f i h = threads-fit ls f.1 i h

events-fit : (ls : List Line) → Fit ls → (i : ℕ) → i < length (events_of ls) → EventFits (get_or (events_of ls) i no_event) × (fits_text (get_or (events_of ls) i no_event) ≡ true)
unfolding events_of
events-fit [] f i h = absurd (omega arith)
events-fit (line.Start t ∷ ls) f i h = events-fit ls f.1 i h
events-fit (line.Thread p ∷ ls) f i h = events-fit ls f.1 i h
events-fit (line.Event e ∷ ls) f zero h = f.0
events-fit (line.Event e ∷ ls) f (suc i) h = events-fit ls f.1 i (omega arith)
events-fit (line.Wrong ∷ ls) f i h = events-fit ls f.1 i h

-- a text that makes a file
module _ (text : List ℕ) (room : ℕ) (e : text_status text room ≡ 0) where
  accepted-text : (wrong_line text ≡ 0) × Room (header_in text) (count_in text) room
  unfolding text_status write_status
  accepted-text =
      let p = passed (not (eqb (wrong_line text) 0)) 13 (write_refusals (header_in text) (count_in text) room) e in
      (by-test (eqb (wrong_line text) 0) refl p.0, has_room (header_in text) (count_in text) room p.1)
    where
      by-test : (b : Bool) → eqb (wrong_line text) 0 ≡ b → not b ≡ false → wrong_line text ≡ 0
      by-test true q h = eqb-true (wrong_line text) 0 q
      by-test false q h = false-true (sym h)

  right-text : Right (lines_in text) × (lines_in text ≡ in_order (start_of (lines_in text)) (threads_of (lines_in text)) (events_of (lines_in text)))
  unfolding wrong_line
  right-text = lines-right (lines_in text) accepted-text.0

  said : (lines_text (lines_in text) ≡ text) × Fit (lines_in text)
  said =
      let r = read-lines (lines_of text) right-text.0 in
      (r.0 ∙ lines-joined text, r.1)

  room-here : Room (header_in text) (count_in text) room
  room-here = accepted-text.1

  -- what is read back
  back : (contents_of (trace_in text)
      ≡ record {
        status = 0;
        header = header_in text;
        table = first_threads (threads_of (lines_in text)) (header_in text).n;
        count = count_in text;
      })
      × (events_from (trace_in text) (first_offset (trace_in text)) 1500 ≡ list_of (λ i. get_or (events_of (lines_in text)) i no_event) (count_in text))
  unfolding trace_in
  back =
      let r = room-here in
      write-then-read (header_in text) (threads_of (lines_in text)) (count_in text) (events_of (lines_in text))
      (true-all _ (le-leb 1 _ r.least, (le-leb _ 32 r.most, tt))) (le-leb _ 1500 r.count)
      (start_fits (lines_in text) said.1) (threads-fit (lines_in text) said.1) (λ i l. (events-fit (lines_in text) said.1 i l).0)

  reads : read_status (trace_in text) ≡ 0
  reads = sym (contents-status (trace_in text)) ∙ ap (λ (c : Contents). c.status) back.0

  read_as : contents (trace_in text)
      ≡ record {
        status = 0;
        header = header_in text;
        table = first_threads (threads_of (lines_in text)) (header_in text).n;
        count = count_in text;
      }
  read_as = sym (contents-accepted (trace_in text) reads) ∙ back.0

  same-n : (fields_of (trace_in text)).header.n ≡ (header_in text).n
  same-n = ap (λ (c : Contents). c.header.n) read_as

  same_start : (fields_of (trace_in text)).header.start ≡ (header_in text).start
  same_start = ap (λ (c : Contents). c.header.start) read_as

  same_count : (fields_of (trace_in text)).count ≡ count_in text
  same_count = ap (λ (c : Contents). c.count) read_as

  same-thread : (i : ℕ) → i < (header_in text).n → parameters_at (trace_in text) (thread_offset (fields_of (trace_in text)).header i) ≡ get_or (threads_of (lines_in text)) i no_parameters
  unfolding table_of
  same-thread i l =
      sym (list_at (λ j. parameters_at (trace_in text) (thread_offset (fields_of (trace_in text)).header j)) _ no_parameters (fields_of (trace_in text)).header.n i (omega (arith, same-n)))
      ∙ ap (λ (c : Contents). get_or c.table i no_parameters) read_as
      ∙ list_at (λ j. get_or (threads_of (lines_in text)) j no_parameters) _ no_parameters (header_in text).n i l

  same-events : list_of (λ i. event_at (trace_in text) (event_offset (fields_of (trace_in text)).header i)) (fields_of (trace_in text)).count ≡ events_of (lines_in text)
  unfolding file_events
  same-events =
      sym (all-accepted (trace_in text) reads 1500 (accepted (trace_in text) reads).header.count) ∙ back.1 ∙ list_all no_event (events_of (lines_in text))

  same-event : (i : ℕ) → i < (fields_of (trace_in text)).count
      → event_at (trace_in text) (event_offset (fields_of (trace_in text)).header i) ≡ get_or (events_of (lines_in text)) i no_event
  same-event i l =
      let g : ℕ → Event = λ j. event_at (trace_in text) (event_offset (fields_of (trace_in text)).header j) in
      sym (list_at g [] no_event (fields_of (trace_in text)).count i l)
      ∙ ap (λ (xs : List Event). get_or xs i no_event) (append-nil (list_of g (fields_of (trace_in text)).count) ∙ same-events)

  fits-again : fits_in (trace_in text) ≡ true
  unfolding fits_in
  fits-again =
      at-below (fields_of (trace_in text)).count _ (λ i l.
      ap fits_text (same-event i l) ∙ (events-fit (lines_in text) said.1 i (omega (arith, same_count))).1)

  same_lines : file_lines (trace_in text) ≡ lines_in text
  unfolding file_lines
  same_lines =
      let s : List ℕ = trace_in text in
      ap₂ (λ (x : Line) (xs : List Line). x ∷ xs) (ap line.Start same_start)
      (ap₂ (λ (xs ys : List Line). xs ++ ys)
      (list_same _ (λ i. line.Thread (get_or (threads_of (lines_in text)) i no_parameters)) (fields_of s).header.n (λ i l. ap line.Thread (same-thread i (omega (arith, same-n))))
      ∙ ap (list_of (λ i. line.Thread (get_or (threads_of (lines_in text)) i no_parameters))) same-n
      ∙ list-map line.Thread (λ i. get_or (threads_of (lines_in text)) i no_parameters) (header_in text).n
      ∙ ap (map line.Thread) (list_all no_parameters (threads_of (lines_in text))))
      (list-map line.Event (λ i. event_at s (event_offset (fields_of s).header i)) (fields_of s).count ∙ ap (map line.Event) same-events))
      ∙ sym right-text.1

pub made-is-read : MadeIsRead
made-is-read text room e = (reads text room e, fits-again text room e)

pub text-again : TextAgain
text-again text room e = ap lines_text (same_lines text room e) ∙ (said text room e).0

-- a file that reads and fits
lines-again : (ls : List Line) → Fit ls → map line_in (lines_of (lines_text ls)) ≡ ls
unfolding lines_text lines_of
lines-again [] f = refl
lines-again (l ∷ ls) f =
    ap (map line_in) (line-ended (line_text l) (lines_text ls) (line-text-ended l f.0.1))
    ∙ ap₂ (λ (x : Line) (xs : List Line). x ∷ xs) (line-is-read l f.0.0 f.0.1) (lines-again ls f.1)

fit_at : (ls : List Line) → ((i : ℕ) → i < length ls → LineFits (get_or ls i line.Wrong) × Writable (get_or ls i line.Wrong)) → Fit ls
fit_at [] h = tt
fit_at (l ∷ ls) h = (h 0 (omega arith), fit_at ls (λ i k. h (suc i) (omega arith)))

module _ (s : List ℕ) (b : Bytes s) (e : read_status s ≡ 0) (f : fits_in s ≡ true) where
  threads : List Parameters
  threads = list_of (λ i. parameters_at s (thread_offset (fields_of s).header i)) (fields_of s).header.n

  events : List Event
  events = list_of (λ i. event_at s (event_offset (fields_of s).header i)) (fields_of s).count

  file-order : file_lines s ≡ in_order (fields_of s).header.start threads events
  unfolding file_lines threads events
  file-order =
      ap₂ (λ (xs ys : List Line). line.Start (fields_of s).header.start ∷ (xs ++ ys))
      (list-map line.Thread (λ i. parameters_at s (thread_offset (fields_of s).header i)) (fields_of s).header.n)
      (list-map line.Event (λ i. event_at s (event_offset (fields_of s).header i)) (fields_of s).count)

  writable-events : (es : List Event) → ((i : ℕ) → i < length es → fits_text (get_or es i no_event) ≡ true) → (i : ℕ) → i < length es → Writable (get_or (map line.Event es) i line.Wrong)
  writable-events [] h i l = absurd (omega arith)
  writable-events (v ∷ es) h zero l = h 0 l
  writable-events (v ∷ es) h (suc i) l = writable-events es (λ j k. h (suc j) (omega arith)) i (omega arith)

  fitting : (i : ℕ) → i < length events → fits_text (get_or events i no_event) ≡ true
  unfolding events fits_in
  fitting i l =
      let g : ℕ → Event = λ j. event_at s (event_offset (fields_of s).header j) in
      let m : i < (fields_of s).count = omega (arith, length-list g (fields_of s).count) in
      ap fits_text (ap (λ (xs : List Event). get_or xs i no_event) (sym (append-nil (list_of g (fields_of s).count))) ∙ list_at g [] no_event (fields_of s).count i m)
      ∙ below_at (fields_of s).count _ f i m

  writable : (ps : List Parameters) (i : ℕ) → i < length (map line.Thread ps ++ map line.Event events) → Writable (get_or (map line.Thread ps ++ map line.Event events) i line.Wrong)
  writable [] i l = writable-events events fitting i (omega (arith, length-map events))
    where
      length-map : (es : List Event) → length (map line.Event es) ≡ length es
      length-map [] = refl
      length-map (v ∷ es) = ap suc (length-map es)
  writable (p ∷ ps) zero l = tt
  writable (p ∷ ps) (suc i) l = writable ps i (omega arith)

  writable-line : (j : ℕ) → j < length (in_order (fields_of s).header.start threads events) → Writable (get_or (in_order (fields_of s).header.start threads events) j line.Wrong)
  writable-line zero l = tt
  writable-line (suc i) l = writable threads i (omega arith)

  file-fit : Fit (file_lines s)
  file-fit =
      fit_at (file_lines s) (λ j l. (lines_fit s b j, subst (λ (xs : List Line). j < length xs → Writable (get_or xs j line.Wrong)) (sym file-order) (writable-line j) l))

  lines-of-text : lines_in (text_of s) ≡ in_order (fields_of s).header.start threads events
  lines-of-text = lines-again (file_lines s) file-fit ∙ file-order

  no-wrong-line : wrong_line (text_of s) ≡ 0
  unfolding wrong_line
  no-wrong-line = ap (wrong_from 1 0) lines-of-text ∙ no-fault (fields_of s).header.start events threads

  threads-of-text : threads_of (lines_in (text_of s)) ≡ threads
  threads-of-text = ap threads_of lines-of-text ∙ order-threads (fields_of s).header.start events threads

  events-of-text : events_of (lines_in (text_of s)) ≡ events
  events-of-text = ap events_of lines-of-text ∙ order-events (fields_of s).header.start events threads

  n-of-text : (header_in (text_of s)).n ≡ (fields_of s).header.n
  unfolding threads
  n-of-text = ap length threads-of-text ∙ length-list _ (fields_of s).header.n

  count-of-text : count_in (text_of s) ≡ (fields_of s).count
  unfolding events
  count-of-text = ap length events-of-text ∙ length-list _ (fields_of s).count

  start-of-text : (header_in (text_of s)).start ≡ (fields_of s).header.start
  start-of-text = ap start_of lines-of-text ∙ order-start (fields_of s).header.start events threads

  header-of-text : header_in (text_of s) ≡ (fields_of s).header
  header-of-text = λ i. record { n = n-of-text i; start = start-of-text i }

  text-accepted : (room : ℕ) → length s ≤ room → text_status (text_of s) room ≡ 0
  unfolding text_status first_refusal
  text-accepted room h =
      past _ 14 (write_refusals (header_in (text_of s)) (count_in (text_of s)) room) (ap not (eq-eqb (wrong_line (text_of s)) 0 no-wrong-line))
      ∙ write-accepted (header_in (text_of s)) (count_in (text_of s)) n-of-text count-of-text
    where
      write-accepted : (k : Header) (count : ℕ) → k.n ≡ (fields_of s).header.n → count ≡ (fields_of s).count → first_refusal (write_refusals k count room) ≡ 0
      write-accepted k count p q =
          let a = accepted s e in
          past _ 5 ((not (count_right count), 11) ∷ (ltb room (total_of k count), 12) ∷ [])
          (ap not
          (true-all (leb 1 k.n ∷ leb k.n 32 ∷ []) (le-leb 1 k.n (omega (arith, a.header.least)), (le-leb k.n 32 (omega (arith, a.header.most)), tt))))
          ∙ past _ 11 ((ltb room (total_of k count), 12) ∷ []) (ap not (le-leb count 1500 (omega (arith, a.header.count))))
          ∙ past _ 12 [] (le-ltb room (total_of k count) (omega (arith, a.size)))

  -- the file's own array has the same records at their places
  list-within : {A : Type 0} (g : ℕ → A) (r : List A) (d : A) (n i : ℕ) → i < n → get_or (list_of g n) i d ≡ get_or (list_of g n ++ r) i d
  list-within g r d n i l =
      ap (λ xs. get_or xs i d) (sym (append-nil (list_of g n))) ∙ list_at g [] d n i l ∙ sym (list_at g r d n i l)

  arrays : file_of (fields_of s).header threads (fields_of s).count events
      ≡ file_of (contents s).header (contents s).table (contents s).count (array_of (file_events s (fields_of s).header (fields_of s).count))
  unfolding file_of threads_bytes events_bytes table_of array_of file_events threads events
  arrays =
      ap₂ (λ (x y : List ℕ). header_bytes (fields_of s).header (fields_of s).count ++ x ++ y)
      (joined_same _ _ (fields_of s).header.n (λ i l. ap parameters_bytes (list-within (λ j. parameters_at s (thread_offset (fields_of s).header j)) _ no_parameters (fields_of s).header.n i l)))
      (joined_same _ _ (fields_of s).count (λ i l. ap event_bytes (list-within (λ j. event_at s (event_offset (fields_of s).header j)) _ no_event (fields_of s).count i l)))

  same-file : trace_in (text_of s) ≡ s
  unfolding trace_in
  same-file =
      (λ i. file_of (header-of-text i) (threads-of-text i) (count-of-text i) (events-of-text i))
      ∙ arrays
      ∙ ap₂ (λ (c : Contents) (v : List Event). file_of c.header c.table c.count (array_of v)) (sym (contents-accepted s e))
      (sym (all-accepted s e 1500 (accepted s e).header.count))
      ∙ read-then-write s b (contents-status s ∙ e)

pub file-again : FileAgain
file-again s b e f room h = (text-accepted s b e f room h, same-file s b e f)

-- 14 exactly where a file doesn't fit
pub only-unfit : OnlyUnfit
unfolding file_status first_refusal
only-unfit s room e = (λ f. refused-at (file_refusals s room) 1 (r, tt) (ap not f), λ h. go (fits_in s) refl h)
  where
    r : not (eqb (read_status s) 0) ≡ false
    r = ap not (eq-eqb (read_status s) 0 e)

    go : (x : Bool) → fits_in s ≡ x → first_refusal (file_refusals s room) ≡ 14 → x ≡ false
    go true f h =
        absurd
        (cond-elim (λ (n : ℕ). n ≡ 14 → ⊥) (ltb room (length (text_of s))) 12 0 (λ q z. omega arith) (λ q z. omega arith)
        (sym
        (past _ (read_status s) ((not (fits_in s), 14) ∷ (ltb room (length (text_of s)), 12) ∷ []) r
        ∙ past _ 14 ((ltb room (length (text_of s)), 12) ∷ []) (ap not f))
        ∙ h))
    go false f h = refl

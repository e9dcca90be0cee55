-- The steps of a file give its lines and its sums; no sum wraps.
use Prim.Native.Nat.{ℕ, zero, suc, ◌+◌, ◌≤◌, ◌<◌}
use mathlib.Core.Bool.{Bool, true, false}
use mathlib.Core.List.{List, [], ◌∷◌, ◌++◌}
use mathlib.Core.Path.{◌≡◌, refl, sym, ap, ap₂, ◌∙◌, subst⁻¹}
use native.Mathlib.Omega.{arith}
use lib.Dec.{eqb}
use lib.ListN.{length, get_or, replicate}
use borrow.Author.Tests.{eq-eqb}
use Rattle.base.proofs.TestLaws.{cond-true, cond-false, false-true}
use Rattle.records.specs.declared.Event.{Event}
use Rattle.passing.specs.Sequence.{answer}
use Rattle.passing.specs.Reports.{reports, total}
use Rattle.reports.specs.Tallies.{numbers}
use Rattle.reports.proofs.NumberLaws.{numbers-length, no-numbers}
use Rattle.state.specs.declared.State.{State}
use Rattle.state.specs.Sound.{sound_state}
use Rattle.moments.specs.Reports.{tallies}
use Rattle.events.specs.Answers.{executive}
use Rattle.events.specs.Reports.{own_tallies, event_numbers, event_tallies, most_told}
use Rattle.events.proofs.ReportLaws.{numbers_fit}
use Rattle.std.specs.Prelude.{Option, Some, None}
use Rattle.trace_reader.specs.Reader.{next_at, events_from}
use Rattle.trace_contents.proofs.ReadLaws.{accepted}
use Rattle.trace_reader.proofs.ReaderLaws.{from-event, from-none, from_end, all-accepted}
use Rattle.replay_steps.specs.FileSteps.{FileStep, step_of, stepped_of, told_of, told_at, opening_of, begun_of, closing}
use Rattle.replay_steps.proofs.FileLaws.{begun-reads, told-event, told-end, goes_on, stops-here}
use Rattle.listing.specs.Lines.{refused_line}
use Rattle.text.specs.Placed.{Put}
use Rattle.text.proofs.PlacedLaws.{nothing}
use Rattle.counts_text.specs.Lines.{event_text, sums_text}
use Rattle.counts_text.specs.Room.{room}
use Rattle.counts_text.specs.Sums.{added, Addable}
use Rattle.counts_text.proofs.SumLaws.{added-length, added-most, added-added, added-zeros, zeros-added, numbers-added}
use Rattle.counts_steps.specs.Counts.{event_texts, sums_over, replayed_counts, counts_of}
use Rattle.counts_steps.specs.CountSteps.{text_at, CountStep, counted_at, SumsOf, text_from, sums_from, Leads, Ends, StepsCount, StepsCountAll}

-- ---- no sum wraps

zeros-most : (n k : ℕ) → get_or (replicate n 0) k 0 ≤ 0
zeros-most zero k = omega arith
zeros-most (suc n) zero = omega arith
zeros-most (suc n) (suc k) = zeros-most n k

told-most : (s : State) (file : List ℕ) (offset k : ℕ) → get_or (told_at s file offset) k 0 ≤ most_told
unfolding told_at
told-most s file offset k = go (next_at file offset)
  where
    go : (x : Option (Event × ℕ)) → get_or (told_of s x) k 0 ≤ most_told
    go (Some (e, after)) = numbers_fit.1 s e k
    go None = omega (arith, zeros-most 128 k)

pub no-sums : SumsOf 0 (replicate 128 0)
no-sums = record { all = refl; most = zeros-most 128 }

module _ (i : ℕ) (xs : List ℕ) (h : SumsOf i xs) (s : State) (file : List ℕ) (offset : ℕ) where
  pub addable : i < 1500 → Addable xs (told_at s file offset)
  addable l = record { all = h.all; fit = λ k. omega (arith, h.most k, told-most s file offset k) }

  pub sums_next : SumsOf (i + 1) (added xs (told_at s file offset))
  sums_next =
      record {
        all = added-length xs (told_at s file offset) ∙ h.all;
        most = λ k. omega (arith, added-most xs (told_at s file offset) k, h.most k, told-most s file offset k);
      }

-- ---- one step

module _ (i : ℕ) (s : State) (file : List ℕ) (offset : ℕ) (x : FileStep) (e : x ≡ stepped_of s file offset) where
  pub text-none : x.more ≡ false → text_at i s file offset ≡ []
  unfolding text_at
  text-none m = cond-false (stepped_of s file offset).more (event_text i (stepped_of s file offset).answer.status s.header.n (told_at s file offset)) [] (ap (λ (y : FileStep). y.more) (sym e) ∙ m)

  pub text-one : x.more ≡ true → text_at i s file offset ≡ event_text i x.answer.status s.header.n (told_at s file offset)
  unfolding text_at
  text-one m =
      cond-true (stepped_of s file offset).more (event_text i (stepped_of s file offset).answer.status s.header.n (told_at s file offset)) [] (ap (λ (y : FileStep). y.more) (sym e) ∙ m)
      ∙ ap (λ (y : FileStep). event_text i y.answer.status s.header.n (told_at s file offset)) (sym e)

-- what the code answers and leaves is what the definitions say
module _ (i : ℕ) (s : State) (file : List ℕ) (offset : ℕ) (out : List ℕ) {sums told sums' : List ℕ} (x : FileStep) (h : SumsOf i sums) (e : x ≡ stepped_of s file offset)
    (a : sound_state x.answer.state ≡ true) (t : told ≡ told_at s file offset) (g : sums' ≡ added sums told) where
  abbrev CountsAs : CountStep → List ℕ → Type 0
  CountsAs r out' =
      (r ≡ counted_at i s file offset)
      × (Put out 0 (text_at i s file offset) out' r.length
      × ((sums' ≡ added sums (told_at s file offset)) × ((sound_state r.state ≡ true) × SumsOf (i + 1) sums' × (r.length ≤ room))))

  counts-as : (b : Bool) (v out' : List ℕ) (n : ℕ) → x.more ≡ b → text_at i s file offset ≡ v → Put out 0 v out' n → n ≤ room
      → CountsAs (record { more = b; offset = x.offset; length = n; state = x.answer.state }) out'
  unfolding counted_at
  counts-as b v out' n m w p l =
      let k : sums' ≡ added sums (told_at s file offset) = g ∙ ap (added sums) t in
      let z : 0 + length v ≡ length v = omega arith in
      let step : FileStep → ℕ → CountStep = λ y j. record { more = y.more; offset = y.offset; length = j; state = y.answer.state } in (
        ap (λ (c : Bool). record { more = c; offset = x.offset; length = n; state = x.answer.state }) (sym m)
            ∙ ap₂ step e (p.next ∙ z ∙ ap length (sym w)),
        (subst⁻¹ (λ (u : List ℕ). Put out 0 u out' n) w p, (k, (a, subst⁻¹ (SumsOf (i + 1)) k (sums_next i sums h s file offset), l))),
      )

  pub end-counts : x.more ≡ false → CountsAs (record { more = false; offset = x.offset; length = 0; state = x.answer.state }) out
  end-counts m = counts-as false [] out 0 m (text-none i s file offset x e m) (nothing out 0) (omega arith)

  pub event-counts : {out' : List ℕ} {n : ℕ} → x.more ≡ true → Put out 0 (event_text i x.answer.status s.header.n told) out' n → n ≤ room
      → CountsAs (record { more = true; offset = x.offset; length = n; state = x.answer.state }) out'
  event-counts {out'} {n} m p l =
      counts-as true (event_text i x.answer.status s.header.n told) out' n m
      (text-one i s file offset x e m ∙ ap (event_text i x.answer.status s.header.n) (sym t)) p l

-- ---- the steps of a file

sums_none : (s : State) → sums_over s [] ≡ replicate 128 0
unfolding sums_over
sums_none s = no-numbers

sums-one : (s : State) (e : Event) (es : List Event) → sums_over s (e ∷ es) ≡ added (event_numbers s e) (sums_over (answer executive s e).state es)
unfolding sums_over
sums-one s e es =
    sym (numbers-added (event_tallies s e) (total tallies (reports executive tallies own_tallies (answer executive s e).state es)))

leads : (i : ℕ) (s : State) (file : List ℕ) (offset k : ℕ) (e : Event) (after : ℕ) → next_at file offset ≡ Some (e, after)
    → Leads i s file offset k (counted_at i s file offset)
unfolding text_from sums_from event_texts counted_at stepped_of
leads i s file offset k e after z =
    let f = from-event file offset e after k z in
    let st : stepped_of s file offset ≡ record { more = true; offset = after; answer = answer executive s e } = ap (step_of s offset) z in
    let told : told_at s file offset ≡ event_numbers s e = told-event s file offset e after z in
    let cs : (counted_at i s file offset).state ≡ (answer executive s e).state = ap (λ (x : FileStep). x.answer.state) st in
    let co : (counted_at i s file offset).offset ≡ after = ap (λ (x : FileStep). x.offset) st in
    let line : text_at i s file offset ≡ event_text i (answer executive s e).status s.header.n (event_numbers s e) =
    text-one i s file offset (record { more = true; offset = after; answer = answer executive s e }) (sym st) refl
    ∙ ap (event_text i (answer executive s e).status s.header.n) told in
    record {
      text =
          ap (event_texts i s) f
          ∙ ap₂ (λ (xs ys : List ℕ). xs ++ ys) (sym line) (ap₂ (λ (u : State) (o : ℕ). event_texts (suc i) u (events_from file o k)) (sym cs) (sym co));
      sums =
          ap (sums_over s) f
          ∙ sums-one s e (events_from file after k)
          ∙ ap₂ added (sym told) (ap₂ (λ (u : State) (o : ℕ). sums_over u (events_from file o k)) (sym cs) (sym co));
      state = (goes_on s file offset k (stepped_of s file offset) refl (ap (λ (x : FileStep). x.more) st)).state;
    }

ends : (i : ℕ) (s : State) (file : List ℕ) (offset k : ℕ) → next_at file offset ≡ None → Ends i s file offset k (counted_at i s file offset)
unfolding text_from sums_from event_texts counted_at stepped_of
ends i s file offset k z =
    let f = from_end file offset k z in
    let m : (stepped_of s file offset).more ≡ false = ap (λ (x : Option (Event × ℕ)). (step_of s offset x).more) z in
    record {
      text = ap (event_texts i s) f;
      sums = ap (sums_over s) f ∙ sums_none s;
      state = (stops-here s file offset k (stepped_of s file offset) refl m).state;
      told = told-end s file offset z;
      stays = ap (λ (x : Option (Event × ℕ)). (step_of s offset x).answer.state) z;
    }

pub steps-count : StepsCount
unfolding counted_at stepped_of
steps-count i s file offset k = go (next_at file offset) refl
  where
    go : (x : Option (Event × ℕ)) → next_at file offset ≡ x
        → ((step_of s offset (next_at file offset)).more ≡ true → Leads i s file offset k (counted_at i s file offset))
        × ((step_of s offset (next_at file offset)).more ≡ false → Ends i s file offset k (counted_at i s file offset))
    go (Some (e, after)) z = (λ m. leads i s file offset k e after z, λ m. false-true (sym m ∙ ap (λ (x : Option (Event × ℕ)). (step_of s offset x).more) z))
    go None z = (λ m. false-true (sym (ap (λ (x : Option (Event × ℕ)). (step_of s offset x).more) z) ∙ m), λ m. ends i s file offset k z)

-- the same of what a step answered
module _ (i : ℕ) (s : State) (file : List ℕ) (offset k : ℕ) (x : CountStep) (e : x ≡ counted_at i s file offset) where
  pub leads-on : x.more ≡ true → Leads i s file offset k x
  leads-on m = subst⁻¹ (Leads i s file offset k) e ((steps-count i s file offset k).0 (ap (λ (y : CountStep). y.more) (sym e) ∙ m))

  pub ends-here : x.more ≡ false → Ends i s file offset k x
  ends-here m = subst⁻¹ (Ends i s file offset k) e ((steps-count i s file offset k).1 (ap (λ (y : CountStep). y.more) (sym e) ∙ m))

-- no steps tell nothing
pub no_steps : (s : State) (file : List ℕ) (offset : ℕ) → sums_from s file offset 0 ≡ replicate 128 0
unfolding sums_from
no_steps s file offset = ap (sums_over s) (from-none file offset) ∙ sums_none s

pub steps-count-all : StepsCountAll
unfolding counts_of replayed_counts text_from sums_from
steps-count-all file z =
    let r = begun-reads file z in
    let f = all-accepted file r 1500 (accepted file r).header.count in
    cond-true (eqb (begun_of file).status 0) (replayed_counts file) (refused_line (begun_of file).status) (eq-eqb (begun_of file).status 0 z)
    ∙ ap (λ (es : List Event). event_texts 0 (opening_of file).state es ++ sums_text (closing file).header.n (sums_over (opening_of file).state es)) (sym f)

-- ---- the sums from step to step

told-length : (s : State) (file : List ℕ) (offset : ℕ) → length (told_at s file offset) ≡ 128
unfolding told_at
told-length s file offset = go (next_at file offset)
  where
    go : (x : Option (Event × ℕ)) → length (told_of s x) ≡ 128
    go (Some (e, after)) = numbers-length 32 (event_tallies s e)
    go None = refl

-- before the first event
pub sums-start : (s : State) (file : List ℕ) (offset k : ℕ) → added (replicate 128 0) (sums_from s file offset k) ≡ sums_from s file offset k
unfolding sums_from sums_over
sums-start s file offset k =
    let fs = total tallies (reports executive tallies own_tallies s (events_from file offset k)) in
    ap (λ (n : ℕ). added (replicate n 0) (numbers fs)) (sym (numbers-length 32 fs)) ∙ zeros-added (numbers fs)

-- with one more added, and what the others tell
pub sums-carry : {i : ℕ} {s : State} {file : List ℕ} {offset k : ℕ} {x : CountStep} (xs : List ℕ) → length xs ≡ 128 → Leads i s file offset k x
    → added (added xs (told_at s file offset)) (sums_from x.state file x.offset k) ≡ added xs (sums_from s file offset (suc k))
sums-carry {i} {s} {file} {offset} {k} {x} xs l h =
    added-added xs (told_at s file offset) (sums_from x.state file x.offset k) (omega (arith, told-length s file offset)) ∙ ap (added xs) (sym h.sums)

-- at the end nothing is added
pub sums_same : {i : ℕ} {s : State} {file : List ℕ} {offset k : ℕ} {x : CountStep} (xs : List ℕ) → Ends i s file offset k x → added xs (told_at s file offset) ≡ xs
sums_same xs h = ap (added xs) h.told ∙ added-zeros 128 xs

-- where no others are left
pub sums-all : {rest whole : List ℕ} (xs : List ℕ) → added xs rest ≡ whole → rest ≡ replicate 128 0 → xs ≡ whole
sums-all xs e z = sym (added-zeros 128 xs) ∙ ap (added xs) (sym z) ∙ e

-- A replay: what a refused file answers, and one that begins.
use Prim.Native.Nat.{ℕ, zero, suc}
use mathlib.Core.List.{List}
use mathlib.Core.Path.{◌≡◌, refl, sym, ap, ◌∙◌}
use native.Mathlib.Omega.{arith}
use borrow.Author.Tests.{eq-eqb, ne_eqb}
use Rattle.records.specs.declared.Parameters.{Parameters}
use Rattle.records.specs.declared.Header.{Header}
use Rattle.base.proofs.TestLaws.{cond-true, cond-false}
use Rattle.base.specs.Refusals.{first_refusal}
use Rattle.base.proofs.RefusalLaws.{given-second}
use Rattle.state.specs.declared.State.{State}
use Rattle.events.specs.Opening.{no_state, open_status, opening}
use Rattle.passing.specs.Sequence.{Answer}
use Rattle.trace_contents.specs.declared.Contents.{Contents}
use Rattle.trace_contents.specs.Read.{read_status, contents_of, nothing}
use Rattle.trace_contents.proofs.ReadLaws.{contents-refused, contents-status}
use Rattle.replay_steps.specs.FileSteps.{Beginning, opening_of, begun_of, answers_from, last_of}
use Rattle.board_replay.specs.Replayed.{replay_of}

-- an opening that is refused has no threads
closed : (header : Header) (table : List Parameters) → (open_status header table ≡ 0 → ⊥) → (opening header table).state ≡ no_state
unfolding opening
closed header table z = rw (ne_eqb (open_status header table) 0 z)

-- a refused read has no threads, so that its opening is refused
none-opens : (status : ℕ) → open_status (nothing status).header (nothing status).table ≡ 5
unfolding open_status nothing first_refusal
none-opens status = refl

opens : (header : Header) (table : List Parameters) → open_status header table ≡ 0 → (opening header table).status ≡ 0
unfolding opening
opens header table z = rw (eq-eqb (open_status header table) 0 z)

abbrev opens_as : Contents → ℕ
opens_as c = open_status c.header c.table

-- so a file that is refused leaves a state of no threads
no_threads : (file : List ℕ) → ((begun_of file).status ≡ 0 → ⊥) → (opening_of file).state ≡ no_state
unfolding begun_of
no_threads file n =
    closed (contents_of file).header (contents_of file).table (λ z. go z (read_status file) refl)
  where
    go : opens_as (contents_of file) ≡ 0 → (r : ℕ) → read_status file ≡ r → ⊥
    go z zero e =
        n
        (given-second (contents_of file).status (opening_of file).status (contents-status file ∙ e)
        ∙ opens (contents_of file).header (contents_of file).table z)
    go z (suc r) e =
        let q : opens_as (contents_of file) ≡ 5 = ap opens_as (contents-refused file (λ o. omega arith)) ∙ none-opens (read_status file) in
        omega arith

abbrev refusal : ℕ → State → Answer State
refusal n s = record { status = n; running = 255; next = 0; state = s }

module _ (file : List ℕ) (count : ℕ) (b : Beginning) (e : b ≡ begun_of file) where
  refuses : (b.status ≡ 0 → ⊥) → (begun_of file).status ≡ 0 → ⊥
  refuses n z = n (ap (λ (x : Beginning). x.status) e ∙ z)

  pub refused-is : (b.status ≡ 0 → ⊥) → refusal b.status b.answer.state ≡ replay_of file count
  unfolding replay_of begun_of
  refused-is n =
      ap (λ (x : Beginning). refusal x.status x.answer.state) e
      ∙ ap (refusal (begun_of file).status) (no_threads file (refuses n))
      ∙ sym (cond-false _ _ _ (ne_eqb (begun_of file).status 0 (refuses n)))

  pub replayed-is : (a : Answer State) → b.status ≡ 0 → a ≡ last_of b.answer (answers_from b.answer.state file b.offset count) → a ≡ replay_of file count
  unfolding replay_of begun_of
  replayed-is a z h =
      h
      ∙ ap (λ (x : Beginning). last_of x.answer (answers_from x.answer.state file x.offset count)) e
      ∙ sym (cond-true _ _ _ (eq-eqb (begun_of file).status 0 (ap (λ (x : Beginning). x.status) (sym e) ∙ z)))

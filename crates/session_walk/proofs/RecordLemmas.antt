-- The records of a walk.
use Rattle.std.proofs.Common.{◌≡◌, ℕ, zero, suc, ◌+◌, inl, inr, List, [], ◌∷◌, refl, sym, ◌∙◌, ap, subst, arith}
use Rattle.std.specs.Prelude.{Bool, true, false, Some, Result, slice_get, if◌then◌else◌}
use Rattle.std.proofs.Math.Path.{fun_ext}
use Rattle.std.proofs.lemmas.Option.{none-some, same_Some}
use Rattle.evidence_types.specs.Bytes.{bundle}
use Rattle.bench_trait.specs.declared.ask.Ask.{Ask}
use Rattle.bench_trait.specs.declared.bench.BenchFault.{BenchFault}
use Rattle.bench_trait.specs.declared.bench.MeasureError.{MeasureError}
use Rattle.session_model.specs.Session.{Session, session_questions}
use Rattle.session_model.specs.Record.{Record, done, failed as failed_record, IsRisingRecord}
use Rattle.session_model.specs.RightRecord.{IsRightRecord}
use Rattle.session_runs.specs.Standing.{Entry, State, is_open, is_done, has_failed, has_starved, Standing}
use Rattle.session_runs.specs.History.{IsLegal, answers_to, record_of}
use Rattle.session_runs.specs.Rising.{IsRising, AreRising}
use Rattle.session_runs.specs.Schedule.{Walked, is_running, is_starving, open_count, one_starves}
use Rattle.session_runs.specs.Played.{ArePlayed, AreOver, AreLegal}
use Rattle.session_runs.specs.ByFaults.{traces_of, failed_event, faults_of}
use Rattle.session_walk.specs.Records.{record_in, AreRecordsOf, AreRightRecords, AreRisingRecords, trace_in, failed_in, traces_in, faults_in}

-- a record has the trace of its session, and the event at which it failed
trace_is : (session : Session) (standing : Standing) (state : State) (found : Record) → record_of session standing state ≡ Some found → standing.trace ≡ trace_in found
trace_is session standing is_open found e = absurd (none-some found e)
trace_is session standing (is_done value) found e =
    ap (λ x. trace_in x) (same_Some (done standing.trace (answers_to (session_questions session) standing.answers) (bundle value)) found e)
trace_is session standing (has_failed event fault) found e = ap (λ x. trace_in x) (same_Some (failed_record event fault standing.trace) found e)
trace_is session standing (has_starved event) found e = absurd (none-some found e)

failed_is : (session : Session) (standing : Standing) (state : State) (found : Record) → record_of session standing state ≡ Some found → failed_event state ≡ failed_in found
failed_is session standing is_open found e = absurd (none-some found e)
failed_is session standing (is_done value) found e =
    ap (λ x. failed_in x) (same_Some (done standing.trace (answers_to (session_questions session) standing.answers) (bundle value)) found e)
failed_is session standing (has_failed event fault) found e = ap (λ x. failed_in x) (same_Some (failed_record event fault standing.trace) found e)
failed_is session standing (has_starved event) found e = absurd (none-some found e)

pub traces_are : (all : List Walked) (records : List Record) → AreRecordsOf all records → traces_of all ≡ traces_in records
traces_are [] [] r = refl
traces_are [] (found ∷ records) r = absurd r
traces_are (walked ∷ all) [] r = absurd r
traces_are (walked ∷ all) (found ∷ records) r =
    ap (λ t. t ∷ traces_of all) (trace_is walked.session walked.standing walked.standing.state found r.0)
    ∙ ap (λ ts. trace_in found ∷ ts) (traces_are all records r.1)

fault_at : (all : List Walked) (records : List Record) (number : ℕ) → AreRecordsOf all records → faults_of all number ≡ faults_in records number
fault_at [] [] number r = refl
fault_at [] (found ∷ records) number r = absurd r
fault_at (walked ∷ all) [] number r = absurd r
fault_at (walked ∷ all) (found ∷ records) zero r = failed_is walked.session walked.standing walked.standing.state found r.0
fault_at (walked ∷ all) (found ∷ records) (suc number) r = fault_at all records number r.1

pub faults_are : (all : List Walked) (records : List Record) → AreRecordsOf all records → faults_of all ≡ faults_in records
faults_are all records r = fun_ext (λ number. fault_at all records number r)

-- right records, by the law of records
module _ (Gives : Ask → List ℕ → Type 0) (Fails : Ask → BenchFault → Type 0) (Starves : Ask → Type 0) (keys : List (List ℕ × List ℕ)) (results : ℕ → ℕ → Result (List ℕ) MeasureError) where
  abbrev pub MakesRight : Type 0
  MakesRight = (session : Session) (history : List Entry) (standing : Standing) (found : Record) → IsLegal Gives Fails Starves session keys history standing → record_of session standing standing.state ≡ Some found → IsRightRecord Gives Fails session keys found

  abbrev pub MakesRising : Type 0
  MakesRising = (session : Session) (history : List Entry) (standing : Standing) (found : Record) → IsLegal Gives Fails Starves session keys history standing → IsRising standing → record_of session standing standing.state ≡ Some found → IsRisingRecord Gives Fails session keys found

  record_there : (session : Session) (walked : Walked) (found : Record) → walked.session ≡ session → record_in walked ≡ Some found → record_of session walked.standing walked.standing.state ≡ Some found
  record_there session walked found same r = ap (λ s. record_of s walked.standing walked.standing.state) (sym same) ∙ r

  pub are_right : MakesRight → (number : ℕ) (sessions : List Session) (all : List Walked) (records : List Record) → ArePlayed keys results number sessions all → AreLegal Gives Fails Starves keys sessions all → AreRecordsOf all records → AreRightRecords Gives Fails keys sessions records
  are_right law number [] [] [] p l r = tt
  are_right law number [] [] (found ∷ records) p l r = absurd r
  are_right law number [] (walked ∷ all) records p l r = absurd p
  are_right law number (session ∷ sessions) [] records p l r = absurd p
  are_right law number (session ∷ sessions) (walked ∷ all) [] p l r = absurd r
  are_right law number (session ∷ sessions) (walked ∷ all) (found ∷ records) p l r = (
    law session walked.history walked.standing found l.0 (record_there session walked found p.0.same r.0),
    are_right law (number + 1) sessions all records p.1 l.1 r.1,
  )

  pub are_rising : MakesRising → (number : ℕ) (sessions : List Session) (all : List Walked) (records : List Record) → ArePlayed keys results number sessions all → AreLegal Gives Fails Starves keys sessions all → AreRising all → AreRecordsOf all records → AreRisingRecords Gives Fails keys sessions records
  are_rising law number [] [] [] p l h r = tt
  are_rising law number [] [] (found ∷ records) p l h r = absurd r
  are_rising law number [] (walked ∷ all) records p l h r = absurd p
  are_rising law number (session ∷ sessions) [] records p l h r = absurd p
  are_rising law number (session ∷ sessions) (walked ∷ all) [] p l h r = absurd r
  are_rising law number (session ∷ sessions) (walked ∷ all) (found ∷ records) p l h r = (
    law session walked.history walked.standing found l.0 h.0 (record_there session walked found p.0.same r.0),
    are_rising law (number + 1) sessions all records p.1 l.1 h.1 r.1,
  )

-- where no session is open or starved each has a record
pub none_open : (all : List Walked) → AreOver all → one_starves all ≡ false → open_count all ≡ 0
none_open all (inl none) fed = none
none_open all (inr starves) fed = absurd (clash (one_starves all) starves fed)
  where
    clash : (b : Bool) → b ≡ true → b ≡ false → ⊥
    clash b e f = cc

ended : (walked : Walked) (state : State) → is_running state ≡ false → is_starving state ≡ false → (found : Record) × (record_of walked.session walked.standing state ≡ Some found)
ended walked is_open r s = absurd (cc)
ended walked (is_done value) r s = (done walked.standing.trace (answers_to (session_questions walked.session) walked.standing.answers) (bundle value), refl)
ended walked (has_failed event fault) r s = (failed_record event fault walked.standing.trace, refl)
ended walked (has_starved event) r s = absurd (cc)

pub each_ended : (all : List Walked) (i : ℕ) (walked : Walked) → open_count all ≡ 0 → one_starves all ≡ false → slice_get all i ≡ Some walked → (found : Record) × (record_in walked ≡ Some found)
each_ended [] i walked none fed there = absurd (none-some walked there)
each_ended (first ∷ rest) i walked none fed there =
    by_tests i (is_running first.standing.state) refl none (is_starving first.standing.state) refl fed there (λ n none_left fed_left h. each_ended rest n walked none_left fed_left h)
  where
    by_tests : (i : ℕ) (b : Bool) → is_running first.standing.state ≡ b → (if b then 1 + open_count rest else open_count rest) ≡ 0 → (c : Bool) → is_starving first.standing.state ≡ c → (if c then true else one_starves rest) ≡ false → slice_get (first ∷ rest) i ≡ Some walked → ((n : ℕ) → open_count rest ≡ 0 → one_starves rest ≡ false → slice_get rest n ≡ Some walked → (found : Record) × (record_in walked ≡ Some found)) → (found : Record) × (record_in walked ≡ Some found)
    by_tests i true is none c starves fed there f = absurd (omega (arith, none))
    by_tests i false is none true starves fed there f = absurd (cc)
    by_tests zero false is none false starves fed there f =
        subst (λ w. (found : Record) × (record_in w ≡ Some found)) (same_Some first walked there) (ended first first.standing.state is starves)
    by_tests (suc n) false is none false starves fed there f = f n none fed there

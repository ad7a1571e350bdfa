-- The record of a session whose events happened in the order of their numbers.
use Rattle.std.proofs.Common.{◌≡◌, ℕ, ◌≤◌, ◌<◌, inl, inr, List, [], ◌∷◌, length, sym, ◌∙◌, ap, subst, arith}
use Rattle.std.specs.Prelude.{Option, None, Some, Contains}
use Rattle.std.proofs.lemmas.Bool.{cases_lt}
use Rattle.phrase_tree.specs.Numbering.{event_count}
use Rattle.evidence_types.specs.Bytes.{bundle}
use Rattle.bench_trait.specs.declared.ask.Ask.{Ask}
use Rattle.bench_trait.specs.declared.bench.BenchFault.{BenchFault}
use Rattle.session_model.specs.Session.{Session, session_questions}
use Rattle.session_model.specs.Record.{Record, done, failed as failed_record, numbers_below, AreAnsweredBefore, IsRisingRecord}
use Rattle.session_model.specs.RightRecord.{IsRightDone, IsRightFailed, IsRightRecord, AreAnsweredIn}
use Rattle.session_runs.specs.Standing.{Entry, State, is_open, is_done, has_failed, has_starved, Standing}
use Rattle.session_runs.specs.History.{IsLegal, answers_to, record_of}
use Rattle.session_runs.specs.Rising.{FailsAt, IsRising}
use Rattle.session_runs.proofs.EntryLaws.{some_is}
use Rattle.session_runs.proofs.TraceLaws.{occurrences, occurs_from, contains_from, Told, told_after_history, phrase_within}
use Rattle.session_runs.proofs.RecordLaws.{history_right}
use Rattle.session_runs.proofs.RisingLaws.{numbers_in, numbers_out}

no_record : (Q : Type 0) (found : Record) → ◌≡◌ {A = Option Record} None (Some found) → Q
no_record Q found e = absurd (cc)

module _ (Gives : Ask → List ℕ → Type 0) (Fails : Ask → BenchFault → Type 0) (Starves : Ask → Type 0) (session : Session) (keys : List (List ℕ × List ℕ)) (history : List Entry) (s : Standing) (legal : IsLegal Gives Fails Starves session keys history s) (rising : IsRising s) where
  as_numbers : (m : ℕ) → occurrences s.trace m ≡ occurrences (numbers_below (length s.trace)) m
  as_numbers m = ap (λ xs. occurrences xs m) rising.rising

  -- a trace that has each event has as many numbers as there are events
  whole_length : ((n : ℕ) → n < event_count session.phrase → Contains s.trace n) → length s.trace ≡ event_count session.phrase
  whole_length whole =
      let told : Told session s = told_after_history session keys history s legal.stands in
      let at_least : event_count session.phrase ≤ length s.trace = elim (cases_lt (length s.trace) (event_count session.phrase)) [
        | inl lt ↦ absurd (omega (arith, occurs_from s.trace (length s.trace) (whole (length s.trace) lt), as_numbers (length s.trace), numbers_out (length s.trace) (length s.trace) (omega arith)))
        | inr ge ↦ ge
      ] in
      let at_most : length s.trace ≤ event_count session.phrase = elim (cases_lt (event_count session.phrase) (length s.trace)) [
        | inl lt ↦ absurd (omega (arith, phrase_within session.phrase (event_count session.phrase) (omega (arith, told.counted (event_count session.phrase), as_numbers (event_count session.phrase), numbers_in (length s.trace) (event_count session.phrase) lt))))
        | inr ge ↦ ge
      ] in
      omega (arith, at_least, at_most)

  answered_before : (event : ℕ) → event ≡ length s.trace → (questions : List Ask) → AreAnsweredIn Gives s.trace questions → AreAnsweredBefore Gives event questions
  answered_before event is [] h = tt
  answered_before event is (ask ∷ questions) h =
      (λ lt. h.0 (contains_from s.trace ask.event (omega (arith, as_numbers ask.event, numbers_in (length s.trace) ask.event (omega (arith, lt, is))))), answered_before event is questions h.1)

  rising_record : (state : State) (found : Record) → FailsAt state (length s.trace) → record_of session s state ≡ Some found → IsRightRecord Gives Fails session keys found → IsRisingRecord Gives Fails session keys found
  rising_record is_open found fails e right = no_record (IsRisingRecord Gives Fails session keys found) found e
  rising_record (has_starved event) found fails e right = no_record (IsRisingRecord Gives Fails session keys found) found e
  rising_record (is_done value) found fails e right =
      let same : done s.trace (answers_to (session_questions session) s.answers) (bundle value) ≡ found = some_is Record (done s.trace (answers_to (session_questions session) s.answers) (bundle value)) found e in
      let r : IsRightDone Gives session keys s.trace (answers_to (session_questions session) s.answers) (bundle value) = subst (λ x. IsRightRecord Gives Fails session keys x) (sym same) right in
      subst (λ x. IsRisingRecord Gives Fails session keys x) same (record {
        answered = r.answered;
        whole = rising.rising ∙ ap (λ n. numbers_below n) (whole_length (λ n lt. r.traced.whole n (record { from = omega arith; below = omega (arith, lt) })));
        bundled = r.bundled;
      })
  rising_record (has_failed event fault) found fails e right =
      let same : failed_record event fault s.trace ≡ found = some_is Record (failed_record event fault s.trace) found e in
      let r : IsRightFailed Gives Fails session event fault s.trace = subst (λ x. IsRightRecord Gives Fails session keys x) (sym same) right in
      subst (λ x. IsRisingRecord Gives Fails session keys x) same (record {
        asked = r.asked;
        before = answered_before event fails (session_questions session) r.answered;
        so_far = rising.rising ∙ ap (λ n. numbers_below n) (sym fails);
      })

-- the record of a legal history whose events happened in the order of their numbers is right in that order
pub history_rising : (Gives : Ask → List ℕ → Type 0) (Fails : Ask → BenchFault → Type 0) (Starves : Ask → Type 0) (session : Session) (keys : List (List ℕ × List ℕ)) (history : List Entry) (s : Standing) (found : Record) → IsLegal Gives Fails Starves session keys history s → IsRising s → record_of session s s.state ≡ Some found → IsRisingRecord Gives Fails session keys found
history_rising Gives Fails Starves session keys history s found legal rising e =
    rising_record Gives Fails Starves session keys history s legal rising s.state found rising.fails e (history_right Gives Fails Starves session keys history s found legal e)

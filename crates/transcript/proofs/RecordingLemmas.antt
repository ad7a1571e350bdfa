-- Recordings of sessions.
use Rattle.std.proofs.Common.{◌≡◌, ℕ, suc, ◌+◌, List, [], ◌∷◌, ◌++◌, refl, sym, ◌∙◌, ap, subst}
use Rattle.std.specs.Prelude.{Bool, true, false, Some, Result, slice_get}
use Rattle.std.specs.List.{AllByRecursion}
use Rattle.std.proofs.lemmas.Option.{none-some, same_Some}
use Rattle.evidence_types.specs.Bytes.{bundle}
use Rattle.bench_trait.specs.declared.ask.Ask.{Ask}
use Rattle.bench_trait.specs.declared.bench.BenchFault.{BenchFault}
use Rattle.bench_trait.specs.declared.bench.MeasureError.{MeasureError}
use Rattle.session_model.specs.Session.{Session, session_questions}
use Rattle.session_model.specs.Record.{Record, done, failed as failed_record}
use Rattle.session_runs.specs.Standing.{Entry, opened, played, answered, failed, starved, State as SessionState, is_open, is_done, has_failed, has_starved, Standing}
use Rattle.session_runs.specs.History.{IsLegal, answers_to, record_of}
use Rattle.session_runs.specs.Schedule.{Walked}
use Rattle.session_runs.specs.Played.{AreWalked, ArePlayed, AreLegal}
use Rattle.session_book.specs.declared.entry.State.{State as Word}
use Rattle.session_book.specs.declared.entry.State.TheVariants.{Open, Done, Failed, Starved}
use Rattle.session_core.specs.Reading.{word_of}
use Rattle.session_walk.specs.Records.{record_in, AreRecordsOf}
use Rattle.transcript.specs.declared.recording.RecordedSession.{RecordedSession}
use Rattle.transcript.specs.Bytes.{IsTranscriptOf}
use Rattle.transcript.specs.Recording.{is_failure, IsRecordingOf, AreRecordingsOf, IsOfFirstPass, HasFirstPassAlone, is_failed, IsFinishedRecording, AreFinishedRecordings}

-- one more at the end
pub recordings_more : (all : List Walked) (recordings : List RecordedSession) (walked : Walked) (one : RecordedSession) → AreRecordingsOf all recordings → IsRecordingOf walked one → AreRecordingsOf (all ++ walked ∷ []) (recordings ++ one ∷ [])
recordings_more [] [] walked one are is = (is, tt)
recordings_more [] (first ∷ recordings) walked one are is = absurd are
recordings_more (first ∷ all) [] walked one are is = absurd are
recordings_more (first ∷ all) (second ∷ recordings) walked one are is = (are.0, recordings_more all recordings walked one are.1 is)

-- where each of these sessions has a record, they have a list of records
pub all_recorded : (all : List Walked) → ((i : ℕ) (walked : Walked) → slice_get all i ≡ Some walked → (found : Record) × (record_in walked ≡ Some found)) → (records : List Record) × AreRecordsOf all records
all_recorded [] each = ([], tt)
all_recorded (walked ∷ all) each =
    let found = each 0 walked refl in
    let more = all_recorded all (λ i other there. each (suc i) other there) in
    (found.0 ∷ more.0, (found.1, more.1))

-- sessions that are played have entries of the pass 0 alone
first_pass : (results : ℕ → Result (List ℕ) MeasureError) (entries : List Entry) → AreWalked results entries → AllByRecursion IsOfFirstPass entries
first_pass results [] w = tt
first_pass results (opened ∷ entries) w = (tt, first_pass results entries w.1)
first_pass results (played pass move ∷ entries) w = (w.0, first_pass results entries w.1)
first_pass results (answered pass event answer ∷ entries) w = (w.0.0, first_pass results entries w.1)
first_pass results (failed pass event fault ∷ entries) w = (w.0.0, first_pass results entries w.1)
first_pass results (starved pass event ∷ entries) w = (w.0.0, first_pass results entries w.1)

pub first_passes : (keys : List (List ℕ × List ℕ)) (results : ℕ → ℕ → Result (List ℕ) MeasureError) (number : ℕ) (sessions : List Session) (all : List Walked) → ArePlayed keys results number sessions all → AllByRecursion HasFirstPassAlone all
first_passes keys results number [] [] p = tt
first_passes keys results number [] (walked ∷ all) p = absurd p
first_passes keys results number (session ∷ sessions) [] p = absurd p
first_passes keys results number (session ∷ sessions) (walked ∷ all) p =
    (first_pass (results number) walked.history p.0.entries, first_passes keys results (number + 1) sessions all p.1)

-- the word of a state says whether it is a failure
abbrev pub fails_by : Word → Bool
fails_by Open = false
fails_by Done = false
fails_by Failed = true
fails_by Starved = false

of_state : (state : SessionState) → fails_by (word_of state) ≡ is_failure state
of_state is_open = refl
of_state (is_done value) = refl
of_state (has_failed event fault) = refl
of_state (has_starved event) = refl

pub failure_word : (state : SessionState) (found : Word) → found ≡ word_of state → fails_by found ≡ is_failure state
failure_word state found e = ap fails_by e ∙ of_state state

-- a recording of a session that is played is a finished one
fails_as : (session : Session) (standing : Standing) (state : SessionState) (found : Record) → record_of session standing state ≡ Some found → is_failure state ≡ is_failed found
fails_as session standing is_open found e = absurd (none-some found e)
fails_as session standing (is_done value) found e =
    ap is_failed (same_Some (done standing.trace (answers_to (session_questions session) standing.answers) (bundle value)) found e)
fails_as session standing (has_failed event fault) found e = ap is_failed (same_Some (failed_record event fault standing.trace) found e)
fails_as session standing (has_starved event) found e = absurd (none-some found e)

module _ (Gives : Ask → List ℕ → Type 0) (Fails : Ask → BenchFault → Type 0) (Starves : Ask → Type 0) (keys : List (List ℕ × List ℕ)) (results : ℕ → ℕ → Result (List ℕ) MeasureError) where
  finished : (session : Session) (walked : Walked) (found : Record) (one : RecordedSession) → walked.session ≡ session → IsLegal Gives Fails Starves session keys walked.history walked.standing → record_in walked ≡ Some found → IsRecordingOf walked one → IsFinishedRecording Gives Fails Starves keys session found one
  finished session walked found one same legal r is = record {
    text = record {
      entries = is.text.entries;
      standing = walked.standing;
      text = subst (λ h. IsTranscriptOf one.bytes h) is.text.opens is.text;
      legal = subst (λ h. IsLegal Gives Fails Starves session keys h walked.standing) is.text.opens legal;
      record_is = ap (λ s. record_of s walked.standing walked.standing.state) (sym same) ∙ r;
    };
    fails = is.fails ∙ fails_as walked.session walked.standing walked.standing.state found r;
  }

  pub all_finished : (number : ℕ) (sessions : List Session) (all : List Walked) (records : List Record) (recordings : List RecordedSession) → ArePlayed keys results number sessions all → AreLegal Gives Fails Starves keys sessions all → AreRecordsOf all records → AreRecordingsOf all recordings → AreFinishedRecordings Gives Fails Starves keys sessions records recordings
  all_finished number [] [] [] [] p l r w = tt
  all_finished number [] [] [] (one ∷ recordings) p l r w = absurd w
  all_finished number [] [] (found ∷ records) recordings p l r w = absurd r
  all_finished number [] (walked ∷ all) records recordings p l r w = absurd p
  all_finished number (session ∷ sessions) [] records recordings p l r w = absurd p
  all_finished number (session ∷ sessions) (walked ∷ all) [] recordings p l r w = absurd r
  all_finished number (session ∷ sessions) (walked ∷ all) (found ∷ records) [] p l r w = absurd w
  all_finished number (session ∷ sessions) (walked ∷ all) (found ∷ records) (one ∷ recordings) p l r w = (
    finished session walked found one p.0.same l.0 r.0 w.0,
    all_finished (number + 1) sessions all records recordings p.1 l.1 r.1 w.1,
  )

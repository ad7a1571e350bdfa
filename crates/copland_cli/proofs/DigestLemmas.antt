-- Over digests a session is done exactly where each artefact that it asks for is there.
use Rattle.std.proofs.Common.{◌≡◌, ℕ, Bool, true, false, cond, List, [], ◌∷◌, Option, None, Some, refl, subst}
use Rattle.std.specs.Prelude.{◌↔◌, nat_eq, IsSome}
use Rattle.std.specs.Option.{option_map}
use Rattle.bench_trait.specs.Artefacts.{artefact_bytes}
use Rattle.bench_trait.specs.Asking.{question_among}
use Rattle.bench_trait.specs.Digest.{artefact_place, LacksArtefact}
use Rattle.bench_trait.specs.declared.artefacts.Artefact.{Artefact}
use Rattle.bench_trait.specs.declared.ask.Ask.{Ask}
use Rattle.bench_trait.specs.declared.bench.BenchFault.{BenchFault}
use Rattle.place_check.specs.Places.{keys_of}
use Rattle.session_model.specs.Record.{Record, done, failed, AreAnswers}
use Rattle.session_model.specs.RightRecord.{IsRightRecord}
use Rattle.session_model.specs.Session.{Session, session_questions}
use Rattle.plain_eval.specs.Fixed.{HasArtefact, HaveArtefacts, SaysDone}
use Rattle.session_walk.specs.Records.{AreRightRecords}
use Rattle.job_reader.specs.Finding.{JobView}
use Rattle.report_text.specs.Records.{records_text, values_text}
use Rattle.copland_cli.specs.Digests.{AreDoneWhereThere, DigestFails, DigestGives, DigestStarves, IsDoneWhereThere}
use Rattle.copland_cli.specs.Meaning.{IsOfRecordsIn, IsOfWalkIn}
use Rattle.copland_cli.specs.Reported.{AreRecords}
use Rattle.copland_cli.specs.declared.ending.Ending.{Ending}

module _ (artefacts : List Artefact) where
  some_from : (f : List ℕ → List ℕ) (found : Option (List ℕ)) (answer : List ℕ) → option_map f found ≡ Some answer → IsSome found
  some_from f None answer h = absurd cc
  some_from f (Some bytes) answer h = refl

  not_none : (f : List ℕ → List ℕ) (found : Option (List ℕ)) → IsSome found → option_map f found ≡ None → ⊥
  not_none f None h none = absurd cc
  not_none f (Some bytes) h none = absurd cc

  have_artefacts : (asks : List Ask) (answers : List (ℕ × List ℕ)) → AreAnswers (DigestGives artefacts) asks answers → HaveArtefacts artefacts asks
  have_artefacts [] answers h = tt
  have_artefacts (ask ∷ asks) [] h = absurd h
  have_artefacts (ask ∷ asks) (pair ∷ answers) h = (
    some_from _ (artefact_bytes artefacts (artefact_place ask.place ask.kind) ask.asp.name) pair.1 h.1,
    have_artefacts asks answers h.2,
  )

  -- the question that is found is the first one, or stands behind it
  of_found : (P : Ask → Type 0) (test : Bool) (first ask : Ask) (found : Option Ask) → P first → (found ≡ Some ask → P ask) → cond test (Some first) found ≡ Some ask → P ask
  of_found P true first ask found here behind h = let same : first ≡ ask = cc in subst P same here
  of_found P false first ask found here behind h = behind h

  artefact_among : (asks : List Ask) (event : ℕ) (ask : Ask) → HaveArtefacts artefacts asks → question_among asks event ≡ Some ask → HasArtefact artefacts ask
  artefact_among [] event ask a h = absurd cc
  artefact_among (first ∷ rest) event ask a h =
      of_found (HasArtefact artefacts) (nat_eq first.event event) first ask (question_among rest event) a.0 (λ behind. artefact_among rest event ask a.1 behind) h

  lacks_nothing : (ask : Ask) (fault : BenchFault) → HasArtefact artefacts ask → LacksArtefact artefacts ask fault → ⊥
  lacks_nothing ask fault there lacks =
      not_none _ (artefact_bytes artefacts (artefact_place ask.place ask.kind) ask.asp.name) there lacks.lacking

  -- of a right record
  pub done_where : (session : Session) (keys : List (List ℕ × List ℕ)) (found : Record) → IsRightRecord (DigestGives artefacts) (DigestFails artefacts) session keys found → SaysDone found ↔ HaveArtefacts artefacts (session_questions session)
  done_where session keys (done trace answers bytes) right =
      (λ says. have_artefacts (session_questions session) answers right.answered, λ have. tt)
  done_where session keys (failed event fault trace) right =
      (λ says. absurd says, λ have. lacks_nothing right.asked.0 fault (artefact_among (session_questions session) event right.asked.0 have right.asked.1) right.asked.2)

  -- of those of sessions
  pub each_done_where : (keys : List (List ℕ × List ℕ)) (sessions : List Session) (records : List Record) → AreRightRecords (DigestGives artefacts) (DigestFails artefacts) keys sessions records → AreDoneWhereThere artefacts sessions records
  each_done_where keys [] [] h = tt
  each_done_where keys [] (found ∷ records) h = absurd h
  each_done_where keys (session ∷ sessions) [] h = absurd h
  each_done_where keys (session ∷ sessions) (found ∷ records) h =
      (done_where session keys found h.0, each_done_where keys sessions records h.1)

  right_records : (keys : List (List ℕ × List ℕ)) (sessions : List Session) (records : List Record) → AreRecords (DigestGives artefacts) (DigestFails artefacts) keys sessions records → AreRightRecords (DigestGives artefacts) (DigestFails artefacts) keys sessions records
  right_records keys [] [] h = tt
  right_records keys [] (found ∷ records) h = absurd h
  right_records keys (session ∷ sessions) [] h = absurd h
  right_records keys (session ∷ sessions) (found ∷ records) h = (h.0.right, right_records keys sessions records h.1)

pub of_values : (job : JobView) (text : List ℕ) (ending : Ending) → IsOfRecordsIn DigestGives DigestFails job values_text text ending → IsDoneWhereThere job.artefacts job.sessions values_text text ending
of_values job text ending h = record {
  records = h.records;
  each = each_done_where job.artefacts (keys_of job.places) job.sessions h.records (right_records job.artefacts (keys_of job.places) job.sessions h.records h.each);
  reported = h.reported;
  ended = h.ended;
}

pub of_walk : (job : JobView) (number : ℕ) (text : List ℕ) (ending : Ending) → IsOfWalkIn DigestGives DigestFails DigestStarves job number text ending → IsDoneWhereThere job.artefacts job.sessions records_text text ending
of_walk job number text ending h = record {
  records = h.records;
  each = each_done_where job.artefacts (keys_of job.places) job.sessions h.records h.walked.right;
  reported = h.reported;
  ended = h.ended;
}

-- What the program's own bench answers to the questions of sessions (this project's own).
use Rattle.std.specs.Prelude.{◌≡◌, ℕ, zero, suc, List, [], ◌∷◌, Option, None, Some, Result, Ok, Err}
use Rattle.bench_trait.specs.declared.artefacts.Artefact.{Artefact}
use Rattle.bench_trait.specs.declared.ask.Ask.{Ask}
use Rattle.bench_trait.specs.declared.bench.BenchFault.TheVariants.{NoArtefact}
use Rattle.bench_trait.specs.declared.bench.MeasureError.{MeasureError}
use Rattle.bench_trait.specs.declared.bench.MeasureError.TheVariants.{Fault}
use Rattle.bench_trait.specs.Asking.{question_among}
use Rattle.bench_trait.specs.Digest.{digest_answer, LacksArtefact}
use Rattle.session_model.specs.Session.{Session, session_questions}
use Rattle.session_model.specs.Record.{Record}
use Rattle.session_walk.specs.Records.{AreOfWalk}

-- a digest, or the fault that there is no artefact
abbrev pub digest_or_fault : Option (List ℕ) → Result (List ℕ) MeasureError
digest_or_fault None = Err (Fault NoArtefact)
digest_or_fault (Some bytes) = Ok bytes

-- the result of a question; of no question a result that doesn't matter
abbrev pub digest_result : List Artefact → Option Ask → Result (List ℕ) MeasureError
digest_result artefacts None = Ok []
digest_result artefacts (Some ask) = digest_or_fault (digest_answer artefacts ask)

-- the results of the questions of these sessions, by the number of the session and of the event
abbrev pub digest_results : List Artefact → List Session → ℕ → ℕ → Result (List ℕ) MeasureError
digest_results artefacts [] number event = Ok []
digest_results artefacts (session ∷ sessions) zero event = digest_result artefacts (question_among (session_questions session) event)
digest_results artefacts (session ∷ sessions) (suc number) event = digest_results artefacts sessions number event

-- the records are those of a walk that is measured by digests over these artefacts
abbrev pub AreOfDigestWalk : List Artefact → List (List ℕ) → List (List ℕ × List ℕ) → List Session → ℕ → List Record → Type 0
AreOfDigestWalk artefacts places keys sessions number records =
    AreOfWalk (λ ask answer. digest_answer artefacts ask ≡ Some answer) (λ ask fault. LacksArtefact artefacts ask fault) (λ ask. ⊥) places keys sessions number records

-- What gathering the answers to a session's questions gives.
use Rattle.std.specs.Prelude.{◌≡◌, ◌<◌, ℕ, List, Some}
use Rattle.phrase_tree.specs.Numbering.{event_count}
use Rattle.bench_trait.specs.declared.ask.Ask.{Ask}
use Rattle.bench_trait.specs.declared.bench.BenchFault.{BenchFault}
use Rattle.bench_trait.specs.Asking.{question_among}
use Rattle.session_model.specs.Session.{Session, session_questions}
use Rattle.session_model.specs.Record.{AreAnswers, AreAnsweredBefore}
use Rattle.plain_eval.specs.declared.gathering.Gathered.{Gathered}
use Rattle.plain_eval.specs.declared.gathering.Gathered.TheVariants.{All, Failed}

-- the measurement of an event failed: the fault is one of its own question, and each question of an
-- event before it has an answer
pub record IsFailedAt (Gives : Ask → List ℕ → Type 0) (Fails : Ask → BenchFault → Type 0) (asks : List Ask) (event : ℕ) (fault : BenchFault) : Type 0 where
  pub asked : (ask : Ask) × (question_among asks event ≡ Some ask) × Fails ask fault
  pub before : AreAnsweredBefore Gives event asks

-- the answers to just the session's own questions, one each; or the first event that failed, which is
-- one of the session's
abbrev pub IsGathered : (Ask → List ℕ → Type 0) → (Ask → BenchFault → Type 0) → Session → Gathered → Type 0
IsGathered Gives Fails session (All answers) = AreAnswers Gives (session_questions session) answers
IsGathered Gives Fails session (Failed event fault) =
    IsFailedAt Gives Fails (session_questions session) event fault × (event < event_count session.phrase)

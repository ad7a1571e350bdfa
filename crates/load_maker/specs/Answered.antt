-- Which questions of a made job have an answer, and what the references say of it (this project's own).
use Rattle.std.specs.Prelude.{◌≡◌, ℕ, List, [], ◌∷◌, Some}
use Rattle.std.specs.List.{AllByRecursion}
use Rattle.session_model.specs.Session.{Session, session_questions}
use Rattle.bench_trait.specs.declared.ask.Ask.{Ask}
use Rattle.bench_trait.specs.Digest.{digest_answer}
use Rattle.reference_book.specs.References.{answers_for}
use Rattle.job_reader.specs.Finding.{JobView}

-- the program's own bench answers a question, and the references for its measurement have that answer alone
pub record IsAnswered (job : JobView) (ask : Ask) : Type 0 where
  pub answer : List ℕ
  pub measured : digest_answer job.artefacts ask ≡ Some answer
  pub referred : answers_for job.references ask.place ask.kind ask.asp ≡ answer ∷ []

-- so it is with each question of a session, and of each session
abbrev pub HasAnswers : JobView → Session → Type 0
HasAnswers job session = AllByRecursion (IsAnswered job) (session_questions session)

abbrev pub HaveAnswers : JobView → Type 0
HaveAnswers job = AllByRecursion (HasAnswers job) job.sessions

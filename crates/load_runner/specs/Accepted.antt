-- When the bundle of a session that is done is accepted (this project's own).
use Rattle.std.specs.Prelude.{◌≡◌, ℕ, List, Some, IsTrue}
use Rattle.std.specs.List.{AllByRecursion}
use Rattle.bench_trait.specs.declared.ask.Ask.{Ask}
use Rattle.bench_trait.specs.Digest.{digest_answer}
use Rattle.session_model.specs.Session.{Session, session_questions}
use Rattle.reference_book.specs.declared.reference.Reference.{Reference}
use Rattle.reference_book.specs.Leaves.{Leaf}
use Rattle.appraiser.specs.Verdicts.{is_expected}
use Rattle.job_reader.specs.Finding.{JobView}

-- what a question measures, as a leaf of a shape
abbrev pub leaf_of : Ask → Leaf
leaf_of ask = record { event = ask.event; place = ask.place; kind = ask.kind; asp = ask.asp }

-- an answer is one of the references of what a question measures
abbrev pub IsReferred : List Reference → Ask → List ℕ → Type 0
IsReferred references ask answer = IsTrue (is_expected references (leaf_of ask) answer)

-- each digest that the program's own bench gives to a question of the session is one of the references
abbrev pub AreDigestsReferred : JobView → Session → Type 0
AreDigestsReferred job session =
    AllByRecursion
    (λ ask. (answer : List ℕ) → digest_answer job.artefacts ask ≡ Some answer → IsReferred job.references ask answer)
    (session_questions session)

-- The legal histories of a session, and its record (this project's own).
use Rattle.std.specs.Prelude.{◌≡◌, ℕ, List, [], ◌∷◌, Option, None, Some}
use Rattle.evidence_types.specs.Answers.{answer_at}
use Rattle.evidence_types.specs.Bytes.{bundle}
use Rattle.bench_trait.specs.declared.ask.Ask.{Ask}
use Rattle.bench_trait.specs.declared.bench.BenchFault.{BenchFault}
use Rattle.bench_trait.specs.Asking.{question_among}
use Rattle.session_model.specs.Session.{Session, session_questions}
use Rattle.session_model.specs.Record.{Record, done, failed as failed_record}
use Rattle.session_runs.specs.Standing.{Entry, opened, answered, failed, starved, State, is_open, is_done, has_failed, has_starved, Standing, opening, next}

-- how a session stands after more entries; none where one of them can't come next
abbrev pub further : Session → List (List ℕ × List ℕ) → Option Standing → List Entry → Option Standing
further session keys None entries = None
further session keys (Some standing) [] = Some standing
further session keys (Some standing) (entry ∷ entries) = further session keys (next session keys standing entry) entries

-- how a session stands after a history, which begins with its opening
abbrev pub standing_after : Session → List (List ℕ × List ℕ) → List Entry → Option Standing
standing_after session keys (opened ∷ entries) = further session keys (Some (opening session)) entries
standing_after session keys _ = None

-- an answer, a fault and want of memory are what a bench gives at the question of their event
abbrev pub IsResult : (Ask → List ℕ → Type 0) → (Ask → BenchFault → Type 0) → (Ask → Type 0) → List Ask → Entry → Type 0
IsResult Gives Fails Starves asks (answered pass event bytes) = (ask : Ask) × (question_among asks event ≡ Some ask) × Gives ask bytes
IsResult Gives Fails Starves asks (failed pass event fault) = (ask : Ask) × (question_among asks event ≡ Some ask) × Fails ask fault
IsResult Gives Fails Starves asks (starved pass event) = (ask : Ask) × (question_among asks event ≡ Some ask) × Starves ask
IsResult Gives Fails Starves asks _ = Unit {0}

-- each entry of a list, where it is a result
abbrev pub AreResults : (Ask → List ℕ → Type 0) → (Ask → BenchFault → Type 0) → (Ask → Type 0) → List Ask → List Entry → Type 0
AreResults Gives Fails Starves asks [] = Unit {0}
AreResults Gives Fails Starves asks (entry ∷ entries) =
    IsResult Gives Fails Starves asks entry × AreResults Gives Fails Starves asks entries

-- a legal history of a session, which stands like this after it: each entry is a possible move, or a
-- result for an ask in flight by the pass that asked, and each result is one of the bench for that question
pub record IsLegal (Gives : Ask → List ℕ → Type 0) (Fails : Ask → BenchFault → Type 0) (Starves : Ask → Type 0) (session : Session) (keys : List (List ℕ × List ℕ)) (history : List Entry) (standing : Standing) : Type 0 where
  pub stands : standing_after session keys history ≡ Some standing
  pub results : AreResults Gives Fails Starves (session_questions session) history

-- the answers of a history by the numbers of their events: one for each question
abbrev pub answers_to : List Ask → List (ℕ × List ℕ) → List (ℕ × List ℕ)
answers_to [] answers = []
answers_to (ask ∷ asks) answers = (ask.event, answer_at answers ask.event) ∷ answers_to asks answers

-- the record of a session that is done or failed
abbrev pub record_of : Session → Standing → State → Option Record
record_of session standing is_open = None
record_of session standing (is_done value) = Some (done standing.trace (answers_to (session_questions session) standing.answers) (bundle value))
record_of session standing (has_failed event fault) = Some (failed_record event fault standing.trace)
record_of session standing (has_starved event) = None

-- Sessions that are done with answers among their references are accepted.
use Rattle.std.proofs.Common.{◌≡◌, ◌∙◌, ℕ, zero, suc, Bool, true, false, List, [], ◌∷◌, length, length-append, Option, None, Some, ap, arith, refl, sym, subst, IsTrue}
use Rattle.std.specs.Prelude.{nat_eq, if◌then◌else◌}
use Rattle.std.specs.List.{AllByRecursion, list_any}
use Rattle.bench_trait.specs.declared.ask.Ask.{Ask}
use Rattle.bench_trait.specs.Asking.{question_among}
use Rattle.bench_trait.specs.Digest.{LacksArtefact, digest_answer}
use Rattle.evidence_types.specs.Answers.{answer_at}
use Rattle.evidence_types.specs.Bytes.{bundle}
use Rattle.evidence_types.specs.Shape.{shape_at}
use Rattle.place_check.specs.Places.{keys_of}
use Rattle.reference_book.specs.declared.reference.Reference.{Reference}
use Rattle.reference_book.specs.Leaves.{Leaf, answers_at, has_several, hashed_leaves, leaves, least_event}
use Rattle.session_model.specs.Record.{Record, done, failed, AreAnswers}
use Rattle.session_model.specs.RightRecord.{IsRightDone}
use Rattle.session_model.specs.Session.{Session, session_questions}
use Rattle.session_model.specs.Value.{Makings, session_value}
use Rattle.phrase_tree.specs.Term.{Term}
use Rattle.session_runs.proofs.QuestionLaws.{AreFound, all_found, hits_of}
use Rattle.session_runs.proofs.Rest.{rest_of}
use Rattle.session_runs.proofs.RestLaws.{asked_counted}
use Rattle.session_runs.proofs.TraceLaws.{phrase_once}
use Rattle.appraiser.specs.Appraised.{basis_of}
use Rattle.appraiser.specs.Laws.{AreExpected, basis_with}
use Rattle.appraiser.specs.Verdicts.{all_good, is_expected, same, verdicts}
use Rattle.appraiser.proofs.AcceptLemmas.{or_left, same_of}
use Rattle.job_reader.specs.Finding.{JobView}
use Rattle.load_maker.specs.Answered.{HasAnswers, HaveAnswers, IsAnswered}
use Rattle.load_maker.specs.Job.{made_job}
use Rattle.load_maker.specs.Sessions.{made_session, made_sessions}
use Rattle.load_maker.specs.Artefacts.{made_artefacts}
use Rattle.load_runner.specs.Accepted.{AreDigestsReferred, IsReferred, leaf_of}
use Rattle.load_runner.specs.Figures.{accepted_count, done_count, is_accepted, is_done, one_if, value_with}
use Rattle.load_runner.specs.Run.{AreRunRecords, IsRunOf, IsRunRecord}
use Rattle.load_runner.specs.declared.figures.Figures.{Figures}
use Rattle.load_runner.proofs.LeafLemmas.{has_references, shape_holds}

some_is : {A : Type 0} (one other : A) → Some one ≡ Some other → one ≡ other
some_is one other same = cc

-- ---- each question is answered by its own answer

found_first : (Gives : Ask → List ℕ → Type 0) (test : Bool) (first ask : Ask) (behind : Option Ask) (answer later : List ℕ) → Gives first answer → (behind ≡ Some ask → Gives ask later) → (if test then Some first else behind) ≡ Some ask → Gives ask (if test then answer else later)
found_first Gives true first ask behind answer later here there is = subst (λ (one : Ask). Gives one answer) (some_is first ask is) here
found_first Gives false first ask behind answer later here there is = there is

found_gives : (Gives : Ask → List ℕ → Type 0) (asks : List Ask) (answers : List (ℕ × List ℕ)) (event : ℕ) (ask : Ask) → AreAnswers Gives asks answers → question_among asks event ≡ Some ask → Gives ask (answer_at answers event)
found_gives Gives [] answers event ask h is = absurd cc
found_gives Gives (first ∷ asks) [] event ask h is = absurd h
found_gives Gives (first ∷ asks) (pair ∷ answers) event ask h is =
    subst (λ (number : ℕ). Gives ask (if nat_eq number event then pair.1 else answer_at answers event)) (sym h.0)
    (found_first Gives (nat_eq first.event event) first ask (question_among asks event) pair.1 (answer_at answers event) h.1 (found_gives Gives asks answers event ask h.2) is)

each_gives : (Gives : Ask → List ℕ → Type 0) (all : List Ask) (answers : List (ℕ × List ℕ)) (asks : List Ask) → AreAnswers Gives all answers → AreFound all asks → AllByRecursion (λ ask. Gives ask (answer_at answers ask.event)) asks
each_gives Gives all answers [] h found = tt
each_gives Gives all answers (ask ∷ asks) h found =
    (found_gives Gives all answers ask.event ask h found.0, each_gives Gives all answers asks h found.1)

session_found : (session : Session) → AreFound (session_questions session) (session_questions session)
session_found session =
    all_found (session_questions session) (λ n. omega (arith, hits_of session.nonce session.phrase session.root 0 n, asked_counted (rest_of session.phrase 0) n, phrase_once session.phrase n))

-- ---- so the value is accepted

-- the law of sessions' values
abbrev pub SessionLaw : Type 0
SessionLaw =
    (phrase : Term) (root : List ℕ) (from : Makings) (references : List Reference) → least_event (has_several references) (hashed_leaves (shape_at phrase root)) ≡ None → AreExpected references from.answers (leaves (shape_at phrase root)) → IsTrue (all_good (verdicts (basis_with from references) (session_value phrase root from) (shape_at phrase root)))

all_expected : (references : List Reference) (answers : List (ℕ × List ℕ)) (xs : List Leaf) → AllByRecursion (λ leaf. IsTrue (is_expected references leaf (answer_at answers leaf.event))) xs → AreExpected references answers xs
all_expected references answers [] h = tt
all_expected references answers (leaf ∷ rest) h = (h.0, all_expected references answers rest h.1)

pub accepted_by : SessionLaw → (job : JobView) (session : Session) (answers : List (ℕ × List ℕ)) → AreAnswers (IsReferred job.references) (session_questions session) answers → least_event (has_several job.references) (hashed_leaves (shape_at session.phrase session.root)) ≡ None → IsTrue (all_good (verdicts (basis_of job.places job.references session.nonce) (value_with job session answers) (shape_at session.phrase session.root)))
accepted_by law job session answers h one =
    let P : Leaf → Type 0 = λ leaf. IsTrue (is_expected job.references leaf (answer_at answers leaf.event)) in
    let each = each_gives (IsReferred job.references) (session_questions session) answers (session_questions session) h (session_found session) in
    law session.phrase session.root (record { nonce = session.nonce; answers = answers; keys = keys_of job.places }) job.references one
    (all_expected job.references answers (leaves (shape_at session.phrase session.root)) (shape_holds P session.nonce session.phrase session.root each))

-- ---- over digests, of any job

all_referred : (job : JobView) (asks : List Ask) (answers : List (ℕ × List ℕ)) → AllByRecursion (λ ask. (answer : List ℕ) → digest_answer job.artefacts ask ≡ Some answer → IsReferred job.references ask answer) asks → AreAnswers (λ ask answer. digest_answer job.artefacts ask ≡ Some answer) asks answers → AreAnswers (IsReferred job.references) asks answers
all_referred job [] [] h k = tt
all_referred job [] (pair ∷ answers) h k = absurd k
all_referred job (ask ∷ asks) [] h k = absurd k
all_referred job (ask ∷ asks) (pair ∷ answers) h k = (k.0, h.0 pair.1 k.1, all_referred job asks answers h.1 k.2)

pub done_accepted : SessionLaw → (job : JobView) (session : Session) (trace : List ℕ) (answers : List (ℕ × List ℕ)) (bytes : List ℕ) → AreDigestsReferred job session → least_event (has_several job.references) (hashed_leaves (shape_at session.phrase session.root)) ≡ None → IsRightDone (λ ask answer. digest_answer job.artefacts ask ≡ Some answer) session (keys_of job.places) trace answers bytes → (bytes ≡ bundle (value_with job session answers)) × IsTrue (all_good (verdicts (basis_of job.places job.references session.nonce) (value_with job session answers) (shape_at session.phrase session.root)))
done_accepted law job session trace answers bytes h one right = (
  right.bundled,
  accepted_by law job session answers (all_referred job (session_questions session) answers h right.answered) one,
)

-- ---- over digests, of a made job

expected_one : (references : List Reference) (leaf : Leaf) (answer bytes : List ℕ) → answers_at references leaf ≡ answer ∷ [] → answer ≡ bytes → is_expected references leaf bytes ≡ true
expected_one references leaf answer bytes h is =
    ap (λ (list : List (List ℕ)). list_any (λ other. same other bytes) list) h ∙ or_left (same answer bytes) false (same_of answer bytes is)

referred : (job : JobView) (asks : List Ask) (answers : List (ℕ × List ℕ)) → AllByRecursion (IsAnswered job) asks → AreAnswers (λ ask answer. digest_answer job.artefacts ask ≡ Some answer) asks answers → AreAnswers (IsReferred job.references) asks answers
referred job [] [] h k = tt
referred job [] (pair ∷ answers) h k = absurd k
referred job (ask ∷ asks) [] h k = absurd k
referred job (ask ∷ asks) (pair ∷ answers) h k = (
  k.0,
  expected_one job.references (leaf_of ask) h.0.answer pair.1 h.0.referred (some_is h.0.answer pair.1 (sym h.0.measured ∙ k.1)),
  referred job asks answers h.1 k.2,
)

first_holds : (P : Ask → Type 0) (test : Bool) (first ask : Ask) (behind : Option Ask) → P first → (behind ≡ Some ask → P ask) → (if test then Some first else behind) ≡ Some ask → P ask
first_holds P true first ask behind here there is = subst P (some_is first ask is) here
first_holds P false first ask behind here there is = there is

among_holds : (P : Ask → Type 0) (asks : List Ask) (event : ℕ) (ask : Ask) → AllByRecursion P asks → question_among asks event ≡ Some ask → P ask
among_holds P [] event ask h is = absurd cc
among_holds P (first ∷ asks) event ask h is =
    first_holds P (nat_eq first.event event) first ask (question_among asks event) h.0 (among_holds P asks event ask h.1) is

none_some : {A : Type 0} (a : A) → None ≡ Some a → ⊥
none_some a h = absurd cc

-- a record of a session over digests, where the references have the answer of each question
done_and_accepted : SessionLaw → (job : JobView) (session : Session) (found : Record) → HasAnswers job session → IsRunRecord (λ ask answer. digest_answer job.artefacts ask ≡ Some answer) (λ ask fault. LacksArtefact job.artefacts ask fault) (keys_of job.places) session found → (is_done found ≡ true) × (is_accepted job session found ≡ true)
done_and_accepted law job session (done trace answers bytes) h k =
    (refl, accepted_by law job session answers (referred job (session_questions session) answers h k.right.answered) (has_references job session h).one)
done_and_accepted law job session (failed event fault trace) h k =
    let asked = k.right.asked in
    let there = among_holds (IsAnswered job) (session_questions session) event asked.0 h asked.1 in
    absurd (none_some there.answer (sym asked.2.lacking ∙ there.measured))

-- so all sessions are
all_counted : SessionLaw → (job : JobView) (sessions : List Session) (records : List Record) → AllByRecursion (HasAnswers job) sessions → AreRunRecords (λ ask answer. digest_answer job.artefacts ask ≡ Some answer) (λ ask fault. LacksArtefact job.artefacts ask fault) (keys_of job.places) sessions records → (done_count records ≡ length sessions) × (accepted_count job sessions records ≡ length sessions)
all_counted law job [] [] h k = (refl, refl)
all_counted law job [] (found ∷ records) h k = absurd k
all_counted law job (session ∷ sessions) [] h k = absurd k
all_counted law job (session ∷ sessions) (found ∷ records) h k =
    let one = done_and_accepted law job session found h.0 k.0 in
    let rest = all_counted law job sessions records h.1 k.1 in
    let is : one_if (is_done found) ≡ 1 = ap one_if one.0 in
    let good : one_if (is_accepted job session found) ≡ 1 = ap one_if one.1 in
    (omega (arith, is, rest.0), omega (arith, good, rest.1))

-- ---- the sessions of a made job

sessions_count : (number n : ℕ) (from : Option ℕ) → length (made_sessions number n from).thing ≡ n
unfolding made_sessions
sessions_count number zero from = refl
sessions_count number (suc n) from =
    let before = made_sessions number n from in
    let last = (made_session number n before.from).thing in
    omega (arith, length-append before.thing (last ∷ []), sessions_count number n from)

pub made_count : (number : ℕ) → length (made_job number).sessions ≡ 256
unfolding made_job
made_count number = sessions_count number 256 (made_artefacts 64 (Some number)).from

pub all_accepted : SessionLaw → (number : ℕ) (figures : Figures) → HaveAnswers (made_job number) → IsRunOf (λ ask answer. digest_answer (made_job number).artefacts ask ≡ Some answer) (λ ask fault. LacksArtefact (made_job number).artefacts ask fault) (made_job number) figures → (figures.sessions ≡ 256) × (figures.done ≡ 256) × (figures.accepted ≡ 256)
all_accepted law number figures h run =
    let job = made_job number in
    let counts = all_counted law job job.sessions run.records h run.each in
    let count = made_count number in (
      ap (λ (f : Figures). f.sessions) run.counted ∙ count,
      ap (λ (f : Figures). f.done) run.counted ∙ counts.0 ∙ count,
      ap (λ (f : Figures). f.accepted) run.counted ∙ counts.1 ∙ count,
    )

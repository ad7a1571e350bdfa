-- Over digests one table of results stands behind every walk, so a walk has one list of records.
use Rattle.std.proofs.Common.{◌≡◌, ◌≤◌, ◌+◌, ℕ, suc, List, [], ◌∷◌, refl, sym, ◌∙◌, ap, subst, arith}
use Rattle.std.specs.Prelude.{Bool, true, false, Option, Some, Result, Ok, Err, nat_eq, if◌then◌else◌}
use Rattle.std.proofs.lemmas.Bool.{eqb-true}
use Rattle.std.proofs.lemmas.Option.{same_Some}
use Rattle.bench_trait.specs.declared.artefacts.Artefact.{Artefact}
use Rattle.bench_trait.specs.declared.ask.Ask.{Ask}
use Rattle.bench_trait.specs.declared.bench.BenchFault.{BenchFault}
use Rattle.bench_trait.specs.declared.bench.MeasureError.{MeasureError}
use Rattle.bench_trait.specs.declared.bench.MeasureError.TheVariants.{Fault}
use Rattle.bench_trait.specs.Asking.{question_among}
use Rattle.bench_trait.specs.Digest.{digest_answer, LacksArtefact}
use Rattle.session_model.specs.Session.{Session, session_questions}
use Rattle.session_model.specs.Record.{Record}
use Rattle.session_runs.specs.Standing.{Entry, opened, played, answered, failed, starved}
use Rattle.session_runs.specs.History.{AreResults}
use Rattle.session_runs.specs.Schedule.{Walked}
use Rattle.session_runs.specs.Played.{AreWalked, ArePlayed, AreLegal}
use Rattle.session_runs.specs.Results.{results_of, AgreeSoFar}
use Rattle.session_walk.specs.Records.{AreRecordsOf}
use Rattle.session_walk.specs.Fixed.{digest_or_fault, digest_result, digest_results}

module _ (artefacts : List Artefact) where
  abbrev Gives : Ask → List ℕ → Type 0
  Gives = λ ask answer. digest_answer artefacts ask ≡ Some answer

  abbrev Fails : Ask → BenchFault → Type 0
  Fails = λ ask fault. LacksArtefact artefacts ask fault

  abbrev Starves : Ask → Type 0
  Starves = λ ask. ⊥

  -- the result of a question that has an answer, or a fault
  of_answer : (asked : Option Ask) (ask : Ask) (bytes : List ℕ) → asked ≡ Some ask → Gives ask bytes → digest_result artefacts asked ≡ Ok bytes
  of_answer asked ask bytes same gives =
      ap (λ a. digest_result artefacts a) same ∙ ap (λ d. digest_or_fault d) gives

  of_fault : (asked : Option Ask) (ask : Ask) (fault : BenchFault) → asked ≡ Some ask → Fails ask fault → digest_result artefacts asked ≡ Err (Fault fault)
  of_fault asked ask fault same fails =
      let faulty : BenchFault → Result (List ℕ) MeasureError = λ f. Err (Fault f) in
      ap (λ a. digest_result artefacts a) same
      ∙ ap (λ d. digest_or_fault d) fails.lacking
      ∙ ap faulty (sym fails.named)

  -- the results that stand in a history are those of the questions
  module _ (results : ℕ → Result (List ℕ) MeasureError) (asks : List Ask) (event : ℕ) where
    abbrev IsFixedAt : ℕ → Type 0
    IsFixedAt n = digest_result artefacts (question_among asks n) ≡ results n

    by_test : (entries : List Entry) (n : ℕ) (test : Bool) → nat_eq n event ≡ test → IsFixedAt n → (1 ≤ results_of event entries → IsFixedAt event) → 1 ≤ (if test then 1 else 0) + results_of event entries → IsFixedAt event
    by_test entries n true is here later some = subst (λ m. IsFixedAt m) (eqb-true n event is) here
    by_test entries n false is here later some = later (omega (arith, some))

    fixed_there : (entries : List Entry) → AreResults Gives Fails Starves asks entries → AreWalked results entries → 1 ≤ results_of event entries → IsFixedAt event
    fixed_there [] legal walked some = absurd (omega (arith, some))
    fixed_there (opened ∷ entries) legal walked some = fixed_there entries legal.1 walked.1 some
    fixed_there (played pass move ∷ entries) legal walked some = fixed_there entries legal.1 walked.1 some
    fixed_there (answered pass n bytes ∷ entries) legal walked some =
        by_test entries n (nat_eq n event) refl
        (of_answer (question_among asks n) legal.0.0 bytes legal.0.1 legal.0.2 ∙ sym walked.0.1)
        (λ more. fixed_there entries legal.1 walked.1 more)
        some
    fixed_there (failed pass n fault ∷ entries) legal walked some =
        by_test entries n (nat_eq n event) refl
        (of_fault (question_among asks n) legal.0.0 fault legal.0.1 legal.0.2 ∙ sym walked.0.1)
        (λ more. fixed_there entries legal.1 walked.1 more)
        some
    fixed_there (starved pass n ∷ entries) legal walked some = absurd legal.0.2

  -- so the table of digests agrees with the one of a walk, wherever a result stands
  module _ (keys : List (List ℕ × List ℕ)) (results others : ℕ → ℕ → Result (List ℕ) MeasureError) where
    pub agree : (number : ℕ) (sessions : List Session) (all : List Walked) → ((k event : ℕ) → others (number + k) event ≡ digest_results artefacts sessions k event) → ArePlayed keys results number sessions all → AreLegal Gives Fails Starves keys sessions all → AgreeSoFar results others number all
    agree number [] [] are p l = tt
    agree number [] (walked ∷ all) are p l = absurd p
    agree number (session ∷ sessions) [] are p l = absurd p
    agree number (session ∷ sessions) (walked ∷ all) are p l = (
      λ event some.
          ap (λ n. others n event) (omega arith)
          ∙ are 0 event
          ∙ fixed_there (results number) (session_questions session) event walked.history l.0.results p.0.entries some,
      agree (number + 1) sessions all (λ k event. ap (λ n. others n event) (omega arith) ∙ are (suc k) event) p.1 l.1,
    )

-- sessions have one list of records
pub one_list : (all : List Walked) (one other : List Record) → AreRecordsOf all one → AreRecordsOf all other → one ≡ other
one_list [] [] [] h k = refl
one_list [] [] (again ∷ other) h k = absurd k
one_list [] (found ∷ one) other h k = absurd h
one_list (walked ∷ all) [] other h k = absurd h
one_list (walked ∷ all) (found ∷ one) [] h k = absurd k
one_list (walked ∷ all) (found ∷ one) (again ∷ other) h k =
    let first : found ≡ again = same_Some found again (sym h.0 ∙ k.0) in
    ap (λ f. f ∷ one) first ∙ ap (λ rest. again ∷ rest) (one_list all one other h.1 k.1)

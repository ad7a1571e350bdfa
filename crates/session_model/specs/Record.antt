-- Which records of a session are right, where its events happened in the order of their numbers.
use Rattle.std.specs.Prelude.{◌≡◌, ◌<◌, ℕ, zero, suc, Bool, true, false, List, [], ◌∷◌, ◌++◌, Some}
use Rattle.phrase_tree.specs.Numbering.{event_count}
use Rattle.evidence_types.specs.Bytes.{bundle}
use Rattle.bench_trait.specs.declared.ask.Ask.{Ask}
use Rattle.bench_trait.specs.declared.bench.BenchFault.{BenchFault}
use Rattle.bench_trait.specs.Asking.{question_among}
use Rattle.session_model.specs.Session.{Session, session_questions}
use Rattle.session_model.specs.Value.{session_value}

-- what is recorded of a session: it is done, with its trace, its answers by event and its bundle; or
-- the measurement of an event failed, with the trace so far
pub data Record : Type 0 where
  done : List ℕ → List (ℕ × List ℕ) → List ℕ → Record
  failed : ℕ → BenchFault → List ℕ → Record

-- the record is of a session that failed
abbrev pub is_failed : Record → Bool
is_failed (done trace answers bytes) = false
is_failed (failed event fault trace) = true

-- the numbers below one, rising
abbrev pub numbers_below : ℕ → List ℕ
numbers_below zero = []
numbers_below (suc n) = numbers_below n ++ n ∷ []

-- these are answers to just these questions, one each, in their order
abbrev pub AreAnswers : (Ask → List ℕ → Type 0) → List Ask → List (ℕ × List ℕ) → Type 0
AreAnswers Gives [] [] = Unit {0}
AreAnswers Gives [] (pair ∷ answers) = ⊥
AreAnswers Gives (ask ∷ asks) [] = ⊥
AreAnswers Gives (ask ∷ asks) (pair ∷ answers) = (pair.0 ≡ ask.event) × Gives ask pair.1 × AreAnswers Gives asks answers

-- each question of an event before this one has an answer
abbrev pub AreAnsweredBefore : (Ask → List ℕ → Type 0) → ℕ → List Ask → Type 0
AreAnsweredBefore Gives event [] = Unit {0}
AreAnsweredBefore Gives event (ask ∷ asks) =
    (ask.event < event → (answer : List ℕ) × Gives ask answer) × AreAnsweredBefore Gives event asks

-- a session is done: each of its questions has an answer of its own, and no other; its trace is all
-- its numbers, rising; its bundle is that of its value with these answers and keys
pub record IsRisingDone (Gives : Ask → List ℕ → Type 0) (session : Session) (keys : List (List ℕ × List ℕ)) (trace : List ℕ) (answers : List (ℕ × List ℕ)) (bytes : List ℕ) : Type 0 where
  pub answered : AreAnswers Gives (session_questions session) answers
  pub whole : trace ≡ numbers_below (event_count session.phrase)
  pub bundled : bytes ≡ bundle (session_value session.phrase session.root (record { nonce = session.nonce; answers = answers; keys = keys }))

-- a session failed at an event: the fault is one of its own question; each question before it has an
-- answer; its trace is the numbers before it
pub record IsRisingFailed (Gives : Ask → List ℕ → Type 0) (Fails : Ask → BenchFault → Type 0) (session : Session) (event : ℕ) (fault : BenchFault) (trace : List ℕ) : Type 0 where
  pub asked : (ask : Ask) × (question_among (session_questions session) event ≡ Some ask) × Fails ask fault
  pub before : AreAnsweredBefore Gives event (session_questions session)
  pub so_far : trace ≡ numbers_below event

-- a record is right, and the session's events happened in the order of their numbers
abbrev pub IsRisingRecord : (Ask → List ℕ → Type 0) → (Ask → BenchFault → Type 0) → Session → List (List ℕ × List ℕ) → Record → Type 0
IsRisingRecord Gives Fails session keys (done trace answers bytes) = IsRisingDone Gives session keys trace answers bytes
IsRisingRecord Gives Fails session keys (failed event fault trace) = IsRisingFailed Gives Fails session event fault trace

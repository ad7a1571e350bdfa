-- Which records of a session are right, in whatever order its events happened.
use Rattle.std.specs.Prelude.{◌≡◌, ℕ, List, [], ◌∷◌, Some, Contains}
use Rattle.evidence_types.specs.Bytes.{bundle}
use Rattle.bench_trait.specs.declared.ask.Ask.{Ask}
use Rattle.bench_trait.specs.declared.bench.BenchFault.{BenchFault}
use Rattle.bench_trait.specs.Asking.{question_among}
use Rattle.event_system.specs.Order.{IsBefore}
use Rattle.event_system.specs.Trace.{IsTraceSoFar, IsTrace}
use Rattle.session_model.specs.Session.{Session, session_questions}
use Rattle.session_model.specs.Value.{session_value}
use Rattle.session_model.specs.Record.{Record, done, failed, AreAnswers}

-- a session is done: each of its questions has an answer of its own, and no other; its trace is one of
-- its phrase; its bundle is that of its value with these answers and keys
pub record IsRightDone (Gives : Ask → List ℕ → Type 0) (session : Session) (keys : List (List ℕ × List ℕ)) (trace : List ℕ) (answers : List (ℕ × List ℕ)) (bytes : List ℕ) : Type 0 where
  pub answered : AreAnswers Gives (session_questions session) answers
  pub traced : IsTrace session.phrase 0 trace
  pub bundled : bytes ≡ bundle (session_value session.phrase session.root (record { nonce = session.nonce; answers = answers; keys = keys }))

-- each question whose event is in the trace has an answer
abbrev pub AreAnsweredIn : (Ask → List ℕ → Type 0) → List ℕ → List Ask → Type 0
AreAnsweredIn Gives trace [] = Unit {0}
AreAnsweredIn Gives trace (ask ∷ asks) =
    (Contains trace ask.event → (answer : List ℕ) × Gives ask answer) × AreAnsweredIn Gives trace asks

-- a session failed at an event: the fault is one of its own question; its trace is a trace so far that has
-- each event before it and lacks the event itself; each question of an event in it has an answer
pub record IsRightFailed (Gives : Ask → List ℕ → Type 0) (Fails : Ask → BenchFault → Type 0) (session : Session) (event : ℕ) (fault : BenchFault) (trace : List ℕ) : Type 0 where
  pub asked : (ask : Ask) × (question_among (session_questions session) event ≡ Some ask) × Fails ask fault
  pub so_far : IsTraceSoFar session.phrase 0 trace
  pub ready : (n : ℕ) → IsBefore session.phrase 0 n event → Contains trace n
  pub lacking : ¬ Contains trace event
  pub answered : AreAnsweredIn Gives trace (session_questions session)

-- a record is right
abbrev pub IsRightRecord : (Ask → List ℕ → Type 0) → (Ask → BenchFault → Type 0) → Session → List (List ℕ × List ℕ) → Record → Type 0
IsRightRecord Gives Fails session keys (done trace answers bytes) = IsRightDone Gives session keys trace answers bytes
IsRightRecord Gives Fails session keys (failed event fault trace) = IsRightFailed Gives Fails session event fault trace

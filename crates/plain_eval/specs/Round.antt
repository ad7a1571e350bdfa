-- How far the questions of a session were asked.
use Rattle.std.specs.Prelude.{◌≡◌, ◌<◌, ◌^◌, ℕ, List, [], ◌∷◌, ◌++◌, Option, None, Some}
use Rattle.phrase_tree.specs.Numbering.{event_count}
use Rattle.bench_trait.specs.declared.ask.Ask.{Ask}
use Rattle.bench_trait.specs.declared.bench.BenchFault.{BenchFault}
use Rattle.session_model.specs.Record.{AreAnswers}
use Rattle.session_model.specs.Session.{Session, session_questions}
use Rattle.plain_eval.specs.Asks.{asks_left, end_of, turns_left}
use Rattle.plain_eval.specs.Gathering.{IsFailedAt}
use Rattle.plain_eval.specs.declared.gathering.Pace.{Pace}
use Rattle.plain_eval.specs.declared.gathering.Pace.TheVariants.{On, Over, Stopped}
use Rattle.plain_eval.specs.declared.gathering.Round.{Round}

-- the questions before those that are left have their answers
pub record IsUnderWay (Gives : Ask → List ℕ → Type 0) (session : Session) (round : Round) : Type 0 where
  pub asked : List Ask
  pub asks_are : session_questions session ≡ asked ++ asks_left round.asks
  pub answered : AreAnswers Gives asked round.answers
  pub few : end_of round.asks < 2 ^ 32

-- the session's measurement of an event failed
abbrev pub FailsAt : (Ask → List ℕ → Type 0) → (Ask → BenchFault → Type 0) → Session → ℕ → BenchFault → Type 0
FailsAt Gives Fails session event fault =
    IsFailedAt Gives Fails (session_questions session) event fault × (event < event_count session.phrase)

-- the answer of a question was appended, or the bench failed at it
abbrev pub IsAsked : (Ask → List ℕ → Type 0) → (Ask → BenchFault → Type 0) → Ask → List (ℕ × List ℕ) → List (ℕ × List ℕ) → Option BenchFault → Type 0
IsAsked Gives Fails ask before after None =
    (answer : List ℕ) × Gives ask answer × (after ≡ before ++ (ask.event, answer) ∷ [])
IsAsked Gives Fails ask before after (Some fault) = Fails ask fault

-- where a step leads
abbrev pub Paces : (Ask → List ℕ → Type 0) → (Ask → BenchFault → Type 0) → Session → Round → Round → Pace → Type 0
Paces Gives Fails session old new On =
    IsUnderWay Gives session new × (turns_left new.asks < turns_left old.asks)
Paces Gives Fails session old new Over = AreAnswers Gives (session_questions session) new.answers
Paces Gives Fails session old new (Stopped event fault) = FailsAt Gives Fails session event fault

-- where all steps lead
abbrev pub Ends : (Ask → List ℕ → Type 0) → (Ask → BenchFault → Type 0) → Session → Round → Option (ℕ × BenchFault) → Type 0
Ends Gives Fails session new None = AreAnswers Gives (session_questions session) new.answers
Ends Gives Fails session new (Some at) = FailsAt Gives Fails session at.0 at.1

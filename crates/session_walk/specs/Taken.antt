-- How a session is played on by one of its candidates (this project's own).
use Rattle.std.specs.Prelude.{◌≡◌, ℕ, List, [], ◌∷◌, ◌++◌, Some, Result}
use Rattle.bench_trait.specs.declared.ask.Ask.{Ask}
use Rattle.bench_trait.specs.declared.bench.BenchFault.{BenchFault}
use Rattle.bench_trait.specs.declared.bench.MeasureError.{MeasureError}
use Rattle.session_model.specs.Session.{session_questions}
use Rattle.session_runs.specs.Standing.{Entry, next}
use Rattle.session_runs.specs.History.{IsResult}
use Rattle.session_runs.specs.Schedule.{Walked, candidates, nth_candidate}

-- a session goes on by an entry: it stands as it does after it, and the entry is the last of its history
pub record GoesOn (keys : List (List ℕ × List ℕ)) (entry : Entry) (before after : Walked) : Type 0 where
  pub session : after.session ≡ before.session
  pub history : after.history ≡ before.history ++ entry ∷ []
  pub stands : next before.session keys before.standing entry ≡ Some after.standing

-- a session goes on by its candidate of an index, which is a move, or a result of the bench for an ask
pub record TakesCandidate (Gives : Ask → List ℕ → Type 0) (Fails : Ask → BenchFault → Type 0) (Starves : Ask → Type 0) (places : List (List ℕ)) (keys : List (List ℕ × List ℕ)) (index : ℕ) (before after : Walked) : Type 0 where
  pub measured : Result (List ℕ) MeasureError
  pub entry : Entry
  pub chosen : nth_candidate (candidates places (λ event. measured) before.standing) index ≡ Some entry
  pub of_bench : IsResult Gives Fails Starves (session_questions before.session) entry
  pub goes_on : GoesOn keys entry before after

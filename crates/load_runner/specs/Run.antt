-- What a run of the sessions of a job finds (this project's own).
use Rattle.std.specs.Prelude.{◌≡◌, ℕ, List, [], ◌∷◌}
use Rattle.bench_trait.specs.declared.ask.Ask.{Ask}
use Rattle.bench_trait.specs.declared.bench.BenchFault.{BenchFault}
use Rattle.place_check.specs.Places.{keys_of}
use Rattle.session_model.specs.Session.{Session}
use Rattle.session_model.specs.Record.{Record, IsRisingRecord}
use Rattle.session_model.specs.RightRecord.{IsRightRecord}
use Rattle.job_reader.specs.Finding.{JobView}
use Rattle.load_runner.specs.Figures.{figures_of}
use Rattle.load_runner.specs.declared.figures.Figures.{Figures}

-- a record of a session is right over every order of events, and its events happened in the order of their numbers,
-- as in the schedule of 0
pub record IsRunRecord (Gives : Ask → List ℕ → Type 0) (Fails : Ask → BenchFault → Type 0) (keys : List (List ℕ × List ℕ)) (session : Session) (found : Record) : Type 0 where
  pub right : IsRightRecord Gives Fails session keys found
  pub rising : IsRisingRecord Gives Fails session keys found

-- one such record of each session, in their order
abbrev pub AreRunRecords : (Ask → List ℕ → Type 0) → (Ask → BenchFault → Type 0) → List (List ℕ × List ℕ) → List Session → List Record → Type 0
AreRunRecords Gives Fails keys [] [] = Unit {0}
AreRunRecords Gives Fails keys [] (found ∷ records) = ⊥
AreRunRecords Gives Fails keys (session ∷ sessions) [] = ⊥
AreRunRecords Gives Fails keys (session ∷ sessions) (found ∷ records) =
    IsRunRecord Gives Fails keys session found × AreRunRecords Gives Fails keys sessions records

-- this is what is counted of such records of the sessions of a job
pub record IsRunOf (Gives : Ask → List ℕ → Type 0) (Fails : Ask → BenchFault → Type 0) (job : JobView) (figures : Figures) : Type 0 where
  pub records : List Record
  pub each : AreRunRecords Gives Fails (keys_of job.places) job.sessions records
  pub counted : figures ≡ figures_of job records

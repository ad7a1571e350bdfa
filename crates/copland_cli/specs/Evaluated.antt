-- What the report of `eval` says of the sessions of a job.
use Rattle.std.specs.Prelude.{◌≡◌, ◌++◌, ℕ, List, Bool}
use Rattle.bench_trait.specs.declared.ask.Ask.{Ask}
use Rattle.bench_trait.specs.declared.bench.BenchFault.{BenchFault}
use Rattle.session_model.specs.Session.{Session}
use Rattle.session_model.specs.Record.{Record, is_failed}
use Rattle.report_text.specs.Records.{value_text, values_text}
use Rattle.copland_cli.specs.Reported.{AreRecords, IsRecordOf, some_failed}

-- there is one record of each session, in their order: these are their lines, and whether one failed
pub record SaysOfValues (Gives : Ask → List ℕ → Type 0) (Fails : Ask → BenchFault → Type 0) (keys : List (List ℕ × List ℕ)) (sessions : List Session) (text : List ℕ) (failed : Bool) : Type 0 where
  pub records : List Record
  pub each : AreRecords Gives Fails keys sessions records
  pub reported : text ≡ values_text records
  pub some : failed ≡ some_failed records

-- to a text the lines of a record of one session are added
pub record IsValueIn (Gives : Ask → List ℕ → Type 0) (Fails : Ask → BenchFault → Type 0) (keys : List (List ℕ × List ℕ)) (session : Session) (number : ℕ) (before after : List ℕ) (failed : Bool) : Type 0 where
  pub found : Record
  pub recorded : IsRecordOf Gives Fails keys session found
  pub added : after ≡ before ++ value_text number found
  pub is : failed ≡ is_failed found

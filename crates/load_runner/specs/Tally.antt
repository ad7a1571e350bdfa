-- What is kept while sessions are run.
use Rattle.std.specs.Prelude.{◌≡◌, ◌≤◌, ◌+◌, ◌++◌, ℕ, List}
use Rattle.sha2.specs.Hashers.{Holds256}
use Rattle.phrase_tree.specs.Numbering.{event_count}
use Rattle.bench_trait.specs.declared.ask.Ask.{Ask}
use Rattle.bench_trait.specs.declared.bench.BenchFault.{BenchFault}
use Rattle.place_check.specs.Places.{keys_of}
use Rattle.session_model.specs.Session.{Session}
use Rattle.session_model.specs.Record.{Record}
use Rattle.job_reader.specs.Finding.{JobView}
use Rattle.load_runner.specs.Figures.{accepted_count, bundle_in, bundles_in, done_count, event_sum, is_accepted, is_done, one_if}
use Rattle.load_runner.specs.Run.{AreRunRecords, IsRunRecord}
use Rattle.load_runner.specs.declared.tally.Tally.{Tally}

-- it has what is counted of records of these sessions, and was fed their bundles
pub record IsTallied (Gives : Ask → List ℕ → Type 0) (Fails : Ask → BenchFault → Type 0) (job : JobView) (sessions : List Session) (tally : Tally) : Type 0 where
  pub records : List Record
  pub each : AreRunRecords Gives Fails (keys_of job.places) sessions records
  pub events : tally.events ≡ event_sum sessions
  pub done : tally.done ≡ done_count records
  pub accepted : tally.accepted ≡ accepted_count job sessions records
  pub fed : Holds256 tally.hasher (bundles_in records)

-- a session is counted, by a record of it
pub record Counts (Gives : Ask → List ℕ → Type 0) (Fails : Ask → BenchFault → Type 0) (job : JobView) (session : Session) (before after : Tally) : Type 0 where
  pub found : Record
  pub is : IsRunRecord Gives Fails (keys_of job.places) session found
  pub events : after.events ≡ before.events + event_count session.phrase
  pub few : event_count session.phrase ≤ 2048
  pub done : after.done ≡ before.done + one_if (is_done found)
  pub accepted : after.accepted ≡ before.accepted + one_if (is_accepted job session found)
  pub fed : (bytes : List ℕ) → Holds256 before.hasher bytes → Holds256 after.hasher (bytes ++ bundle_in found)

-- no more than 255 sessions were counted
pub record HasRoom (tally : Tally) : Type 0 where
  pub events : tally.events ≤ 522240
  pub done : tally.done ≤ 255
  pub accepted : tally.accepted ≤ 255

-- The sessions of a job behind a desk.
use Rattle.std.specs.Prelude.{◌≡◌, ℕ, List, Some, slice_get}
use Rattle.std.specs.List.{AllZip}
use Rattle.bench_trait.specs.declared.ask.Ask.{Ask}
use Rattle.bench_trait.specs.declared.bench.BenchFault.{BenchFault}
use Rattle.job_reader.specs.declared.accepted.Job.{Job}
use Rattle.session_model.specs.declared.record.Record.{Record}
use Rattle.session_core.specs.declared.opened.Opened.{Opened}
use Rattle.session_core.specs.Session.{Seen, IsJustOpened}
use Rattle.session_desk.specs.Views.{Known, openings_of}
use Rattle.manager_runner.specs.Ended.{AreRecords, HasRecord}

-- each session of a job was just opened, in their order, over the job's places and artefacts and this bench
abbrev pub AreOpenedOf : {B : Type 0} → Job → B → List (Seen (Opened B)) → Type 0
AreOpenedOf job bench sessions =
    AllZip (λ one seen. IsJustOpened one job.places job.artefacts bench seen) job.sessions.items sessions

-- these are the records of what a pass has seen of the sessions of a desk in the end; and what these were opened
-- with is what one of the passes knew at first
pub record AreClosed {B : Type 0} (Gives : Opened B → Ask → List ℕ → Type 0) (Fails : Opened B → Ask → BenchFault → Type 0) (Starves : Opened B → Ask → Type 0) (many : ℕ) (passes : List (Known (Opened B))) (records : List Record) : Type 0 where
  pub number : ℕ
  pub first : Known (Opened B)
  pub last : Known (Opened B)
  pub one : slice_get passes number ≡ Some first
  pub openings : openings_of last.views ≡ openings_of first.views
  pub found : AreRecords many (HasRecord Gives Fails Starves) records last.views

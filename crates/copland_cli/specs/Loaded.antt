-- What `load` reports, and how it ends. Both are this project's own.
use Rattle.std.specs.Prelude.{◌≡◌, ℕ, Bool, true, false, List}
use Rattle.bench_trait.specs.declared.ask.Ask.{Ask}
use Rattle.bench_trait.specs.declared.bench.BenchFault.{BenchFault}
use Rattle.job_reader.specs.Finding.{JobView}
use Rattle.load_runner.specs.Figures.{has_accepted_all}
use Rattle.load_runner.specs.Run.{IsRunOf}
use Rattle.load_runner.specs.Text.{load_text}
use Rattle.load_runner.specs.declared.figures.Figures.{Figures}
use Rattle.copland_cli.specs.declared.ending.Ending.{Ending}
use Rattle.copland_cli.specs.declared.ending.Ending.TheVariants.{Good, SomeFailed}

-- how a report ends, by whether each session is done and accepted
abbrev pub ending_of_load : Bool → Ending
ending_of_load true = Good
ending_of_load false = SomeFailed

-- the report has what is counted of right records of the sessions of a job, one of each, and of the verdicts on their
-- bundles
pub record IsOfLoad (Gives : Ask → List ℕ → Type 0) (Fails : Ask → BenchFault → Type 0) (job : JobView) (number : ℕ) (text : List ℕ) (ending : Ending) : Type 0 where
  pub figures : Figures
  pub run : IsRunOf Gives Fails job figures
  pub reported : text ≡ load_text number figures
  pub ended : ending ≡ ending_of_load (has_accepted_all figures)

-- the report says that each of 256 sessions is done and accepted, and is good
pub record HasAcceptedAll (number : ℕ) (text : List ℕ) (ending : Ending) : Type 0 where
  pub figures : Figures
  pub reported : text ≡ load_text number figures
  pub sessions : figures.sessions ≡ 256
  pub done : figures.done ≡ 256
  pub accepted : figures.accepted ≡ 256
  pub ended : ending ≡ Good

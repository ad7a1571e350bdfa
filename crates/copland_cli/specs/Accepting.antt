-- When `appraise` accepts the bundle of a job.
use Rattle.std.specs.Prelude.{◌≡◌, ◌≢◌, ◌≤◌, ◌↔◌, ℕ, List, true, length, Some}
use Rattle.job_reader.specs.Finding.{IsAccepted, JobView}
use Rattle.copland_cli.specs.Appraised.{HasGoodBundle}
use Rattle.copland_cli.specs.Command.{Appraise}
use Rattle.copland_cli.specs.Port.{Port, MetFault, input_limit}
use Rattle.copland_cli.specs.Words.{Spells}
use Rattle.copland_cli.specs.declared.status.Status.{Status}
use Rattle.copland_cli.specs.declared.status.Status.TheVariants.{Good, NoMemory}

-- the words are those of `appraise`; the source told the bytes of an accepted job with a bundle, no more than an
-- input may have; neither port met a fault, and memory sufficed
pub record IsAppraising (words : List (List ℕ)) (source sink : Port) (job : JobView) (status : Status) : Type 0 where
  pub spelled : Spells words Appraise
  pub bytes : List ℕ
  pub told : source.bytes_before ≡ Some bytes
  pub short : length bytes ≤ input_limit
  pub accepted : IsAccepted bytes true job
  pub read : ¬ MetFault source
  pub written : ¬ MetFault sink
  pub memory : status ≢ NoMemory

-- the run is good exactly where the bundle is, whatever the job
abbrev pub AcceptsExactly : List (List ℕ) → Port → Port → Status → Type 0
AcceptsExactly words source sink status =
    (job : JobView) → IsAppraising words source sink job status → (status ≡ Good) ↔ HasGoodBundle job

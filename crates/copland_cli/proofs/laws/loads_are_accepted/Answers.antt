-- The sessions of each made job are.
use Rattle.copland_cli.proofs.LoadLemmas.{accepted_all}
use Rattle.copland_cli.proofs.laws.loads_are_accepted.Goals as goal

pub returns : goal.returns
returns c = λ number text ending h. accepted_all c.made_jobs_are_accepted.ensures number text ending h

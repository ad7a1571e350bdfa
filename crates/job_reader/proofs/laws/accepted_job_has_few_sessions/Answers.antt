use Rattle.job_reader.proofs.SmallLemmas.{accepted-few}
use Rattle.job_reader.proofs.laws.accepted_job_has_few_sessions.Goals as goal

pub returns : goal.returns
returns c = accepted-few

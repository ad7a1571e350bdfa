use Rattle.session_runs.proofs.RoundLaws.{kinds_same, named_same}
use Rattle.session_runs.proofs.schedules.fault_law.Goals as goal

pub returns : goal.returns
returns c = record { same = kinds_same; named = named_same }

use Rattle.session_runs.proofs.RecordLaws.{history_right}
use Rattle.session_runs.proofs.laws.record_law.Goals as goal

pub returns : goal.returns
returns g c = λ session keys history standing found legal is. history_right _ _ _ session keys history standing found legal is

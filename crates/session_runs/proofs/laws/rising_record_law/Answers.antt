use Rattle.session_runs.proofs.RisingRecords.{history_rising}
use Rattle.session_runs.proofs.laws.rising_record_law.Goals as goal

pub returns : goal.returns
returns g c = λ session keys history standing found legal rising is. history_rising _ _ _ session keys history standing found legal rising is

use Rattle.session_runs.proofs.LegalSchedules.{schedule_legal}
use Rattle.session_runs.proofs.laws.legal_schedule_law.Goals as goal

pub returns : goal.returns
returns g c = λ places keys results sessions number only measured. schedule_legal _ _ _ places keys results sessions number only measured

use Rattle.session_runs.proofs.PlaceLaws.{history_lists_one}
use Rattle.session_runs.proofs.ProgressLaws.{history_goes_on}
use Rattle.session_runs.proofs.laws.progress_law.Goals as goal

pub returns : goal.returns
returns c = record { possible = history_goes_on; listed = history_lists_one }

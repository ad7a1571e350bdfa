use Rattle.session_runs.proofs.LightLaws.{history_light}
use Rattle.session_runs.proofs.light.light_law.Goals as goal

pub returns : goal.returns
returns c = history_light

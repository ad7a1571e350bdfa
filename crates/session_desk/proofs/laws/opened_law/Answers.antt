use Rattle.session_desk.proofs.FitFacts.{fit_new}
use Rattle.session_desk.proofs.laws.opened_law.Goals as goal

pub returns : goal.returns
returns g c = fit_new c.args.bench.now c.args.artefacts.now

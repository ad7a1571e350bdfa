use Rattle.manager_runner.proofs.ReadyFacts.{all_fit}
use Rattle.manager_runner.proofs.laws.workers_law.Goals as goal

pub returns : goal.returns
returns g c = all_fit c.args.bench.now c.args.artefacts.now c.opened_law.ensures

use Rattle.session_tests.proofs.FitFacts.{still_fit}
use Rattle.session_tests.proofs.desks.tries.Goals as goal

pub returns-clause-fit : goal.returns-clause-fit
returns-clause-fit g c = still_fit c.args.bench.now c.args.artefacts.now c.args.desk.now c.args.pass.now c.turn.new.pass c.requires.fit c.turn.ensures.made c.turn.ensures.openings

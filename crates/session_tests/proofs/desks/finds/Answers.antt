use Rattle.session_tests.proofs.FitFacts.{still_fit}
use Rattle.session_tests.proofs.desks.finds.Goals as goal

pub returns-clause-fit : goal.returns-clause-fit
returns-clause-fit g c = still_fit c.args.bench.now c.args.artefacts.now c.args.desk.now c.args.pass.now c.outcome.new.pass c.requires.fit c.outcome.ensures.made c.outcome.ensures.openings

pub returns-clause-held : goal.returns-clause-held
returns-clause-held g c = λ hand held. c.stays_law.ensures.outcome c.args.session c.outcome.result hand c.args.pass.now c.outcome.new.pass c.outcome.ensures.told held

pub returns-clause-question : goal.returns-clause-question
returns-clause-question g c = λ hand ask asked. c.stays_law.ensures.question hand ask c.args.pass.now c.outcome.new.pass c.outcome.ensures.openings asked

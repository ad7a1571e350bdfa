use Rattle.manager_runner.proofs.StayFacts.{fit_still}
use Rattle.manager_runner.proofs.rounds.measure.Goals as goal

pub keep-requires-clause-made : goal.keep-requires-clause-made
keep-requires-clause-made g c = c.requires.fit.made

pub keep-requires-clause-measured : goal.keep-requires-clause-measured
keep-requires-clause-measured g c =
    c.measured_law.ensures c.args.pass.now c.args.hand c.args.ask c.measure-measured.result c.requires.fit.over c.requires.question c.measure-measured.ensures

pub returns-clause-fit : goal.returns-clause-fit
returns-clause-fit g c = fit_still c.args.bench.now c.args.artefacts.now c.args.desk.now c.args.pass.now c.keep.new.pass c.requires.fit c.keep.ensures.made c.keep.ensures.stays.openings

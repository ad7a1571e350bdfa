use Rattle.std.proofs.Common.{◌+◌, subst}
use Rattle.manager_runner.specs.Staying.{StaysBut}
use Rattle.manager_runner.proofs.StayFacts.{but_one, and_still, fit_still}
use Rattle.manager_runner.proofs.EndFacts.{ended_here}
use Rattle.manager_runner.proofs.rounds.step.Goals as goal

pub measure-requires-clause-fit : goal.measure-requires-clause-fit
measure-requires-clause-fit g c = fit_still c.args.bench.now c.args.artefacts.now c.args.desk.now c.args.pass.now c.turn.new.pass c.requires.fit c.turn.ensures.made c.turn.ensures.openings

pub measure-requires-clause-held : goal.measure-requires-clause-held
measure-requires-clause-held g c = c.in-ToMeasure.ensures.hands.0

pub measure-requires-clause-question : goal.measure-requires-clause-question
measure-requires-clause-question g c = c.in-ToMeasure.ensures.hands.1

pub returns-in-ToMeasure-clause-stays : goal.returns-in-ToMeasure-clause-stays
returns-in-ToMeasure-clause-stays g c =
    and_still c.args.session (c.args.session + 1) c.args.pass.now c.turn.new.pass c.measure.new.pass (but_one c.args.session _ c.args.pass.now c.turn.new.pass c.turn.ensures.openings c.turn.ensures.told)
    (subst (λ k. StaysBut k c.turn.new.pass c.measure.new.pass) c.in-ToMeasure.ensures.told.one.changes.tells.of_session c.measure.ensures.stays)

pub returns-in-Moved-clause-fit : goal.returns-in-Moved-clause-fit
returns-in-Moved-clause-fit g c = fit_still c.args.bench.now c.args.artefacts.now c.args.desk.now c.args.pass.now c.turn.new.pass c.requires.fit c.turn.ensures.made c.turn.ensures.openings

pub returns-in-Moved-clause-stays : goal.returns-in-Moved-clause-stays
returns-in-Moved-clause-stays g c = but_one c.args.session _ c.args.pass.now c.turn.new.pass c.turn.ensures.openings c.turn.ensures.told

pub returns-in-Waiting-clause-fit : goal.returns-in-Waiting-clause-fit
returns-in-Waiting-clause-fit g c = fit_still c.args.bench.now c.args.artefacts.now c.args.desk.now c.args.pass.now c.turn.new.pass c.requires.fit c.turn.ensures.made c.turn.ensures.openings

pub returns-in-Waiting-clause-stays : goal.returns-in-Waiting-clause-stays
returns-in-Waiting-clause-stays g c = but_one c.args.session _ c.args.pass.now c.turn.new.pass c.turn.ensures.openings c.turn.ensures.told

pub returns-in-Finished-clause-fit : goal.returns-in-Finished-clause-fit
returns-in-Finished-clause-fit g c = fit_still c.args.bench.now c.args.artefacts.now c.args.desk.now c.args.pass.now c.turn.new.pass c.requires.fit c.turn.ensures.made c.turn.ensures.openings

pub returns-in-Finished-clause-stays : goal.returns-in-Finished-clause-stays
returns-in-Finished-clause-stays g c = but_one c.args.session _ c.args.pass.now c.turn.new.pass c.turn.ensures.openings c.turn.ensures.told

pub returns-in-Busy-clause-fit : goal.returns-in-Busy-clause-fit
returns-in-Busy-clause-fit g c = fit_still c.args.bench.now c.args.artefacts.now c.args.desk.now c.args.pass.now c.turn.new.pass c.requires.fit c.turn.ensures.made c.turn.ensures.openings

pub returns-in-Busy-clause-stays : goal.returns-in-Busy-clause-stays
returns-in-Busy-clause-stays g c = but_one c.args.session _ c.args.pass.now c.turn.new.pass c.turn.ensures.openings c.turn.ensures.told

pub returns-in-Finished-clause-ended : goal.returns-in-Finished-clause-ended
returns-in-Finished-clause-ended g c =
    λ e. ended_here (λ opening ask answer. g.B.Bench.gives opening.bench.now opening.artefacts.now ask answer) (λ opening ask fault. g.B.Bench.fails opening.bench.now opening.artefacts.now ask fault) (λ opening ask. g.B.Bench.starves opening.bench.now opening.artefacts.now ask) c.args.session c.args.pass.now.number c.args.pass.now c.turn.new.pass c.in-Finished.ensures.told

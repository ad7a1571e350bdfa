use Rattle.std.proofs.Common.{◌+◌, refl}
use Rattle.manager_runner.proofs.StayFacts.{as_it_is, still_but, fit_still}
use Rattle.manager_runner.proofs.EndFacts.{record_here}
use Rattle.manager_runner.proofs.workers.found_at.Goals as goal

pub loop-init : goal.loop-init
loop-init g c = record { fit = c.requires.fit; stays = as_it_is c.args.session (c.args.session + 1) c.args.pass.now }

pub outcome-requires-clause-made : goal.outcome-requires-clause-made
outcome-requires-clause-made g c = c.loop.invariant.fit.made

pub loop-preserved : goal.loop-preserved
loop-preserved g c =
    record {
      fit = fit_still c.args.bench.now c.args.artefacts.now c.args.desk.now c.loop.pass c.outcome.new.pass c.loop.invariant.fit c.outcome.ensures.made c.outcome.ensures.openings;
      stays = still_but c.args.session c.args.session _ c.args.pass.now c.loop.pass c.outcome.new.pass refl c.loop.invariant.stays c.outcome.ensures.openings c.outcome.ensures.told;
    }

pub returns-in-Ok-clause-fit : goal.returns-in-Ok-clause-fit
returns-in-Ok-clause-fit g c = fit_still c.args.bench.now c.args.artefacts.now c.args.desk.now c.loop.pass c.outcome.new.pass c.loop.invariant.fit c.outcome.ensures.made c.outcome.ensures.openings

pub returns-in-Ok-clause-stays : goal.returns-in-Ok-clause-stays
returns-in-Ok-clause-stays g c = still_but c.args.session c.args.session _ c.args.pass.now c.loop.pass c.outcome.new.pass refl c.loop.invariant.stays c.outcome.ensures.openings c.outcome.ensures.told

pub returns-in-Ok-clause-found : goal.returns-in-Ok-clause-found
returns-in-Ok-clause-found g c = record_here (λ opening ask answer. g.B.Bench.gives opening.bench.now opening.artefacts.now ask answer) (λ opening ask fault. g.B.Bench.fails opening.bench.now opening.artefacts.now ask fault) (λ opening ask. g.B.Bench.starves opening.bench.now opening.artefacts.now ask) c.args.session c.loop.pass.number c.in-Ok.found c.loop.pass c.outcome.new.pass c.in-Ok.ensures.told

pub returns-in-NoMemory-clause-fit : goal.returns-in-NoMemory-clause-fit
returns-in-NoMemory-clause-fit g c = fit_still c.args.bench.now c.args.artefacts.now c.args.desk.now c.loop.pass c.outcome.new.pass c.loop.invariant.fit c.outcome.ensures.made c.outcome.ensures.openings

pub returns-in-NoMemory-clause-stays : goal.returns-in-NoMemory-clause-stays
returns-in-NoMemory-clause-stays g c = still_but c.args.session c.args.session _ c.args.pass.now c.loop.pass c.outcome.new.pass refl c.loop.invariant.stays c.outcome.ensures.openings c.outcome.ensures.told

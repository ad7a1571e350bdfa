use Rattle.std.proofs.Common.{◌+◌}
use Rattle.manager_runner.proofs.StayFacts.{as_it_is, and_still}
use Rattle.manager_runner.proofs.rounds.visit.Goals as goal

pub loop-init : goal.loop-init
loop-init g c = record { fit = c.requires.fit; stays = as_it_is c.args.session (c.args.session + 1) c.args.pass.now }

pub step-here-requires-clause-fit : goal.step-here-requires-clause-fit
step-here-requires-clause-fit g c = c.loop.invariant.fit

pub loop-preserved : goal.loop-preserved
loop-preserved g c =
    record {
      fit = c.step-here.ensures.fit;
      stays = and_still c.args.session (c.args.session + 1) c.args.pass.now c.loop.pass c.step-here.new.pass c.loop.invariant.stays c.step-here.ensures.stays;
    }

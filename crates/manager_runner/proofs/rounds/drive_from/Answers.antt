use Rattle.std.proofs.Common.{length}
use Rattle.manager_runner.proofs.StayFacts.{as_it_is, and_still}
use Rattle.manager_runner.proofs.rounds.drive_from.Goals as goal

pub loop-init : goal.loop-init
loop-init g c = record { fit = c.requires.fit; stays = as_it_is 0 (length c.args.desk.now) c.args.pass.now }

pub round-visited-requires-clause-fit : goal.round-visited-requires-clause-fit
round-visited-requires-clause-fit g c = c.loop.invariant.fit

pub loop-preserved : goal.loop-preserved
loop-preserved g c =
    record {
      fit = c.round-visited.ensures.fit;
      stays = and_still 0 (length c.args.desk.now) c.args.pass.now c.loop.pass c.round-visited.new.pass c.loop.invariant.stays c.round-visited.ensures.stays;
    }

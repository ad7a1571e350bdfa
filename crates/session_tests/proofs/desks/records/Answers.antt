use Rattle.session_tests.proofs.FitFacts.{still_fit}
use Rattle.session_tests.proofs.desks.records.Goals as goal

pub loop-init : goal.loop-init
loop-init g c =
    record {
      fit = c.requires.fit;
      held = c.requires.held;
      measured = c.measured_law.ensures c.args.pass.now c.args.hand c.args.ask.now c.measure-measured.result c.requires.fit.over c.requires.question c.measure-measured.ensures;
    }

pub loop-preserved : goal.loop-preserved
loop-preserved g c =
    record {
      fit = still_fit c.args.bench.now c.args.artefacts.now c.args.desk.now c.loop.pass c.record.new.pass c.loop.invariant.fit c.record.ensures.made c.record.ensures.openings;
      held = c.in-Busy.ensures.again.0;
      measured = c.in-Busy.ensures.again.1;
    }

pub returns-in-Kept : goal.returns-in-Kept
returns-in-Kept g c = still_fit c.args.bench.now c.args.artefacts.now c.args.desk.now c.loop.pass c.record.new.pass c.loop.invariant.fit c.record.ensures.made c.record.ensures.openings

pub returns-in-Ended : goal.returns-in-Ended
returns-in-Ended g c = still_fit c.args.bench.now c.args.artefacts.now c.args.desk.now c.loop.pass c.record.new.pass c.loop.invariant.fit c.record.ensures.made c.record.ensures.openings

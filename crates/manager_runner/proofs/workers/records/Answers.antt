use Rattle.std.proofs.Common.{◌+◌, length, arith}
use Rattle.manager_runner.specs.Ended.{HasRecord}
use Rattle.manager_runner.proofs.StayFacts.{as_it_is, and_still, wider, no_records, record_more}
use Rattle.manager_runner.proofs.workers.records.Goals as goal

pub loop-session-init : goal.loop-session-init
loop-session-init g c =
    record {
      fit = c.requires.fit;
      stays = as_it_is 0 (length c.args.desk.now) c.args.pass.now;
      records = no_records (HasRecord (λ opening ask answer. g.B.Bench.gives opening.bench.now opening.artefacts.now ask answer) (λ opening ask fault. g.B.Bench.fails opening.bench.now opening.artefacts.now ask fault) (λ opening ask. g.B.Bench.starves opening.bench.now opening.artefacts.now ask)) c.new-records.result.items c.args.pass.now.views (search);
    }

pub loop-session-preserved : goal.loop-session-preserved
loop-session-preserved g c =
    let kept = c.loop-session.invariant in
    record {
      fit = c.found_at.ensures.fit;
      stays = and_still 0 (length c.args.desk.now) c.args.pass.now c.loop-session.pass c.found_at.new.pass kept.stays (wider 0 c.loop-session.session (c.loop-session.session + 1) (length c.args.desk.now) c.loop-session.pass c.found_at.new.pass (omega arith) (omega arith) c.found_at.ensures.stays);
      records = record_more (HasRecord (λ opening ask answer. g.B.Bench.gives opening.bench.now opening.artefacts.now ask answer) (λ opening ask fault. g.B.Bench.fails opening.bench.now opening.artefacts.now ask fault) (λ opening ask. g.B.Bench.starves opening.bench.now opening.artefacts.now ask)) c.loop-session.session c.loop-session.records.items c.push.new.self.items c.in-Ok.found c.loop-session.pass c.found_at.new.pass kept.records c.found_at.ensures.stays c.in-Ok.ensures.found c.in-Ok-push.ensures.items;
    }

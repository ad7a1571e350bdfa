use Rattle.std.proofs.Common.{◌+◌, arith}
use Rattle.manager_runner.specs.Ended.{HasEnded}
use Rattle.manager_runner.proofs.StayFacts.{as_it_is, and_still, wider, none_between, one_more}
use Rattle.manager_runner.proofs.rounds.visit_from.Goals as goal

pub loop-session-init : goal.loop-session-init
loop-session-init g c =
    record {
      fit = c.requires.fit;
      stays = as_it_is c.args.from c.args.to c.args.pass.now;
      ended = λ e. none_between (HasEnded (λ opening ask answer. g.B.Bench.gives opening.bench.now opening.artefacts.now ask answer) (λ opening ask fault. g.B.Bench.fails opening.bench.now opening.artefacts.now ask fault) (λ opening ask. g.B.Bench.starves opening.bench.now opening.artefacts.now ask)) c.args.from c.args.pass.now.views;
    }

pub visit-here-requires-clause-fit : goal.visit-here-requires-clause-fit
visit-here-requires-clause-fit g c = c.loop-session.invariant.fit

pub loop-session-preserved : goal.loop-session-preserved
loop-session-preserved g c =
    let kept = c.loop-session.invariant in
    record {
      fit = c.visit-here.ensures.fit;
      stays = and_still c.args.from c.args.to c.args.pass.now c.loop-session.pass c.visit-here.new.pass kept.stays (wider c.args.from c.loop-session.session (c.loop-session.session + 1) c.args.to c.loop-session.pass c.visit-here.new.pass (omega arith) (omega arith) c.visit-here.ensures.stays);
      ended = λ e. let both = c.and-all.ensures e in one_more (HasEnded (λ opening ask answer. g.B.Bench.gives opening.bench.now opening.artefacts.now ask answer) (λ opening ask fault. g.B.Bench.fails opening.bench.now opening.artefacts.now ask fault) (λ opening ask. g.B.Bench.starves opening.bench.now opening.artefacts.now ask)) c.args.from c.loop-session.session c.loop-session.pass c.visit-here.new.pass (kept.ended both.0) c.visit-here.ensures.stays (c.visit-here.ensures.ended both.1);
    }

pub returns-clause-fit : goal.returns-clause-fit
returns-clause-fit g c = c.loop-session.invariant.fit

pub returns-clause-stays : goal.returns-clause-stays
returns-clause-stays g c = c.loop-session.invariant.stays

pub returns-clause-ended : goal.returns-clause-ended
returns-clause-ended g c = λ e at low high. c.loop-session.invariant.ended e at low (omega arith)

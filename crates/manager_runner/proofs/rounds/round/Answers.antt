use Rattle.std.proofs.Common.{length, subst, arith}
use Rattle.manager_runner.specs.Staying.{StaysOutside}
use Rattle.manager_runner.specs.Ended.{HasEnded, AreBetween}
use Rattle.manager_runner.proofs.StayFacts.{and_still, wider, all_round}
use Rattle.manager_runner.proofs.rounds.round.Goals as goal

pub returns-clause-stays : goal.returns-clause-stays
returns-clause-stays g c =
    and_still 0 (length c.args.desk.now) c.args.pass.now c.visit_from-late.new.pass c.visit_from-early.new.pass
    (wider 0 c.args.first (length c.args.desk.now) (length c.args.desk.now) c.args.pass.now c.visit_from-late.new.pass (omega arith) (omega arith) (subst (λ n. StaysOutside c.args.first n c.args.pass.now c.visit_from-late.new.pass) c.session_count-count.ensures c.visit_from-late.ensures.stays))
    (wider 0 0 c.args.first (length c.args.desk.now) c.visit_from-late.new.pass c.visit_from-early.new.pass (omega arith) c.requires.range c.visit_from-early.ensures.stays)

pub returns-clause-ended : goal.returns-clause-ended
returns-clause-ended g c =
    λ e. let both = c.and.ensures e in all_round (HasEnded (λ opening ask answer. g.B.Bench.gives opening.bench.now opening.artefacts.now ask answer) (λ opening ask fault. g.B.Bench.fails opening.bench.now opening.artefacts.now ask fault) (λ opening ask. g.B.Bench.starves opening.bench.now opening.artefacts.now ask)) c.args.first (length c.args.desk.now) c.visit_from-late.new.pass c.visit_from-early.new.pass (subst (λ n. AreBetween (HasEnded (λ opening ask answer. g.B.Bench.gives opening.bench.now opening.artefacts.now ask answer) (λ opening ask fault. g.B.Bench.fails opening.bench.now opening.artefacts.now ask fault) (λ opening ask. g.B.Bench.starves opening.bench.now opening.artefacts.now ask)) c.args.first n c.visit_from-late.new.pass.views) c.session_count-count.ensures (c.visit_from-late.ensures.ended both.0)) c.visit_from-early.ensures.stays (c.visit_from-early.ensures.ended both.1)

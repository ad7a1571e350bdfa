use Rattle.session_desk.proofs.AnswerFacts.{may_record}
use Rattle.session_desk.proofs.laws.measured_law.Goals as goal

pub returns : goal.returns
returns g c = may_record g.B.Bench.gives g.B.Bench.fails g.B.Bench.starves c.args.bench.now c.args.artefacts.now

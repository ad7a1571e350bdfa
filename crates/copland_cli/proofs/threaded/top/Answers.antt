-- The clauses from what was decided and what was concluded.
use Rattle.copland_cli.specs.Commands.{IsAny}
use Rattle.copland_cli.specs.Port.{port}
use Rattle.copland_cli.specs.Words.{texts}
use Rattle.copland_cli.proofs.AnswerLemmas.{bad_words, causes, exact, too_long}
use Rattle.copland_cli.proofs.HeadlineLemmas.{headline}
use Rattle.copland_cli.proofs.AcceptingLemmas.{accepts}
use Rattle.copland_cli.proofs.threaded.top.Goals as goal

pub returns-clause-headline : goal.returns-clause-headline
returns-clause-headline g c =
    headline (g.B.Bench.gives c.args.bench.now) (g.B.Bench.fails c.args.bench.now) (g.B.Bench.starves c.args.bench.now) (texts c.args.words.now) (port g.S.Source.left g.S.Source.faults c.args.source.now c.carry_out.new.source) (port g.K.Sink.taken g.K.Sink.faults c.args.sink.now c.carry_out.new.sink) c.carry_out.ensures.0 c.carry_out.result c.carry_out.ensures.1 c.carry_out.ensures.2

pub returns-clause-cause : goal.returns-clause-cause
returns-clause-cause g c =
    causes IsAny (g.B.Bench.gives c.args.bench.now) (g.B.Bench.fails c.args.bench.now) (g.B.Bench.starves c.args.bench.now) (texts c.args.words.now) (port g.S.Source.left g.S.Source.faults c.args.source.now c.carry_out.new.source) (port g.K.Sink.taken g.K.Sink.faults c.args.sink.now c.carry_out.new.sink) c.carry_out.ensures.0 c.carry_out.result c.carry_out.ensures.1 c.carry_out.ensures.2

pub returns-clause-bad_words : goal.returns-clause-bad_words
returns-clause-bad_words g c =
    bad_words IsAny (g.B.Bench.gives c.args.bench.now) (g.B.Bench.fails c.args.bench.now) (g.B.Bench.starves c.args.bench.now) (texts c.args.words.now) (port g.S.Source.left g.S.Source.faults c.args.source.now c.carry_out.new.source) (port g.K.Sink.taken g.K.Sink.faults c.args.sink.now c.carry_out.new.sink) c.carry_out.ensures.0 c.carry_out.result c.carry_out.ensures.1 c.carry_out.ensures.2

pub returns-clause-exact : goal.returns-clause-exact
returns-clause-exact g c =
    exact IsAny (g.B.Bench.gives c.args.bench.now) (g.B.Bench.fails c.args.bench.now) (g.B.Bench.starves c.args.bench.now) (texts c.args.words.now) (port g.S.Source.left g.S.Source.faults c.args.source.now c.carry_out.new.source) (port g.K.Sink.taken g.K.Sink.faults c.args.sink.now c.carry_out.new.sink) c.carry_out.ensures.0 c.carry_out.result c.carry_out.ensures.1 c.carry_out.ensures.2

pub returns-clause-too_long : goal.returns-clause-too_long
returns-clause-too_long g c =
    too_long IsAny (g.B.Bench.gives c.args.bench.now) (g.B.Bench.fails c.args.bench.now) (g.B.Bench.starves c.args.bench.now) (texts c.args.words.now) (port g.S.Source.left g.S.Source.faults c.args.source.now c.carry_out.new.source) (port g.K.Sink.taken g.K.Sink.faults c.args.sink.now c.carry_out.new.sink) c.carry_out.ensures.0 c.carry_out.result c.carry_out.ensures.1 c.carry_out.ensures.2

pub returns-clause-accepts : goal.returns-clause-accepts
returns-clause-accepts g c =
    accepts (record { bundles = c.acceptance_law.ensures; one = c.shape_law.ensures.one }) IsAny (g.B.Bench.gives c.args.bench.now) (g.B.Bench.fails c.args.bench.now) (g.B.Bench.starves c.args.bench.now) (texts c.args.words.now) (port g.S.Source.left g.S.Source.faults c.args.source.now c.carry_out.new.source) (port g.K.Sink.taken g.K.Sink.faults c.args.sink.now c.carry_out.new.sink) c.carry_out.ensures.0 c.carry_out.result tt c.carry_out.ensures.1 c.carry_out.ensures.2

-- The clauses from what was decided and what was concluded.
use Rattle.copland_cli.specs.Commands.{IsPlain}
use Rattle.copland_cli.specs.Port.{port}
use Rattle.copland_cli.specs.Words.{texts}
use Rattle.copland_cli.proofs.AnswerLemmas.{bad_words, causes, exact, too_long}
use Rattle.copland_cli.proofs.AcceptingLemmas.{accepts}
use Rattle.copland_cli.proofs.plain.plain_top.Goals as goal

pub returns-clause-answer : goal.returns-clause-answer
returns-clause-answer g c = (c.decide-outcome.result, c.decide-outcome.ensures, c.conclude.ensures)

pub returns-clause-cause : goal.returns-clause-cause
returns-clause-cause g c =
    causes IsPlain (g.B.Bench.gives c.args.bench.now) (g.B.Bench.fails c.args.bench.now) (g.B.Bench.starves c.args.bench.now) (texts c.args.words.now) (port g.S.Source.left g.S.Source.faults c.args.source.now c.decide-outcome.new.source) (port g.K.Sink.taken g.K.Sink.faults c.args.sink.now c.conclude.new.sink) c.decide-outcome.result c.conclude.result c.decide-outcome.ensures c.conclude.ensures

pub returns-clause-bad_words : goal.returns-clause-bad_words
returns-clause-bad_words g c =
    bad_words IsPlain (g.B.Bench.gives c.args.bench.now) (g.B.Bench.fails c.args.bench.now) (g.B.Bench.starves c.args.bench.now) (texts c.args.words.now) (port g.S.Source.left g.S.Source.faults c.args.source.now c.decide-outcome.new.source) (port g.K.Sink.taken g.K.Sink.faults c.args.sink.now c.conclude.new.sink) c.decide-outcome.result c.conclude.result c.decide-outcome.ensures c.conclude.ensures

pub returns-clause-exact : goal.returns-clause-exact
returns-clause-exact g c =
    exact IsPlain (g.B.Bench.gives c.args.bench.now) (g.B.Bench.fails c.args.bench.now) (g.B.Bench.starves c.args.bench.now) (texts c.args.words.now) (port g.S.Source.left g.S.Source.faults c.args.source.now c.decide-outcome.new.source) (port g.K.Sink.taken g.K.Sink.faults c.args.sink.now c.conclude.new.sink) c.decide-outcome.result c.conclude.result c.decide-outcome.ensures c.conclude.ensures

pub returns-clause-too_long : goal.returns-clause-too_long
returns-clause-too_long g c =
    too_long IsPlain (g.B.Bench.gives c.args.bench.now) (g.B.Bench.fails c.args.bench.now) (g.B.Bench.starves c.args.bench.now) (texts c.args.words.now) (port g.S.Source.left g.S.Source.faults c.args.source.now c.decide-outcome.new.source) (port g.K.Sink.taken g.K.Sink.faults c.args.sink.now c.conclude.new.sink) c.decide-outcome.result c.conclude.result c.decide-outcome.ensures c.conclude.ensures

pub returns-clause-accepts : goal.returns-clause-accepts
returns-clause-accepts g c =
    accepts (record { bundles = c.acceptance_law.ensures; one = c.shape_law.ensures.one }) IsPlain (g.B.Bench.gives c.args.bench.now) (g.B.Bench.fails c.args.bench.now) (g.B.Bench.starves c.args.bench.now) (texts c.args.words.now) (port g.S.Source.left g.S.Source.faults c.args.source.now c.decide-outcome.new.source) (port g.K.Sink.taken g.K.Sink.faults c.args.sink.now c.conclude.new.sink) c.decide-outcome.result c.conclude.result tt c.decide-outcome.ensures c.conclude.ensures

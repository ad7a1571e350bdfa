-- The words are those of `attest`; or what they are on one thread they are here.
use Rattle.std.proofs.Common.{inl}
use Rattle.copland_cli.specs.Port.{port}
use Rattle.copland_cli.specs.Words.{texts}
use Rattle.copland_cli.specs.Command.{Attest}
use Rattle.copland_cli.proofs.HeadlineLemmas.{answer_of_any}
use Rattle.copland_cli.proofs.threaded.carry_out.Goals as goal

pub returns-in-Some : goal.returns-in-Some
returns-in-Some g c = (c.attest-outcome.result, inl (Attest c.in-Some.workers, c.in-Some.ensures, tt, c.attest-outcome.ensures), c.conclude.ensures)

pub returns-in-None : goal.returns-in-None
returns-in-None g c =
    answer_of_any (g.B.Bench.gives c.args.bench.now) (g.B.Bench.fails c.args.bench.now) (g.B.Bench.starves c.args.bench.now) (texts c.args.words.now) (port g.S.Source.left g.S.Source.faults c.args.source.now c.plain_top.new.source) (port g.K.Sink.taken g.K.Sink.faults c.args.sink.now c.plain_top.new.sink) c.plain_top.result c.in-None.ensures c.plain_top.ensures.answer

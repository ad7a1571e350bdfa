use Rattle.std.proofs.Common.{length}
use Rattle.session_desk.specs.Opening.{IsFit}
use Rattle.manager_runner.specs.Ended.{HasRecord, AreRecords}
use Rattle.manager_runner.specs.Staying.{StaysOutside}
use Rattle.manager_runner.proofs.workers.records.Given as goal

abbrev pub invariant-loop-session : goal.invariant-loop-session
invariant-loop-session g l =
    record {
      fit : IsFit l.bench l.artefacts l.desk l.pass;
      stays : StaysOutside 0 (length l.desk) l.fn.pass l.pass;
      records : AreRecords l.session (HasRecord (λ opening ask answer. g.B.Bench.gives opening.bench.now opening.artefacts.now ask answer) (λ opening ask fault. g.B.Bench.fails opening.bench.now opening.artefacts.now ask fault) (λ opening ask. g.B.Bench.starves opening.bench.now opening.artefacts.now ask)) l.records.items l.pass.views;
    }

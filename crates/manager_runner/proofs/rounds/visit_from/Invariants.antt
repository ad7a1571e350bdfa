use Rattle.std.proofs.Common.{◌≡◌, true}
use Rattle.session_desk.specs.Opening.{IsFit}
use Rattle.manager_runner.specs.Ended.{HasEnded, AreBetween}
use Rattle.manager_runner.specs.Staying.{StaysOutside}
use Rattle.manager_runner.proofs.rounds.visit_from.Given as goal

abbrev pub invariant-loop-session : goal.invariant-loop-session
invariant-loop-session g l =
    record {
      fit : IsFit l.bench l.artefacts l.desk l.pass;
      stays : StaysOutside l.from l.to l.fn.pass l.pass;
      ended : l.all.ended ≡ true → AreBetween (HasEnded (λ opening ask answer. g.B.Bench.gives opening.bench.now opening.artefacts.now ask answer) (λ opening ask fault. g.B.Bench.fails opening.bench.now opening.artefacts.now ask fault) (λ opening ask. g.B.Bench.starves opening.bench.now opening.artefacts.now ask)) l.from l.session l.pass.views;
    }

use Rattle.std.proofs.Common.{◌≡◌}
use Rattle.session_desk.specs.Views.{IsPassOf}
use Rattle.session_desk.specs.Answers.{IsHeld, IsMeasured}
use Rattle.manager_runner.specs.Staying.{StaysBut}
use Rattle.manager_runner.proofs.rounds.keep.Given as goal

abbrev pub invariant-loop : goal.invariant-loop
invariant-loop g l =
    record {
      made : IsPassOf l.desk l.pass;
      held : IsHeld l.pass l.held;
      measured : IsMeasured (λ opening ask answer. g.B.Bench.gives opening.bench.now opening.artefacts.now ask answer) (λ opening ask fault. g.B.Bench.fails opening.bench.now opening.artefacts.now ask fault) (λ opening ask. g.B.Bench.starves opening.bench.now opening.artefacts.now ask) l.pass l.held l.kept;
      same : l.held ≡ l.fn.hand;
      stays : StaysBut l.fn.hand.session l.fn.pass l.pass;
    }

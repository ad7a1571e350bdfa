use Rattle.session_desk.specs.Opening.{IsFit}
use Rattle.session_desk.specs.Answers.{IsHeld, IsMeasured}
use Rattle.session_tests.proofs.desks.records.Given as goal

abbrev pub invariant-loop : goal.invariant-loop
invariant-loop g l =
    record {
      fit : IsFit l.bench l.artefacts l.desk l.pass;
      held : IsHeld l.pass l.hand;
      measured : IsMeasured (λ opening question answer. g.B.Bench.gives opening.bench.now opening.artefacts.now question answer) (λ opening question fault. g.B.Bench.fails opening.bench.now opening.artefacts.now question fault) (λ opening question. g.B.Bench.starves opening.bench.now opening.artefacts.now question) l.pass l.hand l.measured;
    }

use Rattle.session_desk.specs.Opening.{IsFit}
use Rattle.manager_runner.specs.Staying.{StaysBut}
use Rattle.manager_runner.proofs.workers.found_at.Given as goal

abbrev pub invariant-loop : goal.invariant-loop
invariant-loop g l = record { fit : IsFit l.bench l.artefacts l.desk l.pass; stays : StaysBut l.session l.fn.pass l.pass }

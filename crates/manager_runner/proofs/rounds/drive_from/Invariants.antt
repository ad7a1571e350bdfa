use Rattle.std.proofs.Common.{length}
use Rattle.session_desk.specs.Opening.{IsFit}
use Rattle.manager_runner.specs.Staying.{StaysOutside}
use Rattle.manager_runner.proofs.rounds.drive_from.Given as goal

abbrev pub invariant-loop : goal.invariant-loop
invariant-loop g l = record { fit : IsFit l.bench l.artefacts l.desk l.pass; stays : StaysOutside 0 (length l.desk) l.fn.pass l.pass }

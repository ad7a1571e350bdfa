use Rattle.std.proofs.Common.{◌≡◌, length}
use Rattle.session_desk.specs.Opening.{AreJustOpened, AreOpenedOver}
use Rattle.manager_runner.proofs.tests.opened.Given as goal

abbrev pub invariant-loop : goal.invariant-loop
invariant-loop g l =
    record {
      count : length l.sessions.items ≡ l.counter;
      just : AreJustOpened l.sessions.items;
      over : AreOpenedOver l.bench l.artefacts l.sessions.items;
    }

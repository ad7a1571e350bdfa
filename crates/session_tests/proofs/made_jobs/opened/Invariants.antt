-- The sessions so far are just opened, over this bench and the job's artefacts.
use Rattle.session_desk.specs.Opening.{AreJustOpened, AreOpenedOver}
use Rattle.session_tests.proofs.made_jobs.opened.Given as goal

abbrev pub invariant-loop-checked : goal.invariant-loop-checked
invariant-loop-checked g l =
    record {
      just : AreJustOpened l.sessions.items;
      over : AreOpenedOver l.bench l.job.artefacts l.sessions.items;
    }

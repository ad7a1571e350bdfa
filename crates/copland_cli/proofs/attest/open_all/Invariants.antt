-- The sessions up to the loop's were opened.
use Rattle.std.proofs.Common.{take}
use Rattle.std.specs.List.{AllZip}
use Rattle.session_core.specs.Session.{IsJustOpened}
use Rattle.copland_cli.proofs.attest.open_all.Given as goal

abbrev pub invariant-loop-checked : goal.invariant-loop-checked
invariant-loop-checked g l =
    AllZip (λ one seen. IsJustOpened one l.job.places l.job.artefacts l.bench seen) (take l.checked-index l.job.sessions.items) l.sessions.items

use Rattle.std.proofs.Common.{◌≡◌, length}
use Rattle.session_desk.specs.Opening.{IsFit}
use Rattle.session_tests.proofs.threads.drives.Given as goal

abbrev pub invariant-loop : goal.invariant-loop
invariant-loop g l = IsFit l.bench l.artefacts l.desk l.pass × (length l.desk ≡ 2)

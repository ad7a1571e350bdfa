use Rattle.std.proofs.Common.{◌≡◌}
use Rattle.session_tests.proofs.messages.plays_all.Given as goal

abbrev pub invariant-loop-step : goal.invariant-loop-step
invariant-loop-step g l = l.session.opening.artefacts.now ≡ l.artefacts

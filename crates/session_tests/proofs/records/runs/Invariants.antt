-- It is still a session over these artefacts and this bench.
use Rattle.std.proofs.Common.{◌≡◌}
use Rattle.session_tests.proofs.records.runs.Given as goal

abbrev pub invariant-loop-made : goal.invariant-loop-made
invariant-loop-made g l = (l.session.opening.artefacts.now ≡ l.artefacts) × (l.session.opening.bench.now ≡ l.bench)

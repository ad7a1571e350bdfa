-- The report so far becomes that of all sessions by whatever records there are of those that are left.
use Rattle.std.proofs.Common.{◌≡◌, drop}
use Rattle.std.specs.Prelude.{map}
use Rattle.place_check.specs.Places.{keys_of}
use Rattle.place_check.specs.Session.{session_of}
use Rattle.copland_cli.proofs.ValueLemmas.{BecomeWhole}
use Rattle.copland_cli.proofs.evaluate.values_of.Given as goal

abbrev pub invariant-loop-checked : goal.invariant-loop-checked
invariant-loop-checked g l =
    (l.number ≡ l.checked-index) × BecomeWhole (g.B.Bench.gives l.bench l.job.artefacts) (g.B.Bench.fails l.bench l.job.artefacts) (keys_of l.job.places) (map session_of l.job.sessions.items) (map session_of (drop l.checked-index l.job.sessions.items)) l.checked-index l.text.items l.failed

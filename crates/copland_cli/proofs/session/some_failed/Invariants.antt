-- Whether one failed is left to those that are to come.
use Rattle.std.proofs.Common.{◌≡◌, drop}
use Rattle.std.specs.Prelude.{map}
use Rattle.session_model.specs.Recorded.{recorded}
use Rattle.copland_cli.specs.Reported.{some_failed}
use Rattle.copland_cli.proofs.session.some_failed.Given as goal

abbrev pub invariant-loop-found : goal.invariant-loop-found
invariant-loop-found l =
    some_failed (map recorded (drop l.found-index l.records)) ≡ some_failed (map recorded l.records)

-- Whether one failed is left to those that are to come.
use Rattle.std.proofs.Common.{◌≡◌, drop}
use Rattle.copland_cli.specs.Recordings.{one_failed}
use Rattle.copland_cli.proofs.record.one_failed.Given as goal

abbrev pub invariant-loop-found : goal.invariant-loop-found
invariant-loop-found l = one_failed (drop l.found-index l.recordings) ≡ one_failed l.recordings

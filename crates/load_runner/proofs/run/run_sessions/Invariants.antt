-- The sessions so far are counted, and what is counted is not much.
use Rattle.std.proofs.Common.{◌≤◌, ◌*◌, map, take}
use Rattle.place_check.specs.Session.{session_of}
use Rattle.job_reader.specs.Accepted.{job_view}
use Rattle.load_runner.specs.Tally.{IsTallied}
use Rattle.load_runner.proofs.run.run_sessions.Given as goal

abbrev pub invariant-loop-checked : goal.invariant-loop-checked
invariant-loop-checked g l = record {
  tallied : IsTallied (g.B.Bench.gives l.bench l.job.artefacts) (g.B.Bench.fails l.bench l.job.artefacts) (job_view l.job) (map session_of (take l.checked-index l.job.sessions.items)) l.tally;
  events : l.tally.events ≤ 2048 * l.checked-index;
  done : l.tally.done ≤ l.checked-index;
  accepted : l.tally.accepted ≤ l.checked-index;
}

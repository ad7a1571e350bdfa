-- What was written and what is to come is the whole.
use Rattle.std.proofs.Common.{◌≡◌, ◌++◌, drop}
use Rattle.std.specs.Prelude.{map}
use Rattle.place_check.specs.Session.{session_of}
use Rattle.report_text.specs.Sessions.{numbered}
use Rattle.copland_cli.specs.Reported.{aspect_text}
use Rattle.copland_cli.proofs.outcome.describe_each.Given as goal

abbrev pub invariant-loop-checked : goal.invariant-loop-checked
invariant-loop-checked l =
    (l.number ≡ l.checked-index) × (l.text.items ++ numbered (aspect_text l.aspect) l.checked-index (map session_of (drop l.checked-index l.job.sessions.items)) ≡ numbered (aspect_text l.aspect) 0 (map session_of l.job.sessions.items))

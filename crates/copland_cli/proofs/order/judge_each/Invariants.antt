-- The report so far becomes that of all sessions by whatever is found in those that are left.
use Rattle.std.proofs.Common.{◌≡◌, drop}
use Rattle.std.specs.Prelude.{map}
use Rattle.place_check.specs.Session.{session_of}
use Rattle.copland_cli.proofs.OrderLemmas.{BecomeWhole}
use Rattle.copland_cli.proofs.order.judge_each.Given as goal

abbrev pub invariant-loop-checked : goal.invariant-loop-checked
invariant-loop-checked l =
    (l.number ≡ l.checked-index) × BecomeWhole l.policy (map session_of l.job.sessions.items) (map session_of (drop l.checked-index l.job.sessions.items)) l.checked-index l.text.items l.broken

-- Behind the entries that were passed, so many are left.
use Rattle.std.proofs.Common.{◌≡◌}
use Rattle.transcript.specs.Written.{behind_entries}
use Rattle.transcript.proofs.reading.behind_entries.Given as goal

abbrev pub invariant-loop-left : goal.invariant-loop-left
invariant-loop-left l = behind_entries l.left l.rest ≡ behind_entries l.fn.count l.fn.bytes

abbrev pub decreases-loop-left : goal.decreases-loop-left
decreases-loop-left l = l.left

-- The sessions up to the loop's have their records in the list.
use Rattle.std.proofs.Common.{map, take}
use Rattle.session_model.specs.Recorded.{recorded}
use Rattle.session_walk.specs.Records.{AreRecordsOf}
use Rattle.session_walk.specs.Sessions.{walked_in}
use Rattle.session_walk.proofs.walk.records_of.Given as goal

abbrev pub invariant-loop-session : goal.invariant-loop-session
invariant-loop-session g l = AreRecordsOf (map walked_in (take l.session-index l.session-items)) (map recorded l.records.items)

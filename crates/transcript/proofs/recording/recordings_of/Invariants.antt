-- The sessions up to the loop's have their recordings in the list.
use Rattle.std.proofs.Common.{map, take}
use Rattle.session_walk.specs.Sessions.{walked_in}
use Rattle.transcript.specs.Recording.{AreRecordingsOf}
use Rattle.transcript.proofs.recording.recordings_of.Given as goal

abbrev pub invariant-loop-session : goal.invariant-loop-session
invariant-loop-session g l = AreRecordingsOf (map walked_in (take l.session-index l.session-items)) l.recordings.items

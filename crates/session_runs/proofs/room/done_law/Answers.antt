use Rattle.session_runs.proofs.RoomLaws.{history_done}
use Rattle.session_runs.proofs.room.done_law.Goals as goal

pub returns : goal.returns
returns c = history_done

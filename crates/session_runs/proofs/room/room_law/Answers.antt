use Rattle.session_runs.proofs.RoomLaws.{history_room, history_answers}
use Rattle.session_runs.proofs.room.room_law.Goals as goal

pub returns : goal.returns
returns c = record { room = history_room; answers = history_answers }

use Rattle.std.proofs.Common.{map}
use Rattle.std.proofs.lemmas.Result.{IfOk-weaker}
use Rattle.place_check.specs.Places.{keys_of}
use Rattle.place_check.specs.Session.{session_of}
use Rattle.checked_sessions.specs.Named.{place_names}
use Rattle.session_walk.specs.Sessions.{walked_in}
use Rattle.transcript.specs.Recording.{AreRecordingsOf}
use Rattle.transcript.proofs.recording.record_together.Goals as goal

pub returns : goal.returns
returns g c =
    let all = map walked_in c.in_ok-sessions.sessions.items in
    IfOk-weaker c.recordings_of.result (λ recordings. AreRecordingsOf all recordings.items) _
    (λ recordings are. c.recorded_law.ensures (place_names c.args.places.now) (keys_of c.args.places.now) (map session_of c.args.checked.now) c.args.number all recordings.items c.all_ask_places.ensures c.in_ok-sessions.ensures are)
    c.recordings_of.ensures

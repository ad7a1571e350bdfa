use Rattle.std.proofs.Common.{map}
use Rattle.std.proofs.lemmas.Result.{IfOk-weaker}
use Rattle.session_model.specs.Recorded.{recorded}
use Rattle.session_walk.specs.Records.{AreRecordsOf}
use Rattle.session_walk.specs.Sessions.{walked_in}
use Rattle.place_check.specs.Places.{keys_of}
use Rattle.place_check.specs.Session.{session_of}
use Rattle.checked_sessions.specs.Named.{place_names}
use Rattle.session_walk.proofs.JobLemmas.{map_there}
use Rattle.session_walk.proofs.walk.walk_together.Goals as goal

pub records_of-requires : goal.records_of-requires
records_of-requires g c = λ index seen at_index.
    c.records_law.ensures.each (place_names c.args.places.now) (keys_of c.args.places.now) (map session_of c.args.checked.now) c.args.number (map walked_in c.in_ok-sessions.sessions.items) index (walked_in seen) c.all_ask_places.ensures c.in_ok-sessions.ensures
    (map_there walked_in c.in_ok-sessions.sessions.items index seen at_index)

pub returns : goal.returns
returns g c =
    IfOk-weaker c.records_of.result (λ records. AreRecordsOf (map walked_in c.in_ok-sessions.sessions.items) (map recorded records.items)) _
    (λ records are. (c.records_law.ensures.are (place_names c.args.places.now) (keys_of c.args.places.now) (map session_of c.args.checked.now) c.args.number (map walked_in c.in_ok-sessions.sessions.items) (map recorded records.items) c.all_ask_places.ensures c.in_ok-sessions.ensures are).0)
    c.records_of.ensures

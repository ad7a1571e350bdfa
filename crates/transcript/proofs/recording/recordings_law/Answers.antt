use Rattle.session_runs.specs.Schedule.{scheduled}
use Rattle.session_runs.specs.Played.{ArePlayed}
use Rattle.transcript.proofs.RecordingLemmas.{all_finished}
use Rattle.transcript.proofs.recording.recordings_law.Goals as goal

pub returns : goal.returns
returns g c = λ bench book places keys sessions number recordings those.
    let walk = those.walk in
    let all = scheduled places keys walk.results sessions number in
    let plays : ArePlayed keys walk.results 0 sessions all = (c.schedule_law.ensures places keys walk.results sessions number walk.only).0 in
    all_finished (g.B.Bench.gives bench book) (g.B.Bench.fails bench book) (g.B.Bench.starves bench book) keys walk.results 0 sessions all those.records recordings plays walk.legal walk.recorded those.written

use Rattle.std.proofs.Common.{sym, subst}
use Rattle.session_runs.specs.Schedule.{scheduled}
use Rattle.session_runs.specs.Played.{ArePlayed}
use Rattle.transcript.specs.Recording.{AreRecordingsOf}
use Rattle.transcript.proofs.RecordingLemmas.{all_recorded, first_passes}
use Rattle.transcript.proofs.recording.recorded_law.Goals as goal

pub returns : goal.returns
returns g c = λ places keys sessions number all recordings only stands are.
    let found = all_recorded all (λ i walked there. c.records_law.ensures.each places keys sessions number all i walked only stands there) in
    let walk = c.records_law.ensures.are places keys sessions number all found.0 only stands found.1 in
    let plays : ArePlayed keys walk.0.results 0 sessions (scheduled places keys walk.0.results sessions number) = (c.schedule_law.ensures places keys walk.0.results sessions number only).0 in
    record {
      records = found.0;
      walk = walk.0;
      written = subst (λ those. AreRecordingsOf those recordings) (sym walk.1) are;
      passes = first_passes keys walk.0.results 0 sessions (scheduled places keys walk.0.results sessions number) plays;
    }

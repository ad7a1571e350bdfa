use Rattle.std.proofs.Common.{List, Result, sym, subst}
use Rattle.session_runs.specs.Standing.{Entry}
use Rattle.transcript.specs.declared.fault.Stop.{Stop}
use Rattle.transcript.specs.Written.{Found}
use Rattle.transcript.proofs.ReadingLemmas.{transcript_fails, transcript_goes}
use Rattle.transcript.proofs.reading.entries_of.Goals as goal

pub returns-in-Err : goal.returns-in-Err
returns-in-Err c = transcript_fails c.args.bytes.now c.in-Err.first c.in-Err.ensures

pub returns-in-Ok : goal.returns-in-Ok
returns-in-Ok c =
    subst (λ (read : Result (List Entry) Stop). Found read c.counted.result) (sym (transcript_goes c.args.bytes.now c.in-Ok.rest.now c.in-Ok.ensures)) c.counted.ensures

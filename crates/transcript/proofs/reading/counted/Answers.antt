use Rattle.std.proofs.Common.{List, Result, sym, subst}
use Rattle.session_runs.specs.Standing.{Entry}
use Rattle.transcript.specs.declared.fault.Stop.{Stop}
use Rattle.transcript.specs.Written.{Found}
use Rattle.transcript.proofs.ReadingLemmas.{counted_fails, counted_goes}
use Rattle.transcript.proofs.reading.counted.Goals as goal

pub returns-in-Err : goal.returns-in-Err
returns-in-Err c = counted_fails c.args.bytes.now c.in-Err.first c.in-Err.ensures

pub returns-in-Ok : goal.returns-in-Ok
returns-in-Ok c =
    subst (λ (read : Result (List Entry) Stop). Found read c.all_entries.result) (sym (counted_goes c.args.bytes.now c.in-Ok.rest.now c.in-Ok.count c.in-Ok.ensures)) c.all_entries.ensures

-- What was written and what is to come is the whole.
use Rattle.std.proofs.Common.{◌≡◌, ◌++◌, drop}
use Rattle.std.specs.Prelude.{map}
use Rattle.session_model.specs.Recorded.{recorded}
use Rattle.report_text.specs.Records.{record_text}
use Rattle.report_text.specs.Sessions.{numbered}
use Rattle.report_text.proofs.record.records_text.Given as goal

abbrev pub invariant-loop-found : goal.invariant-loop-found
invariant-loop-found l =
    (l.number ≡ l.found-index) × (l.text.items ++ numbered record_text l.found-index (map recorded (drop l.found-index l.records)) ≡ numbered record_text 0 (map recorded l.records))

-- What was written and what is to come is the whole.
use Rattle.std.proofs.Common.{◌≡◌, ◌++◌, drop}
use Rattle.std.specs.Prelude.{map}
use Rattle.report_text.specs.Sessions.{numbered}
use Rattle.report_text.specs.Transcripts.{transcript_in, transcript_line}
use Rattle.report_text.proofs.transcripts.transcripts_text.Given as goal

abbrev pub invariant-loop-found : goal.invariant-loop-found
invariant-loop-found l =
    (l.number ≡ l.found-index) × (l.text.items ++ numbered transcript_line l.found-index (map transcript_in (drop l.found-index l.recordings)) ≡ numbered transcript_line 0 (map transcript_in l.recordings))

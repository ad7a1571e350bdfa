-- The line of the next session moves from what is to come to what was written.
use Rattle.std.proofs.Common.{◌≡◌, ◌++◌, ◌∙◌, ℕ, map, ap, arith}
use Rattle.report_text.specs.Sessions.{numbered}
use Rattle.report_text.specs.Transcripts.{transcript_in, transcript_line}
use Rattle.report_text.proofs.NumberedLemmas.{goes_on}
use Rattle.report_text.proofs.transcripts.transcripts_text.Goals as goal

pub loop-found-preserved : goal.loop-found-preserved
loop-found-preserved c =
    let here : c.loop-found.number ≡ c.loop-found.found-index = c.loop-found.invariant.0 in
    let grown : c.push_transcript.new.text.items ≡ c.loop-found.text.items ++ transcript_line c.loop-found.found-index (transcript_in c.found-item.result) = c.in_ok-push_transcript.ensures ∙ ap (λ (n : ℕ). c.loop-found.text.items ++ transcript_line n (transcript_in c.found-item.result)) here in (
      omega (arith, here),
      goes_on transcript_line transcript_in c.args.recordings.now c.loop-found.found-index c.found-item.result c.loop-found.text.items c.push_transcript.new.text.items (numbered transcript_line 0 (map transcript_in c.args.recordings.now)) c.loop-found-test.true c.found-item.is c.loop-found.invariant.1 grown,
    )

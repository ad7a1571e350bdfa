use Rattle.transcript.proofs.EntryLemmas.{transcript_takes, transcript_again}
use Rattle.transcript.proofs.laws.transcript_or_fault.Goals as goal

pub returns : goal.returns
returns c = λ bytes entries fits. (transcript_takes bytes entries fits, transcript_again bytes entries)

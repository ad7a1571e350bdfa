use Rattle.evidence_codec.specs.Scanned.{IsReader}
use Rattle.evidence_codec.proofs.tests.feed.Given as goal

abbrev pub invariant-loop-byte : goal.invariant-loop-byte
invariant-loop-byte l = IsReader l.reader

use Rattle.evidence_codec.specs.Scanned.{IsReader}
use Rattle.evidence_codec.proofs.tests.agrees_in_pieces.Given as goal

abbrev pub invariant-loop-piece : goal.invariant-loop-piece
invariant-loop-piece l = IsReader l.reader

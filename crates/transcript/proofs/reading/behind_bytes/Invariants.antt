-- Behind the bytes that were passed, the rest of those that are wanted stands at the front of what is left.
use Rattle.std.proofs.Common.{◌≡◌, drop}
use Rattle.transcript.specs.Reading.{behind_bytes}
use Rattle.transcript.proofs.reading.behind_bytes.Given as goal

abbrev pub invariant-loop-byte : goal.invariant-loop-byte
invariant-loop-byte l = behind_bytes (drop l.byte-index l.wanted) l.rest ≡ behind_bytes l.wanted l.bytes

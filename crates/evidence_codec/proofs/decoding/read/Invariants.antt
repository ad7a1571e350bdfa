-- The reader took the bytes so far, and this was made of the heads that they ended.
use Rattle.std.proofs.Common.{Bool, List, ℕ, take}
use Rattle.evidence_codec.specs.declared.decoding.Made.{Made}
use Rattle.evidence_codec.specs.declared.reader.Reader.{Reader}
use Rattle.evidence_codec.specs.Making.{Goes}
use Rattle.evidence_codec.specs.Scanned.{IsReader}
use Rattle.evidence_codec.proofs.decoding.read.Given as goal

-- the reader is one, besides
pub record Going (either : Bool) (bytes : List ℕ) (reader : Reader) (made : Made) : Type 0 where
  pub ready : IsReader reader
  pub goes : Goes either bytes reader made

abbrev pub invariant-loop-byte : goal.invariant-loop-byte
invariant-loop-byte l = Going l.fn.either (take l.byte-index l.bytes) l.reader l.made

use Rattle.std.proofs.Common.{◌∙◌, ap}
use Rattle.evidence_codec.specs.Reading.{read_bundle}
use Rattle.evidence_codec.specs.Scanning.{ending, finished}
use Rattle.evidence_codec.specs.Decoding.{scan_of}
use Rattle.evidence_codec.proofs.ScanLemmas.{read-is}
use Rattle.evidence_codec.proofs.ReaderLemmas.{finish-gives}
use Rattle.evidence_codec.proofs.reader.Reader.finish.Goals as goal

pub returns : goal.returns
returns c = λ either bytes heads s. finish-gives c.ending.result (ending (scan_of c.args.self.now)) heads (read_bundle either bytes) c.ending.ensures (read-is either bytes ∙ ap finished s.came)

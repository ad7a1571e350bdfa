-- A fault in a head is at one of its first bytes.
use Rattle.std.proofs.Common.{◌≤◌, arith}
use Rattle.evidence_codec.specs.declared.fault.Stop.TheVariants.{Faulty}
use Rattle.evidence_codec.specs.Reading.{head_at}
use Rattle.evidence_codec.proofs.FrontLemmas.{head-front}
use Rattle.evidence_codec.proofs.ReaderLemmas.{counted-err}
use Rattle.evidence_codec.proofs.reader.Reader.enter.Goals as goal

pub overflow_add-self : goal.overflow_add-self
overflow_add-self c =
    let read = rw c.in-Err-Faulty.field-0-is at c.in-Err-Faulty.ensures in
    let e = counted-err (head_at c.args.self.now.version c.deref.result.now) (Faulty c.in-Err-Faulty.index c.in-Err-Faulty.kind) read in
    let near : c.in-Err-Faulty.index ≤ 6 = (head-front c.args.self.now.version).near c.deref.result.now c.in-Err-Faulty.index c.in-Err-Faulty.kind e in
    omega (arith, near, c.requires.inside.within)

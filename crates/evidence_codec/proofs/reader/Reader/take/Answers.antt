use Rattle.std.proofs.Common.{◌≡◌, Bool, sym, ap₂, ◌∙◌}
use Rattle.evidence_codec.specs.Scanning.{Scan, step}
use Rattle.evidence_codec.specs.Decoding.{given, scan_of}
use Rattle.evidence_codec.proofs.ReaderLemmas.{as_step, scanned-next}
use Rattle.evidence_codec.proofs.reader.Reader.take.Goals as goal

pub returns-clause-scanned : goal.returns-clause-scanned
returns-clause-scanned c = λ either bytes heads s.
    let same : c.forget.new.self.either ≡ either = c.forget.ensures.either ∙ s.reads in
    let stepped : step either (scan_of c.args.self.now) c.args.byte ≡ as_step (given c.step.new.self) (scan_of c.step.new.self) =
    sym (ap₂ (λ (b : Bool) (x : Scan). step b x c.args.byte) same c.forget.ensures.scan) ∙ c.step.ensures.stepped in
    record {
      reads = c.step.ensures.either ∙ same;
      came = scanned-next either bytes c.args.byte heads (given c.step.new.self) (scan_of c.args.self.now) (scan_of c.step.new.self) s.came stepped;
    }

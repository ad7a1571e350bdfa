-- A byte ends a head, or none.
use Rattle.std.proofs.Common.{true, refl, arith}
use Rattle.evidence_types.specs.Heads.{head_of}
use Rattle.evidence_codec.specs.Decoding.{given}
use Rattle.evidence_codec.proofs.ReaderLemmas.{on_ok}
use Rattle.stream_appraiser.proofs.FedLemmas.{fed_byte, fed_head}
use Rattle.stream_appraiser.proofs.stream.StreamAppraiser.take.Goals as goal

pub returns-in-Some-clause-fed : goal.returns-in-Some-clause-fed
returns-in-Some-clause-fed c =
    on_ok c.take-in-Some.result c.take-in-Some.ensures.stands (λ next places basis shape bytes fed.
    fed_head places basis shape bytes c.args.byte (head_of c.in-Some.head) (given c.take.new.self) c.args.self.now _ refl (omega arith) c.in-Some.ensures.head (λ read scanned. c.take.ensures.scanned true bytes read scanned) next fed)

pub returns-in-None-clause-fed : goal.returns-in-None-clause-fed
returns-in-None-clause-fed c = λ places basis shape bytes fed.
    fed_byte places basis shape bytes c.args.byte (given c.take.new.self) c.args.self.now _ refl refl (omega arith) c.in-None.ensures.head (λ read scanned. c.take.ensures.scanned true bytes read scanned) fed

use Rattle.evidence_codec.specs.Decoding.{open_of, opens_of}
use Rattle.evidence_codec.proofs.BuildLemmas.{opens-push}
use Rattle.evidence_codec.proofs.nodes.begin.Goals as goal

pub returns-in-Ok : goal.returns-in-Ok
returns-in-Ok c = rw c.in-Ok.ensures (opens-push (opens_of c.args.nodes.now.items) (open_of c.args.node))

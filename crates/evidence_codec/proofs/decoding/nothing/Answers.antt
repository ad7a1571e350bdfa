use Rattle.evidence_codec.proofs.BuildLemmas.{builds-first}
use Rattle.evidence_codec.proofs.decoding.nothing.Goals as goal

pub returns : goal.returns
returns c = record { builds = rw c.new.ensures.items builds-first; marks = c.new-2.ensures.items }

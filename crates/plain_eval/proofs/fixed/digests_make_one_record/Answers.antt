-- The bench's relations are fixed, whichever value of it measures.
use Rattle.bench_trait.specs.declared.digest.DigestBench.{DigestBench}
use Rattle.plain_eval.proofs.fixed.digests_make_one_record.Goals as goal

pub returns : goal.returns
returns c = λ artefacts session keys one other.
    let bench : DigestBench = record {} in
    c.fixed_bench_makes_one_record.ensures bench artefacts session keys one other (c.digests_are_fixed.ensures artefacts)

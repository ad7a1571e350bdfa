-- The bytes are one job, and over digests the records of its sessions are alike.
use Rattle.std.proofs.Common.{subst}
use Rattle.job_reader.specs.Finding.{JobView, accepted}
use Rattle.copland_cli.specs.Attested.{IsOfAttestations}
use Rattle.copland_cli.specs.Digests.{DigestFails, DigestGives, DigestStarves}
use Rattle.copland_cli.proofs.AlikeLemmas.{differ_in_traces, of_walk_too}
use Rattle.copland_cli.proofs.FunctionLemmas.{same_job}
use Rattle.copland_cli.proofs.laws.attested_reports_differ_in_traces.Goals as goal

pub returns : goal.returns
returns c = record {
  attest = λ workers others job other text written ending ended one two h k.
      differ_in_traces job text written ending ended h
      (subst (λ (j : JobView). IsOfAttestations DigestGives DigestFails j written ended) (same_job job other (c.one_finding.ensures (accepted job) (accepted other) one two)) k);
  walk = λ number workers job other text written ending ended one two h k.
      differ_in_traces job text written ending ended (of_walk_too DigestGives DigestFails DigestStarves job number text ending h)
      (subst (λ (j : JobView). IsOfAttestations DigestGives DigestFails j written ended) (same_job job other (c.one_finding.ensures (accepted job) (accepted other) one two)) k);
}

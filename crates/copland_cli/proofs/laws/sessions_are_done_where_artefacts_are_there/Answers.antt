use Rattle.copland_cli.proofs.AlikeLemmas.{of_attestations}
use Rattle.copland_cli.proofs.DigestLemmas.{of_values, of_walk}
use Rattle.copland_cli.proofs.laws.sessions_are_done_where_artefacts_are_there.Goals as goal

pub returns : goal.returns
returns c = record {
  eval = λ job text ending h. of_values job text ending h;
  walk = λ number job text ending h. of_walk job number text ending h;
  attest = λ workers job text ending h. of_attestations job text ending h;
}

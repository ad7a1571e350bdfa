use Rattle.session_runs.proofs.PrefixLaws.{stands_before, legal_before}
use Rattle.session_runs.proofs.prefixes.prefix_law.Goals as goal

pub returns : goal.returns
returns g c = record {
  stands = stands_before;
  legal = λ session keys history more later some legal. legal_before _ _ _ session keys history more later some legal;
}

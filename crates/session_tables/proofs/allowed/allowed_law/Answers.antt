use Rattle.session_tables.proofs.Allowances.{run_allowed, delivery_allowed, answer_allowed}
use Rattle.session_tables.proofs.allowed.allowed_law.Goals as goal

pub returns : goal.returns
returns c = record {
  runs = λ session keys history standing tables name played still. run_allowed session keys history standing tables played name still;
  delivers = λ session keys history standing tables place played. delivery_allowed session keys history standing tables played place;
  answers = λ session keys history standing tables event pass name bytes played still flies short. answer_allowed session keys history standing tables played event pass name bytes still flies short;
}

use Rattle.order_policy.proofs.OnceLaws.{judgements_once}
use Rattle.order_policy.proofs.laws.judged_law.Goals as goal

pub returns : goal.returns
returns c = judgements_once

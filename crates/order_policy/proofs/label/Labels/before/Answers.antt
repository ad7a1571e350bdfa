use Rattle.order_policy.proofs.LabelLaws.{tells_of_labels}
use Rattle.order_policy.proofs.label.Labels.before.Goals as goal

pub returns : goal.returns
returns c = tells_of_labels c.args.self.now c.args.first c.args.second c.is_less.result c.is_less.ensures

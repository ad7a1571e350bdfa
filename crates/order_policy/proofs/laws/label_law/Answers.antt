use Rattle.order_policy.proofs.LabelLaws.{firsts_are, order_by_labels}
use Rattle.order_policy.proofs.laws.label_law.Goals as goal

pub returns-clause-numbers : goal.returns-clause-numbers
returns-clause-numbers c = firsts_are

pub returns-clause-order : goal.returns-clause-order
returns-clause-order c = order_by_labels

-- A judgement for each claim, and few of these.
use Rattle.std.proofs.Common.{arith}
use Rattle.phrase_tree.specs.Term.{term}
use Rattle.order_policy.specs.Judged.{IsJudged}
use Rattle.copland_cli.proofs.OrderLemmas.{as_many}
use Rattle.copland_cli.proofs.order.push_found.Goals as goal

pub push_judgements-requires : goal.push_judgements-requires
push_judgements-requires c =
    omega (arith, c.requires, as_many (IsJudged (term c.phrase.result.now) c.root.result) c.args.policy.now c.in_ok-found.found c.in_ok-found.ensures.judged)

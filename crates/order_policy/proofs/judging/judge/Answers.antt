use Rattle.std.proofs.Common.{◌∙◌}
use Rattle.phrase_tree.specs.Term.{term}
use Rattle.order_policy.proofs.JudgedLaws.{answers_judged, answers_exactly}
use Rattle.order_policy.proofs.MeasuredLaws.{few_labels, few_measured}
use Rattle.order_policy.proofs.judging.judge.Goals as goal

pub judge_all-requires-clause-labels : goal.judge_all-requires-clause-labels
judge_all-requires-clause-labels c = few_labels (term c.args.phrase.now) c.in_ok-labels.labels c.requires c.in_ok-labels.ensures

pub judge_all-requires-clause-measured : goal.judge_all-requires-clause-measured
judge_all-requires-clause-measured c =
    few_measured (term c.args.phrase.now) c.args.root c.deref.result.now c.requires (c.deref.ensures.value ∙ c.in_ok-measured.ensures)

pub returns-clause-judged : goal.returns-clause-judged
returns-clause-judged c =
    answers_judged (term c.args.phrase.now) c.args.root c.args.policy.now c.claims.result.now c.in_ok-labels.labels c.deref.result.now c.judge_all.result c.requires c.in_ok-labels.ensures (c.deref.ensures.value ∙ c.in_ok-measured.ensures) c.claims.ensures c.judge_all.ensures

pub returns-clause-exactly : goal.returns-clause-exactly
returns-clause-exactly c =
    answers_exactly (term c.args.phrase.now) c.args.root c.args.policy.now c.claims.result.now c.in_ok-labels.labels c.deref.result.now c.judge_all.result c.requires c.in_ok-labels.ensures (c.deref.ensures.value ∙ c.in_ok-measured.ensures) c.claims.ensures c.judge_all.ensures

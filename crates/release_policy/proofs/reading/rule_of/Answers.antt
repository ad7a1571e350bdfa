use Rattle.release_policy.proofs.RuleLemmas.{no_first, no_second, no_third, rule_read}
use Rattle.release_policy.proofs.reading.rule_of.Goals as goal

pub returns-in-None : goal.returns-in-None
returns-in-None c = no_first c.args.text.now c.in-None.ensures

pub returns-in-None-cut : goal.returns-in-None-cut
returns-in-None-cut c =
    no_second c.args.text.now c.in-Some.pair.0.now c.in-Some.pair.1.now c.in-Some.ensures c.in-None-cut.ensures

pub returns-in-None-cut-2 : goal.returns-in-None-cut-2
returns-in-None-cut-2 c =
    no_third c.args.text.now c.in-Some.pair.0.now c.in-Some.pair.1.now c.in-Some-cut.pair.0.now c.in-Some-cut.pair.1.now c.in-Some.ensures c.in-Some-cut.ensures c.in-None-cut-2.ensures

pub returns : goal.returns
returns c =
    rule_read c.args.text.now c.in-Some.pair.0.now c.in-Some.pair.1.now c.in-Some-cut.pair.0.now c.in-Some-cut.pair.1.now c.in-Some-cut-2.pair.0.now c.in-Some-cut-2.pair.1.now c.rule_with.result c.in-Some.ensures c.in-Some-cut.ensures c.in-Some-cut-2.ensures c.rule_with.ensures

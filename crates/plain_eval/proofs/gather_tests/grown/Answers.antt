-- A leaf behind the phrase adds at most a bracket.
use Rattle.phrase_tree.specs.Term.{term}
use Rattle.plain_eval.proofs.NestingLemmas.{made_chain, made_seq, made_par}
use Rattle.plain_eval.proofs.gather_tests.grown.Goals as goal

pub returns-in-4-clause-nesting : goal.returns-in-4-clause-nesting
returns-in-4-clause-nesting g c =
    made_seq c.in_sequence.result _ (term c.args.phrase) (term c.args.leaf) c.requires c.in_sequence.ensures

pub returns-in-6-clause-nesting : goal.returns-in-6-clause-nesting
returns-in-6-clause-nesting g c =
    made_par c.in_parallel.result _ (term c.args.phrase) (term c.args.leaf) c.requires c.in_parallel.ensures

pub returns-in-1-clause-nesting : goal.returns-in-1-clause-nesting
returns-in-1-clause-nesting g c =
    made_chain c.then-in-1.result (term c.args.phrase) (term c.args.leaf) c.requires c.then-in-1.ensures

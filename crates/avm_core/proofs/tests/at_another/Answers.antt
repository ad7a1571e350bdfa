use Rattle.std.proofs.Common.{[]}
use Rattle.phrase_tree.specs.Term.{term, at}
use Rattle.avm_core.proofs.tests.at_another.Goals as goal

pub returns-clause-child : goal.returns-clause-child
returns-clause-child g c = λ place. record {
  one = _;
  others = [];
  there = (c.phrases_have_blocks.ensures (at c.name-2.result (term c.in_ok-new-3.field-0.value)) place).0;
}

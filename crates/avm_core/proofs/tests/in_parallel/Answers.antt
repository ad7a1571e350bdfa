use Rattle.std.proofs.Common.{[], true, false}
use Rattle.phrase_tree.specs.Term.{term, par}
use Rattle.avm_core.proofs.tests.in_parallel.Goals as goal

pub returns-clause-child : goal.returns-clause-child
returns-clause-child g c = λ place. record {
  one = _;
  others = [];
  there = (c.phrases_have_blocks.ensures (par (record { left = false; right = true }) (term c.in_ok-new.field-0.value) (term c.in_ok-new-2.field-0.value)) place).0;
}

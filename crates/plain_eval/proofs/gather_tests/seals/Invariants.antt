-- The chain so far needs no brackets, and has one event for each seal.
use Rattle.std.proofs.Common.{◌≡◌, ◌+◌, false}
use Rattle.phrase_tree.specs.Term.{term, is_branch}
use Rattle.phrase_tree.specs.Numbering.{depth, event_count}
use Rattle.plain_eval.proofs.gather_tests.seals.Given as goal

abbrev pub invariant-loop-count : goal.invariant-loop-count
invariant-loop-count l = record {
  no_branch : is_branch (term l.phrase) ≡ false;
  flat : depth (term l.phrase) ≡ 0;
  events : event_count (term l.phrase) ≡ l.count + 1;
}

-- The phrase so far has an event for each part, and a bracket for each request.
use Rattle.std.proofs.Common.{◌≡◌, ◌+◌, ◌*◌, false}
use Rattle.phrase_tree.specs.Term.{term, is_branch}
use Rattle.phrase_tree.specs.Numbering.{event_count, depth}
use Rattle.plain_eval.proofs.gather_tests.copies.Given as goal

abbrev pub invariant-loop-count : goal.invariant-loop-count
invariant-loop-count g l = record {
  counted : event_count (term l.phrase) ≡ 1 + l.count;
  flat : depth (term l.phrase) ≡ 0;
  no_branch : is_branch (term l.phrase) ≡ false;
}

abbrev pub invariant-loop-open : goal.invariant-loop-open
invariant-loop-open g l = record {
  counted : event_count (term l.phrase) ≡ 1 + l.fn.more + 4 * l.open;
  nested : depth (term l.phrase) ≡ 2 * l.open;
}

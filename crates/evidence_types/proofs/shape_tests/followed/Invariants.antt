-- The phrase so far is no branch, nests at most once, and has at most four events for each part.
use Rattle.std.proofs.Common.{◌≡◌, ◌≤◌, ◌+◌, ◌*◌, false}
use Rattle.phrase_tree.specs.Term.{term, is_branch}
use Rattle.phrase_tree.specs.Numbering.{depth, event_count}
use Rattle.evidence_types.proofs.shape_tests.followed.Given as goal

abbrev pub invariant-loop-count : goal.invariant-loop-count
invariant-loop-count g l = record {
  no_branch : is_branch (term l.phrase) ≡ false;
  flat : depth (term l.phrase) ≤ 1;
  few : event_count (term l.phrase) ≤ event_count (term l.fn.first) + 4 * l.count;
}

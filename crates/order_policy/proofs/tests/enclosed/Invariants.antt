-- The phrase so far has an event for each part, and a bracket for each request.
use Rattle.std.proofs.Common.{◌≡◌, ◌+◌, ◌*◌, false}
use Rattle.phrase_tree.specs.Term.{term, is_branch}
use Rattle.phrase_tree.specs.Numbering.{event_count, depth}
use Rattle.order_policy.proofs.tests.enclosed.Given as goal

abbrev pub invariant-loop-sealed : goal.invariant-loop-sealed
invariant-loop-sealed l = record {
  counted : event_count (term l.phrase) ≡ 1 + l.sealed;
  flat : depth (term l.phrase) ≡ 0;
  no_branch : is_branch (term l.phrase) ≡ false;
}

abbrev pub invariant-loop-open : goal.invariant-loop-open
invariant-loop-open l = record {
  counted : event_count (term l.phrase) ≡ 1 + l.fn.seals + 2 * l.open;
  nested : depth (term l.phrase) ≡ l.open;
}

-- The phrase so far grew by at most four events and two brackets at a time.
use Rattle.std.proofs.Common.{◌≤◌, ◌+◌, ◌*◌}
use Rattle.phrase_tree.specs.Term.{term}
use Rattle.phrase_tree.specs.Numbering.{event_count, depth}
use Rattle.plain_eval.proofs.gather_tests.drawn_phrase.Given as goal

abbrev pub invariant-loop-step : goal.invariant-loop-step
invariant-loop-step g l = record {
  counted : event_count (term l.phrase) ≤ 1 + 4 * l.step;
  nested : depth (term l.phrase) ≤ 2 * l.step;
}

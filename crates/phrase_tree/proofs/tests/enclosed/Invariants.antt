use Rattle.std.proofs.Common.{◌≡◌, ◌+◌, ◌*◌}
use Rattle.phrase_tree.specs.Term.{term}
use Rattle.phrase_tree.specs.Numbering.{event_count}
use Rattle.phrase_tree.proofs.tests.enclosed.Given as goal

abbrev pub invariant-loop-sealed : goal.invariant-loop-sealed
invariant-loop-sealed l = event_count (term l.phrase) ≡ 1 + l.sealed

abbrev pub invariant-loop-open : goal.invariant-loop-open
invariant-loop-open l = event_count (term l.phrase) ≡ 1 + l.fn.seals + 2 * l.open

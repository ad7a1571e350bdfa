-- The artefacts so far, and what is drawn from next.
use Rattle.std.proofs.Common.{◌≡◌}
use Rattle.load_maker.specs.Artefacts.{made_artefacts}
use Rattle.load_maker.proofs.artefacts.made_artefacts.Given as goal

abbrev pub invariant-loop-number : goal.invariant-loop-number
invariant-loop-number l = record {
  artefacts : l.book ≡ (made_artefacts l.number l.fn.draws).thing;
  from : l.draws ≡ (made_artefacts l.number l.fn.draws).from;
}

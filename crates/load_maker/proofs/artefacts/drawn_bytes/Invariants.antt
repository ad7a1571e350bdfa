-- The bytes so far, and what is drawn from next.
use Rattle.std.proofs.Common.{◌≡◌}
use Rattle.load_maker.specs.Artefacts.{drawn_bytes}
use Rattle.load_maker.proofs.artefacts.drawn_bytes.Given as goal

abbrev pub invariant-loop : goal.invariant-loop
invariant-loop l = record {
  bytes : l.bytes.items ≡ (drawn_bytes l.counter l.fn.draws).thing;
  from : l.draws ≡ (drawn_bytes l.counter l.fn.draws).from;
}

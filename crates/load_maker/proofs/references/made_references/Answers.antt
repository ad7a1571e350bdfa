-- No reference stands twice.
use Rattle.std.proofs.Common.{length, ap, arith}
use Rattle.load_maker.proofs.ReferenceLemmas.{never_repeated, references_length}
use Rattle.load_maker.proofs.references.made_references.Goals as goal

pub of-requires : goal.of-requires
of-requires c = omega (arith, ap length c.in_ok-entries.ensures, references_length c.args.artefacts.now)

pub unreachable-requires : goal.unreachable-requires
unreachable-requires c =
    never_repeated c.args.artefacts.now c.in_ok-entries.entries.items c.of.result c.in-Err-Repeated.field-0 c.in_ok-entries.ensures c.of.ensures c.in-Err-Repeated.is

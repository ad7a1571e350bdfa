-- No two places have one name.
use Rattle.std.proofs.Common.{length, ap, arith}
use Rattle.load_maker.proofs.PlaceLemmas.{never_repeated, places_length}
use Rattle.load_maker.proofs.places.made_places.Goals as goal

pub of-requires : goal.of-requires
of-requires c = omega (arith, ap length c.in_ok-entries.ensures, places_length)

pub unreachable-requires : goal.unreachable-requires
unreachable-requires c =
    never_repeated c.in_ok-entries.entries.items c.of.result c.in-Err-Repeated.field-0 _ _ c.in_ok-entries.ensures c.of.ensures c.in-Err-Repeated.is c.in-Err-Repeated.field-0-is

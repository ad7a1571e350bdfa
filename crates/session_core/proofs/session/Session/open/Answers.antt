use Rattle.std.proofs.Common.{refl}
use Rattle.session_core.proofs.SessionFacts.{opened_so, no_items}
use Rattle.session_core.proofs.session.Session.open.Goals as goal

pub invariant_of-result : goal.invariant_of-result
invariant_of-result g c =
    opened_so _ g.B.Bench.gives g.B.Bench.fails g.B.Bench.starves (record { checked = c.args.checked; places = c.args.places; artefacts = c.args.artefacts; bench = c.args.bench }) c.in_ok-core.core c.in_ok-core.ensures.core c.in_ok-core.ensures.adds c.phrase_is_sized.ensures

pub returns : goal.returns
returns g c = record {
  of_checked = refl;
  of_places = refl;
  of_artefacts = refl;
  of_bench = refl;
  items = no_items c.in_ok-core.core.book c.in_ok-core.ensures.adds;
}

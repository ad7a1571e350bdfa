use Rattle.std.proofs.Common.{◌≡◌, sym, ap, ◌∙◌}
use Rattle.std.specs.Prelude.{Some}
use Rattle.std.specs.Option.{option_map}
use Rattle.machine_world.specs.Cells.{block_of}
use Rattle.session_book.specs.Kept.{flight_of}
use Rattle.session_core.specs.Core.{history_in, tables_in}
use Rattle.session_core.proofs.SessionFacts.{core_of}
use Rattle.session_core.proofs.session.run_tests.asker.Goals as goal

pub returns-in-Some : goal.returns-in-Some
returns-in-Some g c =
    let core = c.session.inside.core in
    let legal = c.legal.ensures in
    let at = core_of _ g.B.Bench.gives g.B.Bench.fails g.B.Bench.starves c.session.inside.opened core _ legal.0 c.session.invariant c.session.view_is legal.1.stands in
    let there : (tables_in core).in_flight c.args.event ≡ Some (c.in-Some.flight.pass, block_of c.in-Some.flight.name) =
    sym (c.flight.ensures core.world.store.values) ∙ ap (option_map flight_of) c.in-Some.is in
    record {
      standing = legal.0;
      stands = legal.1.stands;
      flies = (c.results_law.ensures.flies _ _ (history_in core) legal.0 (tables_in core) c.in-Some.flight.pass c.args.event at.played.played).1 (record { name = block_of c.in-Some.flight.name; there = there });
    }

use Rattle.std.proofs.Common.{◌≡◌, ℕ, sym, ap, ◌∙◌}
use Rattle.std.specs.Prelude.{Option, Some}
use Rattle.std.specs.Option.{option_map}
use Rattle.std.proofs.lemmas.Bool.{eqb-true}
use Rattle.session_runs.specs.Standing.{Block}
use Rattle.machine_world.specs.Cells.{block_of}
use Rattle.session_book.specs.Kept.{flight_of}
use Rattle.session_core.specs.Core.{history_in, tables_in}
use Rattle.session_core.proofs.tests.is_awaited.Goals as goal

pub returns-in-Some : goal.returns-in-Some
returns-in-Some c = λ same.
    let r = c.requires in
    let core = c.args.core.now in
    let name = block_of c.in-Some.flight.name in
    let there : (tables_in core).in_flight c.args.event ≡ Some (c.args.pass, name) =
    sym (c.flight.ensures core.world.store.values)
    ∙ ap (option_map flight_of) c.in-Some.is
    ∙ ap (λ (n : ℕ). let o : Option (ℕ × Block) = Some (n, name) in o) (eqb-true c.in-Some.flight.pass c.args.pass same) in
    record {
      session = r.0;
      keys = r.1;
      places = r.2;
      standing = r.3.0;
      is = r.3.1;
      flies = (c.results_law.ensures.flies r.0 r.1 (history_in core) r.3.0 (tables_in core) c.args.pass c.args.event r.3.1.played.played).1 (record { name = name; there = there });
    }

use Rattle.std.proofs.Common.{ℕ, Option, sym, ap, ◌∙◌}
use Rattle.std.specs.Option.{option_map}
use Rattle.session_runs.specs.Standing.{Block}
use Rattle.machine_tables.specs.Tables.{next_unless, is_asked}
use Rattle.session_book.specs.Kept.{flight_of}
use Rattle.session_core.proofs.steps.Core.task_of_ask.Goals as goal

pub returns-in-None : goal.returns-in-None
returns-in-None c =
    ap (λ (o : Option (ℕ × Block)). next_unless (is_asked o) c.args.event) (sym (c.flight.ensures c.args.self.now.world.store.values) ∙ ap (option_map flight_of) c.in-None.is)

pub returns-in-Some : goal.returns-in-Some
returns-in-Some c =
    ap (λ (o : Option (ℕ × Block)). next_unless (is_asked o) c.args.event) (sym (c.flight.ensures c.args.self.now.world.store.values) ∙ ap (option_map flight_of) c.in-Some.is)

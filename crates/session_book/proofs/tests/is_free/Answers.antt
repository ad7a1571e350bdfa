use Rattle.std.proofs.Common.{[], sym, ap, ◌∙◌}
use Rattle.std.specs.Option.{option_map}
use Rattle.session_book.specs.Kept.{flight_of}
use Rattle.session_book.proofs.tests.is_free.Goals as goal

pub returns-in-None : goal.returns-in-None
returns-in-None c = λ free. sym (c.flight.ensures []) ∙ ap (option_map flight_of) c.in-None.is

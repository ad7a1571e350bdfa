use Rattle.checked_sessions.proofs.NameLemmas.{names_apart}
use Rattle.checked_sessions.proofs.laws.places_are_apart.Goals as goal

pub returns : goal.returns
returns c = names_apart c.args.places.now c.items.ensures.distinct

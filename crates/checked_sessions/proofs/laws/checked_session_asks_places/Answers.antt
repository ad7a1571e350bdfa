use Rattle.phrase_tree.specs.Term.{term}
use Rattle.checked_sessions.proofs.NameLemmas.{asks_only}
use Rattle.checked_sessions.proofs.laws.checked_session_asks_places.Goals as goal

pub returns : goal.returns
returns c = asks_only c.args.places.now (term c.args.checked.now.phrase) c.args.checked.now.root 0 c.checked_session_has_keys.ensures

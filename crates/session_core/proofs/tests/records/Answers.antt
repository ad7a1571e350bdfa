use Rattle.place_check.specs.Places.{keys_of}
use Rattle.session_core.proofs.tests.records.Goals as goal

pub returns : goal.returns
returns c = (c.requires.0, c.requires.1, c.record.ensures.core (keys_of c.args.places.now) c.requires.0 c.requires.1 c.requires.2)

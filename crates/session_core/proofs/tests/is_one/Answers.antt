use Rattle.place_check.specs.Places.{keys_of}
use Rattle.session_core.proofs.tests.is_one.Goals as goal

pub returns : goal.returns
returns c = (c.requires.0, keys_of c.args._places.now, c.requires.1, c.requires.2)

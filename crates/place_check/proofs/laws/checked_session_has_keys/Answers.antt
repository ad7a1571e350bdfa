-- A phrase that breaks no rule asks places alone, and each place has its key.
use Rattle.place_check.specs.Session.{session_of}
use Rattle.place_check.proofs.KeyLemmas.{session-has-keys}
use Rattle.place_check.proofs.laws.checked_session_has_keys.Goals as goal

pub returns : goal.returns
returns c = session-has-keys (session_of c.args._checked.now) c.args._places.now c.requires

use Rattle.place_check.specs.Session.{session_of}
use Rattle.checked_sessions.specs.Named.{place_names}
use Rattle.session_core.proofs.tests.opened.Goals as goal

pub returns-in-Ok : goal.returns-in-Ok
returns-in-Ok c = (session_of c.args.checked.now, place_names c.args.places.now, c.in-Ok.ensures.core)

-- It is still a core of a session with these keys.
use Rattle.place_check.specs.Places.{keys_of}
use Rattle.session_core.specs.Core.{IsCore}
use Rattle.session_core.specs.Reading.{ForSomeWith}
use Rattle.session_core.proofs.tests.all_come_so.Given as goal

abbrev pub invariant-loop-trial : goal.invariant-loop-trial
invariant-loop-trial g l = ForSomeWith (keys_of l.places) IsCore l.core

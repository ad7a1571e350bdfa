-- It is still a core of a session with these keys.
use Rattle.place_check.specs.Places.{keys_of}
use Rattle.session_core.specs.Core.{IsCore}
use Rattle.session_core.specs.Reading.{ForSomeWith}
use Rattle.session_core.proofs.tests.in_order.Given as goal

abbrev pub invariant-loop-step : goal.invariant-loop-step
invariant-loop-step g l = ForSomeWith (keys_of l.places) IsCore l.core

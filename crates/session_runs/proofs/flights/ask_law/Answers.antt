use Rattle.session_runs.proofs.FlightLaws.{history_asks}
use Rattle.session_runs.proofs.flights.ask_law.Goals as goal

pub returns : goal.returns
returns c = history_asks

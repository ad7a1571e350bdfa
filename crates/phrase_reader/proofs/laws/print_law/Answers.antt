use Rattle.phrase_reader.proofs.RoundTrip.{round_trip}
use Rattle.phrase_reader.proofs.laws.print_law.Goals as goal

pub returns : goal.returns
returns c = round_trip

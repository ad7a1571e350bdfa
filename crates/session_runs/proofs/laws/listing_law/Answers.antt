use Rattle.session_runs.proofs.ListingLaws.{history_lists, history_ready}
use Rattle.session_runs.proofs.laws.listing_law.Goals as goal

pub returns : goal.returns
returns c = record { listed = history_lists; ready = history_ready }

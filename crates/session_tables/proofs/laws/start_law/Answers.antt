use Rattle.session_tables.proofs.Freshness.{delivery_fresh, fork_fresh}
use Rattle.session_tables.proofs.laws.start_law.Goals as goal

pub returns : goal.returns
returns c = record { delivered = delivery_fresh; forked = fork_fresh }

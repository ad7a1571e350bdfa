use Rattle.session_tables.proofs.TouchBlocks.{run_touches, delivery_touches}
use Rattle.session_tables.proofs.touches.touches_law.Goals as goal

pub returns : goal.returns
returns c = record { runs = run_touches; delivered = delivery_touches }

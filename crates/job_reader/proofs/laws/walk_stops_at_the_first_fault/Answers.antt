-- The list and the walk go over the tree in one order.
use Rattle.job_reader.proofs.FaultLemmas.{first_fault}
use Rattle.job_reader.proofs.laws.walk_stops_at_the_first_fault.Goals as goal

pub returns : goal.returns
returns c = first_fault c.args._appraise

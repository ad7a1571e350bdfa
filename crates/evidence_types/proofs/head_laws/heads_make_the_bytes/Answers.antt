use Rattle.evidence_types.proofs.HeadLemmas.{joined-plain, joined-marked, unmarked, marks-in_order}
use Rattle.evidence_types.proofs.head_laws.heads_make_the_bytes.Goals as goal

pub returns-clause-plain : goal.returns-clause-plain
returns-clause-plain c = joined-plain

pub returns-clause-marked : goal.returns-clause-marked
returns-clause-marked c = joined-marked

pub returns-clause-unmarked : goal.returns-clause-unmarked
returns-clause-unmarked c = unmarked

pub returns-clause-in_order : goal.returns-clause-in_order
returns-clause-in_order c = marks-in_order

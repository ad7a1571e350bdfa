use Rattle.wire_manager.proofs.StageLemmas.{move_changes, answer_changes}
use Rattle.wire_manager.proofs.laws.stage_law.Goals as goal

pub returns-clause-played : goal.returns-clause-played
returns-clause-played c = move_changes

pub returns-clause-answered : goal.returns-clause-answered
returns-clause-answered c = answer_changes

use Rattle.wire_frames.proofs.PieceLemmas.{one_way, joined}
use Rattle.wire_frames.proofs.laws.pieces_law.Goals as goal

pub returns-clause-one : goal.returns-clause-one
returns-clause-one c = one_way

pub returns-clause-joined : goal.returns-clause-joined
returns-clause-joined c = joined

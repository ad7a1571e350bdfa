-- A question has an answer exactly where its artefact is there.
use Rattle.plain_eval.proofs.FixedLemmas.{done_where}
use Rattle.plain_eval.proofs.fixed.done_where_artefacts_are_there.Goals as goal

pub returns : goal.returns
returns c = done_where

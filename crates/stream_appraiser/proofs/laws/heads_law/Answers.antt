use Rattle.stream_appraiser.proofs.RunLemmas.{value_found, value_misfit}
use Rattle.stream_appraiser.proofs.laws.heads_law.Goals as goal

pub returns-clause-misfit : goal.returns-clause-misfit
returns-clause-misfit c = value_misfit

pub returns-clause-verdicts : goal.returns-clause-verdicts
returns-clause-verdicts c = value_found

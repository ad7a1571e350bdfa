use Rattle.appraiser.proofs.FitLemmas.{fits_with, marks_fit, no_misfit}
use Rattle.appraiser.proofs.laws.fits_law.Goals as goal

pub returns-clause-fits : goal.returns-clause-fits
returns-clause-fits c = λ places value marks shape h. (fits_with places value marks shape h, no_misfit places value marks shape)

pub returns-clause-marked : goal.returns-clause-marked
returns-clause-marked c = marks_fit

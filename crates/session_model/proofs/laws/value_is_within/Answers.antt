use Rattle.session_model.proofs.AmountLemmas.{value_fits_bundle}
use Rattle.session_model.proofs.laws.value_is_within.Goals as goal

pub returns-clause-bundle : goal.returns-clause-bundle
returns-clause-bundle c = value_fits_bundle

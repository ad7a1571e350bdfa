use Rattle.plain_eval.proofs.BundleLemmas.{value_fits}
use Rattle.plain_eval.proofs.laws.value_fits_bundle.Goals as goal

pub returns : goal.returns
returns c = value_fits

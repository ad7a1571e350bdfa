use Rattle.stream_appraiser.proofs.UpgradeLemmas.{upgrade_fits}
use Rattle.stream_appraiser.proofs.laws.upgrade_law.Goals as goal

pub returns : goal.returns
returns c = upgrade_fits

use Rattle.session_tables.proofs.LightBlocks.{next_fits, asking_shown, answered_fits}
use Rattle.session_tables.proofs.light.fits_law.Goals as goal

pub returns : goal.returns
returns c = record { made = next_fits; asked = asking_shown; answered = answered_fits }

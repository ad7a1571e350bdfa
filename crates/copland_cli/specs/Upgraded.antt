-- What an upgrade keeps.
use Rattle.std.specs.Prelude.{◌≡◌, ◌↔◌, ℕ, List, Some}
use Rattle.job_reader.specs.Finding.{JobView}
use Rattle.job_reader.specs.declared.accepted.BundleIn.{BundleIn}
use Rattle.report_text.specs.Verdicts.{upgrade_text}
use Rattle.report_text.specs.declared.refusal.Refusal.{Refusal}
use Rattle.copland_cli.specs.Appraised.{HasNoVerdicts, IsOfUpgrade, IsOfVerdicts}
use Rattle.copland_cli.specs.declared.ending.Ending.{Ending}

-- the job with another bundle
abbrev pub with_bundle : JobView → BundleIn → JobView
with_bundle job bundle = record {
  places = job.places;
  artefacts = job.artefacts;
  sessions = job.sessions;
  references = job.references;
  bundle = Some bundle;
}

-- the text is the report of a bundle. The job with this bundle in place of its own has the same verdicts, is
-- refused them for the same reason, and is upgraded to the same bundle
pub record IsUpgraded (job : JobView) (text : List ℕ) : Type 0 where
  pub bundle : BundleIn
  pub reported : text ≡ upgrade_text bundle.session bundle.bytes
  pub verdicts : (report : List ℕ) (ending : Ending) → IsOfVerdicts job report ending ↔ IsOfVerdicts (with_bundle job bundle) report ending
  pub refusals : (why : Refusal) → HasNoVerdicts job why ↔ HasNoVerdicts (with_bundle job bundle) why
  pub again : (report : List ℕ) (ending : Ending) → IsOfUpgrade (with_bundle job bundle) report ending → report ≡ text

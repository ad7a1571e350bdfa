-- The bundle of a job as the code holds it, and what the code knows of it.
use Rattle.std.specs.Prelude.{◌≡◌, ◌≤◌, ◌⊎◌, ℕ, List, None, Result, Ok, Err, length}
use Rattle.evidence_types.specs.Bundle.{IsEitherBundleOf, IsMarkedBundleOf}
use Rattle.evidence_types.specs.Evidence.{Evidence, evidence}
use Rattle.evidence_types.specs.Shape.{Form}
use Rattle.evidence_codec.specs.declared.decoding.Decoded.{Decoded}
use Rattle.place_check.specs.Session.{IsBounded, SessionHasKeys, session_of}
use Rattle.place_check.specs.Places.{keys_of}
use Rattle.place_check.specs.declared.entry.PlaceEntry.{PlaceEntry}
use Rattle.appraiser.specs.Expected.{Basis}
use Rattle.appraiser.specs.Fit.{AreMarksOf, misfit}
use Rattle.appraiser.specs.Verdicts.{verdicts}
use Rattle.appraiser.specs.declared.verdict.Verdict.{Verdict}
use Rattle.stream_appraiser.specs.Stream.{IsFound}
use Rattle.job_reader.specs.Finding.{JobView}
use Rattle.report_text.specs.declared.refusal.Refusal.{Refusal}
use Rattle.report_text.specs.declared.refusal.Refusal.TheVariants.{NoMemory}
use Rattle.copland_cli.specs.Appraised.{HasNoValue, HasOffer, Offer, SaysVerdicts}
use Rattle.copland_cli.specs.declared.ending.Ending.{Ending}
use Rattle.copland_cli.specs.declared.input.BundleNeed.{BundleNeed}
use Rattle.copland_cli.specs.declared.input.BundleNeed.TheVariants.{Optional, Required}
use Rattle.copland_cli.specs.declared.input.Input.{Input}
use Rattle.copland_cli.specs.declared.input.Input.TheVariants.{Nothing, Job}
use Rattle.copland_cli.specs.declared.offer.Offered.{Offered}

-- what it is
abbrev pub offer_of : Offered → Offer
offer_of offered = record { bundle = offered.bundle.now; session = session_of offered.checked.now }

-- a job that must have a bundle has one of one of its sessions, and few places
pub record IsForAppraisal (job : JobView) : Type 0 where
  pub offer : HasOffer job
  pub few : length job.places ≤ 64

abbrev pub HasNeeded : BundleNeed → JobView → Type 0
HasNeeded Optional job = Unit {0}
HasNeeded Required job = IsForAppraisal job

abbrev pub HasNeededBy : Input → JobView → Type 0
HasNeededBy Nothing job = ⊥
HasNeededBy (Job need) job = HasNeeded need job

-- the session is within the limits, and each of its events happens at a place that has a key
pub record IsRunnableOffer (places : List PlaceEntry) (offer : Offer) : Type 0 where
  pub bounded : IsBounded offer.session.phrase
  pub keyed : SessionHasKeys offer.session (keys_of places)

-- there was no memory, or else this
abbrev pub StarvedOr : (Refusal → Type 0) → Refusal → Type 0
StarvedOr Refuses why = (why ≡ NoMemory) ⊎ Refuses why

-- the verdicts of the value whose bundle bytes are, and which fits a shape; or why there is none
abbrev pub IsJudged : List PlaceEntry → Basis → List ℕ → Form → Result (List Verdict) Refusal → Type 0
IsJudged places basis bytes shape (Ok found) = (is : IsFound places bytes shape None) × (found ≡ verdicts basis is.value shape)
IsJudged places basis bytes shape (Err why) = StarvedOr (HasNoValue places bytes shape) why

-- the report of such verdicts on the bundle of the session of a number
abbrev pub IsReported : List PlaceEntry → Basis → List ℕ → Form → ℕ → List ℕ → Ending → Type 0
IsReported places basis bytes shape number text ending =
    (is : IsFound places bytes shape None) × SaysVerdicts number (verdicts basis is.value shape) text ending

-- bytes are the bundle of what was decoded, which fits
pub record IsDecodedFrom (places : List PlaceEntry) (bytes : List ℕ) (shape : Form) (found : Decoded) : Type 0 where
  pub bundle : IsEitherBundleOf bytes (evidence found.value) found.marks
  pub fits : misfit places (evidence found.value) found.marks shape ≡ None

-- bytes are the bundle of version 2 of a value with the marks of a shape
pub record IsMarkedIn (places : List PlaceEntry) (shape : Form) (value : Evidence) (bytes : List ℕ) : Type 0 where
  pub marks : List ℕ
  pub marked : AreMarksOf places shape marks
  pub bundle : IsMarkedBundleOf bytes value marks

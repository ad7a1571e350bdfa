-- What `appraise` and `upgrade` say of the bundle of a job, and why they refuse it. Both are this project's own.
use Rattle.std.specs.Prelude.{◌≡◌, ◌⊎◌, ℕ, Bool, true, false, List, None, Some, slice_get}
use Rattle.evidence_types.specs.Bundle.{IsMarkedBundleOf}
use Rattle.evidence_types.specs.Shape.{Form, shape_at}
use Rattle.evidence_codec.specs.Reading.{fault, first_fault_of_either}
use Rattle.place_check.specs.declared.entry.PlaceEntry.{PlaceEntry}
use Rattle.session_model.specs.Session.{Session}
use Rattle.reference_book.specs.declared.reference.Reference.{Reference}
use Rattle.reference_book.specs.Leaves.{has_none, has_several, hashed_leaves, leaves, least_event}
use Rattle.appraiser.specs.Appraised.{HasReferences, basis_of}
use Rattle.appraiser.specs.Expected.{Basis}
use Rattle.appraiser.specs.Fit.{AreMarksOf}
use Rattle.appraiser.specs.Verdicts.{all_good, verdicts}
use Rattle.appraiser.specs.declared.verdict.Verdict.{Verdict}
use Rattle.stream_appraiser.specs.Stream.{IsAccepted, IsFound}
use Rattle.job_reader.specs.Finding.{JobView}
use Rattle.job_reader.specs.declared.accepted.BundleIn.{BundleIn}
use Rattle.report_text.specs.Verdicts.{upgrade_text, verdicts_text}
use Rattle.report_text.specs.declared.refusal.Refusal.{Refusal}
use Rattle.report_text.specs.declared.refusal.Refusal.TheVariants.{Words, ReadFault, TooLong, Job, NoReference, Ambiguous, BadBundle, BadShape, Transcript, NoMemory}
use Rattle.copland_cli.specs.declared.ending.Ending.{Ending}
use Rattle.copland_cli.specs.declared.ending.Ending.TheVariants.{Good, Rejected}

-- the bundle of a job, and the session that it is said to be of
pub record Offer : Type 0 where
  pub bundle : BundleIn
  pub session : Session

-- the job has this bundle, and the session stands at its number
pub record IsOffered (job : JobView) (offer : Offer) : Type 0 where
  pub bundle : job.bundle ≡ Some offer.bundle
  pub session : slice_get job.sessions offer.bundle.session ≡ Some offer.session

-- it has a bundle, of one of its sessions
abbrev pub HasOffer : JobView → Type 0
HasOffer job = (offer : Offer) × IsOffered job offer

-- the shape that the bundle's value is to have
abbrev pub shape_in : Offer → Form
shape_in offer = shape_at offer.session.phrase offer.session.root

-- what it is appraised by
abbrev pub basis_in : JobView → Offer → Basis
basis_in job offer = basis_of job.places job.references offer.session.nonce

-- the bytes are the bundle of a value that fits
abbrev pub HasValue : JobView → Offer → Type 0
HasValue job offer = IsFound job.places offer.bundle.bytes (shape_in offer) None

-- ---- refusals

-- why bytes have no value of a shape: the first fault of bytes that are no bundle of either version, or the
-- first node that does not fit
abbrev pub HasNoValue : List PlaceEntry → List ℕ → Form → Refusal → Type 0
HasNoValue places bytes shape Words = ⊥
HasNoValue places bytes shape ReadFault = ⊥
HasNoValue places bytes shape TooLong = ⊥
HasNoValue places bytes shape (Job error) = ⊥
HasNoValue places bytes shape (NoReference event) = ⊥
HasNoValue places bytes shape (Ambiguous event) = ⊥
HasNoValue places bytes shape (BadBundle at kind) = first_fault_of_either bytes ≡ Some (fault at kind)
HasNoValue places bytes shape (BadShape node) = IsFound places bytes shape (Some node)
HasNoValue places bytes shape (Transcript error) = ⊥
HasNoValue places bytes shape NoMemory = ⊥

-- why a shape's references don't do: the least event of a measurement that has none; or else the least one of a
-- measurement under a hash that has several
abbrev pub LacksReferences : List Reference → Form → Refusal → Type 0
LacksReferences references shape Words = ⊥
LacksReferences references shape ReadFault = ⊥
LacksReferences references shape TooLong = ⊥
LacksReferences references shape (Job error) = ⊥
LacksReferences references shape (NoReference event) = least_event (has_none references) (leaves shape) ≡ Some event
LacksReferences references shape (Ambiguous event) =
    (least_event (has_none references) (leaves shape) ≡ None)
    × (least_event (has_several references) (hashed_leaves shape) ≡ Some event)
LacksReferences references shape (BadBundle at kind) = ⊥
LacksReferences references shape (BadShape node) = ⊥
LacksReferences references shape (Transcript error) = ⊥
LacksReferences references shape NoMemory = ⊥

-- why there are no verdicts: the references don't do; or they do, and the bytes have no value of the shape
abbrev pub HasNoVerdict : List PlaceEntry → List Reference → List ℕ → Form → Refusal → Type 0
HasNoVerdict places references bytes shape why =
    LacksReferences references shape why ⊎ (HasReferences references shape × HasNoValue places bytes shape why)

-- `appraise` refuses a job for this
abbrev pub HasNoVerdicts : JobView → Refusal → Type 0
HasNoVerdicts job why =
    (offer : Offer) × IsOffered job offer × HasNoVerdict job.places job.references offer.bundle.bytes (shape_in offer) why

-- `upgrade` does, which looks at no references
abbrev pub HasNoUpgrade : JobView → Refusal → Type 0
HasNoUpgrade job why =
    (offer : Offer) × IsOffered job offer × HasNoValue job.places offer.bundle.bytes (shape_in offer) why

-- ---- reports

-- how a report of verdicts ends
abbrev pub ending_of_verdicts : Bool → Ending
ending_of_verdicts true = Good
ending_of_verdicts false = Rejected

-- the report is that of these verdicts on the bundle of the session of a number, and ends by whether all are good
pub record SaysVerdicts (number : ℕ) (found : List Verdict) (text : List ℕ) (ending : Ending) : Type 0 where
  pub reported : text ≡ verdicts_text number found
  pub ended : ending ≡ ending_of_verdicts (all_good found)

-- the report has the verdicts on the value whose bundle the bytes are
pub record IsOfVerdicts (job : JobView) (text : List ℕ) (ending : Ending) : Type 0 where
  pub offer : Offer
  pub offered : IsOffered job offer
  pub references : HasReferences job.references (shape_in offer)
  pub found : HasValue job offer
  pub says : SaysVerdicts offer.bundle.session (verdicts (basis_in job offer) found.value (shape_in offer)) text ending

-- the report has the bundle of version 2 of the value whose bundle the bytes are, with the marks of the shape
pub record IsOfUpgrade (job : JobView) (text : List ℕ) (ending : Ending) : Type 0 where
  pub offer : Offer
  pub offered : IsOffered job offer
  pub found : HasValue job offer
  pub marks : List ℕ
  pub marked : AreMarksOf job.places (shape_in offer) marks
  pub bytes : List ℕ
  pub bundle : IsMarkedBundleOf bytes found.value marks
  pub reported : text ≡ upgrade_text offer.bundle.session bytes
  pub ended : ending ≡ Good

-- ---- what is accepted

-- each measurement of the shape has a reference, and none under a hash has several; and the bytes are the bundle,
-- of version 1 or, with the marks of the shape, of version 2, of the value that is expected on answers of which
-- each is one of the references of its measurement
pub record HasGoodBundle (job : JobView) : Type 0 where
  pub offer : Offer
  pub offered : IsOffered job offer
  pub references : HasReferences job.references (shape_in offer)
  pub accepted : IsAccepted job.places (basis_in job offer) offer.bundle.bytes (shape_in offer)

-- The bundle of a job has one value of a shape or one refusal, and what is said of it is one.
use Rattle.std.proofs.Common.{◌≡◌, ◌∙◌, ℕ, true, List, [], ◌∷◌, Option, None, Some, inl, inr, refl, sym, ap, subst, map}
use Rattle.std.specs.Prelude.{slice_get}
use Rattle.evidence_types.specs.Bundle.{IsEitherBundleOf}
use Rattle.evidence_types.specs.Evidence.{Evidence}
use Rattle.evidence_types.specs.Marked.{marked_bundle}
use Rattle.evidence_types.specs.Shape.{Form}
use Rattle.evidence_codec.specs.declared.fault.BadKind.{BadKind}
use Rattle.evidence_codec.specs.declared.fault.Fault.{Fault}
use Rattle.evidence_codec.specs.Reading.{fault, fault_of, first_fault_of_either}
use Rattle.evidence_codec.proofs.BundleLemmas.{marked_again, plain_again}
use Rattle.evidence_codec.proofs.MadeLemmas.{either_only}
use Rattle.place_check.specs.declared.entry.PlaceEntry.{PlaceEntry}
use Rattle.reference_book.specs.declared.reference.Reference.{Reference}
use Rattle.appraiser.specs.Appraised.{HasReferences}
use Rattle.appraiser.specs.Fit.{AreMarksOf, misfit}
use Rattle.appraiser.specs.Verdicts.{all_good, verdicts}
use Rattle.appraiser.specs.declared.verdict.Verdict.{Verdict}
use Rattle.stream_appraiser.specs.Stream.{IsFound}
use Rattle.job_reader.specs.Finding.{JobView}
use Rattle.job_reader.specs.declared.accepted.BundleIn.{BundleIn}
use Rattle.session_model.specs.Session.{Session}
use Rattle.report_text.specs.Verdicts.{upgrade_text, verdicts_text}
use Rattle.transcript.specs.declared.auditing.AuditError.{AuditError}
use Rattle.report_text.specs.declared.refusal.Refusal.{Refusal}
use Rattle.report_text.specs.declared.refusal.Refusal.TheVariants.{NoReference, Ambiguous, BadBundle, BadShape, Transcript}
use Rattle.copland_cli.specs.Appraised.{HasNoUpgrade, HasNoValue, HasNoVerdict, HasNoVerdicts, HasValue, IsOfUpgrade, IsOfVerdicts, IsOffered, LacksReferences, Offer, basis_in, ending_of_verdicts, shape_in}
use Rattle.copland_cli.specs.Meaning.{IsOfMeaning}
use Rattle.copland_cli.specs.declared.ending.Ending.{Ending}

-- ---- one offer

bundles_same : (job : JobView) (one other : BundleIn) → job.bundle ≡ Some one → job.bundle ≡ Some other → one ≡ other
bundles_same job one other h k = let both : Some one ≡ Some other = sym h ∙ k in cc

sessions_same : (found : Option Session) (one other : Session) → found ≡ Some one → found ≡ Some other → one ≡ other
sessions_same found one other h k = let both : Some one ≡ Some other = sym h ∙ k in cc

abbrev joined : BundleIn → Session → Offer
joined bundle session = record { bundle = bundle; session = session }

pub offers_same : (job : JobView) (one other : Offer) → IsOffered job one → IsOffered job other → one ≡ other
offers_same job one other h k =
    let bundle = bundles_same job one.bundle other.bundle h.bundle k.bundle in
    let again = subst (λ (b : BundleIn). slice_get job.sessions b.session ≡ Some other.session) (sym bundle) k.session in
    let session = sessions_same (slice_get job.sessions one.bundle.session) one.session other.session h.session again in
    ap (λ (b : BundleIn). joined b one.session) bundle ∙ ap (λ (s : Session). joined other.bundle s) session

-- ---- one value, or a fault

no_fault : (bytes : List ℕ) (value : Evidence) (marks : Option (List ℕ)) → IsEitherBundleOf bytes value marks → first_fault_of_either bytes ≡ None
no_fault bytes value None is = ap fault_of (plain_again true bytes value is)
no_fault bytes value (Some marks) is = ap fault_of (marked_again bytes value marks is)

some_none : {A : Type 0} {X : Type 0} (value : A) (found : Option A) → found ≡ Some value → found ≡ None → X
some_none value found h k = let both : Some value ≡ None = sym h ∙ k in absurd cc

some_same : {A : Type 0} (found : Option A) (one other : A) → found ≡ Some one → found ≡ Some other → one ≡ other
some_same found one other h k = let both : Some one ≡ Some other = sym h ∙ k in cc

faulty_found : {X : Type 0} (places : List PlaceEntry) (bytes : List ℕ) (shape : Form) (at : ℕ) (kind : BadKind) (misfit_at : Option ℕ) → first_fault_of_either bytes ≡ Some (fault at kind) → IsFound places bytes shape misfit_at → X
faulty_found places bytes shape at kind misfit_at h k =
    some_none (fault at kind) (first_fault_of_either bytes) h (no_fault bytes k.value k.marks k.bundle)

pub nodes_same : (places : List PlaceEntry) (bytes : List ℕ) (shape : Form) (one other : Option ℕ) → IsFound places bytes shape one → IsFound places bytes shape other → one ≡ other
nodes_same places bytes shape one other h k =
    let same = either_only bytes h.value k.value h.marks k.marks h.bundle k.bundle in
    sym h.fits ∙ ap (λ (v : Evidence). misfit places v h.marks shape) same.0 ∙ ap (λ (m : Option (List ℕ)). misfit places k.value m shape) same.1 ∙ k.fits

faults_same : (one other : ℕ) (kind same : BadKind) → fault one kind ≡ fault other same → BadBundle one kind ≡ BadBundle other same
faults_same one other kind same e =
    ap (λ (f : Fault). BadBundle f.at f.kind) e

shapes_same : (one other : ℕ) → Some one ≡ Some other → BadShape one ≡ BadShape other
shapes_same one other e = cc

bundle_one : (places : List PlaceEntry) (bytes : List ℕ) (shape : Form) (at : ℕ) (kind : BadKind) (other : Refusal) → first_fault_of_either bytes ≡ Some (fault at kind) → HasNoValue places bytes shape other → BadBundle at kind ≡ other
bundle_one places bytes shape at kind (BadBundle place same) h k =
    faults_same at place kind same (some_same (first_fault_of_either bytes) (fault at kind) (fault place same) h k)
bundle_one places bytes shape at kind (BadShape node) h k = faulty_found places bytes shape at kind (Some node) h k
bundle_one places bytes shape at kind _ h k = absurd k

shape_one : (places : List PlaceEntry) (bytes : List ℕ) (shape : Form) (node : ℕ) (other : Refusal) → IsFound places bytes shape (Some node) → HasNoValue places bytes shape other → BadShape node ≡ other
shape_one places bytes shape node (BadBundle at kind) h k = faulty_found places bytes shape at kind (Some node) k h
shape_one places bytes shape node (BadShape again) h k = shapes_same node again (nodes_same places bytes shape (Some node) (Some again) h k)
shape_one places bytes shape node _ h k = absurd k

value_one : (places : List PlaceEntry) (bytes : List ℕ) (shape : Form) (why other : Refusal) → HasNoValue places bytes shape why → HasNoValue places bytes shape other → why ≡ other
value_one places bytes shape (BadBundle at kind) other h k = bundle_one places bytes shape at kind other h k
value_one places bytes shape (BadShape node) other h k = shape_one places bytes shape node other h k
value_one places bytes shape _ other h k = absurd h

-- a value that fits leaves no refusal
pub value_none : (places : List PlaceEntry) (bytes : List ℕ) (shape : Form) (why : Refusal) → IsFound places bytes shape None → ¬ HasNoValue places bytes shape why
value_none places bytes shape (BadBundle at kind) k h = faulty_found places bytes shape at kind None h k
value_none places bytes shape (BadShape node) k h = let e = nodes_same places bytes shape (Some node) None h k in cc
value_none places bytes shape _ k h = h

-- ---- one lack of references, or none

lack_none : (references : List Reference) (shape : Form) (why : Refusal) → HasReferences references shape → ¬ LacksReferences references shape why
lack_none references shape (NoReference event) r h = some_none event _ h r.all
lack_none references shape (Ambiguous event) r h = some_none event _ h.1 r.one
lack_none references shape _ r h = h

missing_one : (references : List Reference) (shape : Form) (event : ℕ) (other : Refusal) → LacksReferences references shape (NoReference event) → LacksReferences references shape other → NoReference event ≡ other
missing_one references shape event (NoReference again) h k = ap (λ (e : ℕ). NoReference e) (some_same _ event again h k)
missing_one references shape event (Ambiguous again) h k = some_none event _ h k.0
missing_one references shape event _ h k = absurd k

several_one : (references : List Reference) (shape : Form) (event : ℕ) (other : Refusal) → LacksReferences references shape (Ambiguous event) → LacksReferences references shape other → Ambiguous event ≡ other
several_one references shape event (NoReference again) h k = some_none again _ k h.0
several_one references shape event (Ambiguous again) h k = ap (λ (e : ℕ). Ambiguous e) (some_same _ event again h.1 k.1)
several_one references shape event _ h k = absurd k

lack_one : (references : List Reference) (shape : Form) (why other : Refusal) → LacksReferences references shape why → LacksReferences references shape other → why ≡ other
lack_one references shape (NoReference event) other h k = missing_one references shape event other h k
lack_one references shape (Ambiguous event) other h k = several_one references shape event other h k
lack_one references shape _ other h k = absurd h

verdict_one : (places : List PlaceEntry) (references : List Reference) (bytes : List ℕ) (shape : Form) (why other : Refusal) → HasNoVerdict places references bytes shape why → HasNoVerdict places references bytes shape other → why ≡ other
verdict_one places references bytes shape why other (inl h) (inl k) = lack_one references shape why other h k
verdict_one places references bytes shape why other (inl h) (inr k) = absurd (lack_none references shape why k.0 h)
verdict_one places references bytes shape why other (inr h) (inl k) = absurd (lack_none references shape other h.0 k)
verdict_one places references bytes shape why other (inr h) (inr k) = value_one places bytes shape why other h.1 k.1

verdict_none : (places : List PlaceEntry) (references : List Reference) (bytes : List ℕ) (shape : Form) (why : Refusal) → HasReferences references shape → IsFound places bytes shape None → ¬ HasNoVerdict places references bytes shape why
verdict_none places references bytes shape why r f (inl h) = lack_none references shape why r h
verdict_none places references bytes shape why r f (inr h) = value_none places bytes shape why f h.1

-- ---- of a job

late_value : (places : List PlaceEntry) (bytes : List ℕ) (shape : Form) (why : Refusal) → HasNoValue places bytes shape why → IsOfMeaning why
late_value places bytes shape (BadBundle at kind) h = tt
late_value places bytes shape (BadShape node) h = tt
late_value places bytes shape _ h = absurd h

late_lack : (references : List Reference) (shape : Form) (why : Refusal) → LacksReferences references shape why → IsOfMeaning why
late_lack references shape (NoReference event) h = tt
late_lack references shape (Ambiguous event) h = tt
late_lack references shape _ h = absurd h

late_verdict : (places : List PlaceEntry) (references : List Reference) (bytes : List ℕ) (shape : Form) (why : Refusal) → HasNoVerdict places references bytes shape why → IsOfMeaning why
late_verdict places references bytes shape why (inl h) = late_lack references shape why h
late_verdict places references bytes shape why (inr h) = late_value places bytes shape why h.1

no_transcript_of_verdict : (places : List PlaceEntry) (references : List Reference) (bytes : List ℕ) (shape : Form) (error : AuditError) → ¬ HasNoVerdict places references bytes shape (Transcript error)
no_transcript_of_verdict places references bytes shape error (inl h) = h
no_transcript_of_verdict places references bytes shape error (inr h) = h.1

pub verdicts_late : (job : JobView) (why : Refusal) → HasNoVerdicts job why → IsOfMeaning why
verdicts_late job why h = late_verdict job.places job.references h.0.bundle.bytes (shape_in h.0) why h.2

pub upgrade_late : (job : JobView) (why : Refusal) → HasNoUpgrade job why → IsOfMeaning why
upgrade_late job why h = late_value job.places h.0.bundle.bytes (shape_in h.0) why h.2

pub no_transcript_of_verdicts : (job : JobView) (error : AuditError) → ¬ HasNoVerdicts job (Transcript error)
no_transcript_of_verdicts job error h = no_transcript_of_verdict job.places job.references h.0.bundle.bytes (shape_in h.0) error h.2

pub verdicts_one : (job : JobView) (why other : Refusal) → HasNoVerdicts job why → HasNoVerdicts job other → why ≡ other
verdicts_one job why other h k =
    let again = subst (λ (o : Offer). HasNoVerdict job.places job.references o.bundle.bytes (shape_in o) other) (offers_same job k.0 h.0 k.1 h.1) k.2 in
    verdict_one job.places job.references h.0.bundle.bytes (shape_in h.0) why other h.2 again

pub upgrade_one : (job : JobView) (why other : Refusal) → HasNoUpgrade job why → HasNoUpgrade job other → why ≡ other
upgrade_one job why other h k =
    let again = subst (λ (o : Offer). HasNoValue job.places o.bundle.bytes (shape_in o) other) (offers_same job k.0 h.0 k.1 h.1) k.2 in
    value_one job.places h.0.bundle.bytes (shape_in h.0) why other h.2 again

-- a job whose bundle has a value, and whose references do, is not refused its verdicts
pub verdicts_none : (job : JobView) (offer : Offer) (why : Refusal) → IsOffered job offer → HasReferences job.references (shape_in offer) → HasValue job offer → ¬ HasNoVerdicts job why
verdicts_none job offer why o r f h =
    let again = subst (λ (o : Offer). HasNoVerdict job.places job.references o.bundle.bytes (shape_in o) why) (offers_same job h.0 offer h.1 o) h.2 in
    verdict_none job.places job.references offer.bundle.bytes (shape_in offer) why r f again

pub upgrade_none : (job : JobView) (offer : Offer) (why : Refusal) → IsOffered job offer → HasValue job offer → ¬ HasNoUpgrade job why
upgrade_none job offer why o f h =
    let again = subst (λ (o : Offer). HasNoValue job.places o.bundle.bytes (shape_in o) why) (offers_same job h.0 offer h.1 o) h.2 in
    value_none job.places offer.bundle.bytes (shape_in offer) why f again

-- ---- one report

-- the verdicts of a value by an offer
abbrev pub found_by : JobView → Offer → Evidence → List Verdict
found_by job offer value = verdicts (basis_in job offer) value (shape_in offer)

pub values_same : (job : JobView) (offer other : Offer) (h : HasValue job offer) (k : HasValue job other) → offer ≡ other → h.value ≡ k.value
values_same job offer other h k same =
    (either_only other.bundle.bytes h.value k.value h.marks k.marks (subst (λ (o : Offer). IsEitherBundleOf o.bundle.bytes h.value h.marks) same h.bundle) k.bundle).0

pub same_verdicts : (job : JobView) (text other : List ℕ) (ending ended : Ending) → IsOfVerdicts job text ending → IsOfVerdicts job other ended → (text ≡ other) × (ending ≡ ended)
same_verdicts job text other ending ended h k =
    let offer = offers_same job h.offer k.offer h.offered k.offered in
    let value = values_same job h.offer k.offer h.found k.found offer in
    let one = ap (λ (o : Offer). found_by job o h.found.value) offer ∙ ap (λ (v : Evidence). found_by job k.offer v) value in (
      h.says.reported ∙ ap (λ (o : Offer). verdicts_text o.bundle.session (found_by job h.offer h.found.value)) offer ∙ ap (λ found. verdicts_text k.offer.bundle.session found) one ∙ sym k.says.reported,
      h.says.ended ∙ ap (λ found. ending_of_verdicts (all_good found)) one ∙ sym k.says.ended,
    )

pub marks_one : (one other : List ℕ) → map (λ mark. Some mark) one ≡ map (λ mark. Some mark) other → one ≡ other
marks_one [] [] e = refl
marks_one [] (mark ∷ other) e = absurd cc
marks_one (mark ∷ one) [] e = absurd cc
marks_one (mark ∷ one) (again ∷ other) e =
    let first : mark ≡ again = cc in
    let rest : map (λ mark. Some mark) one ≡ map (λ mark. Some mark) other = cc in
    let behind = marks_one one other rest in cc

pub same_upgrade : (job : JobView) (text other : List ℕ) (ending ended : Ending) → IsOfUpgrade job text ending → IsOfUpgrade job other ended → (text ≡ other) × (ending ≡ ended)
same_upgrade job text other ending ended h k =
    let offer = offers_same job h.offer k.offer h.offered k.offered in
    let value = values_same job h.offer k.offer h.found k.found offer in
    let marked = subst (λ (o : Offer). AreMarksOf job.places (shape_in o) h.marks) offer h.marked in
    let marks = marks_one h.marks k.marks (marked ∙ sym k.marked) in
    let bytes = h.bundle.spelled ∙ ap (λ (v : Evidence). marked_bundle v h.marks) value ∙ ap (λ (m : List ℕ). marked_bundle k.found.value m) marks ∙ sym k.bundle.spelled in (
      h.reported ∙ ap (λ (o : Offer). upgrade_text o.bundle.session h.bytes) offer ∙ ap (λ (b : List ℕ). upgrade_text k.offer.bundle.session b) bytes ∙ sym k.reported,
      h.ended ∙ sym k.ended,
    )

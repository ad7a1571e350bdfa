-- From what the steps of `appraise` and `upgrade` find to what is said of the bundle of a job.
use Rattle.std.proofs.Common.{◌≡◌, ◌∙◌, ◌<◌, ℕ, List, length, get_or, Option, None, Some, Result, Ok, Err, ap, inl, inr, refl, subst, sym}
use Rattle.std.proofs.lemmas.Option.{slice_get-get_or, slice_get-map}
use Rattle.std.specs.Prelude.{MatchResult, map, option_map, slice_get}
use Rattle.evidence_types.specs.Bundle.{IsEitherBundleOf}
use Rattle.evidence_types.specs.Evidence.{evidence}
use Rattle.evidence_types.specs.Shape.{Form}
use Rattle.evidence_codec.specs.declared.decoding.Decoded.{Decoded}
use Rattle.place_check.specs.Session.{CheckedSession, session_of}
use Rattle.place_check.specs.declared.entry.PlaceEntry.{PlaceEntry}
use Rattle.reference_book.specs.declared.reference.Reference.{Reference}
use Rattle.appraiser.specs.Appraised.{HasReferences, basis_of}
use Rattle.appraiser.specs.Fit.{AreMarksOf, misfit}
use Rattle.appraiser.specs.Verdicts.{verdicts}
use Rattle.appraiser.specs.declared.verdict.Verdict.{Verdict}
use Rattle.stream_appraiser.specs.Stream.{IsFound}
use Rattle.job_reader.specs.Finding.{JobView}
use Rattle.report_text.specs.Verdicts.{upgrade_text}
use Rattle.report_text.specs.declared.refusal.Refusal.{Refusal}
use Rattle.report_text.specs.declared.refusal.Refusal.TheVariants.{NoMemory}
use Rattle.copland_cli.specs.Appraised.{HasNoValue, HasNoVerdicts, IsOfUpgrade, IsOfVerdicts, IsOffered, Offer, SaysVerdicts, basis_in, shape_in}
use Rattle.copland_cli.specs.Offered.{IsDecodedFrom, IsMarkedIn, IsReported, StarvedOr}
use Rattle.copland_cli.specs.declared.ending.Ending.TheVariants.{Good}
use Rattle.copland_cli.specs.declared.outcome.Report.{Report}

-- the report of what was found, by what the value's shape, nonce and bytes are known to be
pub reported_by : (places : List PlaceEntry) (references : List Reference) (bytes same_bytes : List ℕ) (shape same_shape : Form) (nonce same_nonce : List ℕ) (number : ℕ) (found same_found : List Verdict) (r : Result Report Refusal) → ((is : IsFound places bytes shape None) × (found ≡ verdicts (basis_of places references nonce) is.value shape)) → MatchResult r (λ report. SaysVerdicts number same_found report.text report.ending) (λ why. why ≡ NoMemory) → bytes ≡ same_bytes → shape ≡ same_shape → nonce ≡ same_nonce → same_found ≡ found → MatchResult r (λ report. IsReported places (basis_of places references same_nonce) same_bytes same_shape number report.text report.ending) (StarvedOr (HasNoValue places same_bytes same_shape))
reported_by places references bytes same_bytes shape same_shape nonce same_nonce number found same_found (Ok report) h k told same one all =
    let says = subst (λ (f : List Verdict). SaysVerdicts number f report.text report.ending) h.1 (subst (λ (f : List Verdict). SaysVerdicts number f report.text report.ending) all k) in
    let first : IsReported places (basis_of places references nonce) bytes shape number report.text report.ending = (h.0, says) in
    let second = subst (λ (b : List ℕ). IsReported places (basis_of places references nonce) b shape number report.text report.ending) told first in
    let third = subst (λ (s : Form). IsReported places (basis_of places references nonce) same_bytes s number report.text report.ending) same second in
    subst (λ (n : List ℕ). IsReported places (basis_of places references n) same_bytes same_shape number report.text report.ending) one third
reported_by places references bytes same_bytes shape same_shape nonce same_nonce number found same_found (Err why) h k told same one all = inl k

not_found : (job : JobView) (offer : Offer) (why : Refusal) → IsOffered job offer → HasReferences job.references (shape_in offer) → StarvedOr (HasNoValue job.places offer.bundle.bytes (shape_in offer)) why → StarvedOr (HasNoVerdicts job) why
not_found job offer why o references (inl none) = inl none
not_found job offer why o references (inr h) = inr (offer, o, inr (references, h))

pub of_verdicts : (job : JobView) (offer : Offer) (shape : Form) (r : Result Report Refusal) → IsOffered job offer → HasReferences job.references shape → shape ≡ shape_in offer → MatchResult r (λ report. IsReported job.places (basis_in job offer) offer.bundle.bytes (shape_in offer) offer.bundle.session report.text report.ending) (StarvedOr (HasNoValue job.places offer.bundle.bytes (shape_in offer))) → MatchResult r (λ report. IsOfVerdicts job report.text report.ending) (StarvedOr (HasNoVerdicts job))
of_verdicts job offer shape (Ok report) o references same h = record {
  offer = offer;
  offered = o;
  references = subst (λ (s : Form). HasReferences job.references s) same references;
  found = h.0;
  says = h.1;
}
of_verdicts job offer shape (Err why) o references same h =
    not_found job offer why o (subst (λ (s : Form). HasReferences job.references s) same references) h

pub of_upgrade : (job : JobView) (offer : Offer) (bytes : List ℕ) (shape : Form) (found : Decoded) (text : List ℕ) → IsOffered job offer → IsDecodedFrom job.places bytes shape found → ((out : List ℕ) × IsMarkedIn job.places (shape_in offer) (evidence found.value) out × (text ≡ upgrade_text offer.bundle.session out)) → shape ≡ shape_in offer → bytes ≡ offer.bundle.bytes → IsOfUpgrade job text Good
of_upgrade job offer bytes shape found text o d u same told = record {
  offer = offer;
  offered = o;
  found = record {
    value = evidence found.value;
    marks = found.marks;
    bundle = subst (λ (b : List ℕ). IsEitherBundleOf b (evidence found.value) found.marks) told d.bundle;
    fits = subst (λ (s : Form). misfit job.places (evidence found.value) found.marks s ≡ None) same d.fits;
  };
  marks = u.1.marks;
  marked = u.1.marked;
  bytes = u.0;
  bundle = u.1.bundle;
  reported = u.2;
  ended = refl;
}

-- marks of a shape, where shape and marks go by other names
pub marks_at : (places : List PlaceEntry) (shape other : Form) (marks same : List ℕ) → AreMarksOf places shape marks → shape ≡ other → marks ≡ same → AreMarksOf places other same
marks_at places shape other marks same h shaped equal =
    subst (λ (m : List ℕ). AreMarksOf places other m) equal (subst (λ (s : Form). AreMarksOf places s marks) shaped h)

-- the session of a number, by what its lookup tells
pub stands_at : (found sessions : List CheckedSession) (index : ℕ) (checked : CheckedSession) → found ≡ sessions → index < length found → checked ≡ get_or found index checked → slice_get sessions index ≡ Some checked
stands_at found sessions index checked same below is =
    subst (λ (xs : List CheckedSession). slice_get xs index ≡ Some checked) same (slice_get-get_or found index checked below ∙ ap (λ (x : CheckedSession). Some x) (sym is))

pub seen_at : (sessions : List CheckedSession) (index : ℕ) (checked : CheckedSession) → slice_get sessions index ≡ Some checked → slice_get (map session_of sessions) index ≡ Some (session_of checked)
seen_at sessions index checked is =
    slice_get-map session_of sessions index ∙ ap (λ (found : Option CheckedSession). option_map session_of found) is

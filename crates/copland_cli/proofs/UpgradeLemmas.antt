-- What is known of a shape and of marks, and what an upgrade keeps.
use Rattle.std.proofs.Common.{◌≡◌, ◌∙◌, ◌<◌, ◌≤◌, ◌^◌, ℕ, List, length, length-append, Option, None, Some, inl, inr, refl, sym, subst, arith}
use Rattle.phrase_tree.specs.Term.{Term}
use Rattle.evidence_types.specs.declared.measure.Measure.TheVariants.{Weight}
use Rattle.evidence_types.specs.Bundle.{IsEitherBundleOf}
use Rattle.evidence_types.specs.Bytes.{FitsBundle}
use Rattle.evidence_types.specs.Evidence.{Evidence}
use Rattle.evidence_types.specs.Marked.{FitsMarkedBundle, measurements}
use Rattle.evidence_types.specs.Measure.{IsLight, count_after, measure}
use Rattle.evidence_types.specs.Shape.{Fits, Form, nothing, the_nonce, measured, measured_at, sealed, hashed, in_sequence, in_parallel, shape_at}
use Rattle.evidence_types.proofs.ShapeLemmas.{of_shape_from}
use Rattle.evidence_types.proofs.WithinLemmas.{count_after-within, light_stays}
use Rattle.place_check.specs.declared.entry.PlaceEntry.{PlaceEntry}
use Rattle.reference_book.specs.declared.reference.Reference.{Reference}
use Rattle.appraiser.specs.Appraised.{HasMarks, HasReferences}
use Rattle.appraiser.specs.Fit.{AreMarksOf, misfit, nodes}
use Rattle.appraiser.proofs.FitLemmas.{fits_of, fits_with, marks_fit}
use Rattle.stream_appraiser.specs.Stream.{IsFound}
use Rattle.job_reader.specs.Finding.{JobView}
use Rattle.job_reader.specs.declared.accepted.BundleIn.{BundleIn}
use Rattle.report_text.specs.declared.refusal.Refusal.{Refusal}
use Rattle.copland_cli.specs.Appraised.{HasNoVerdict, HasNoVerdicts, HasValue, IsOfUpgrade, IsOfVerdicts, IsOffered, LacksReferences, Offer, SaysVerdicts, shape_in}
use Rattle.copland_cli.specs.Upgraded.{IsUpgraded, with_bundle}
use Rattle.copland_cli.specs.declared.ending.Ending.{Ending}
use Rattle.copland_cli.proofs.AppraiseLemmas.{found_by, marks_one, offers_same, same_upgrade, value_none, values_same}

-- ---- a shape has few nodes

few_nodes : (shape : Form) → length (nodes shape) ≤ measure Weight shape
few_nodes nothing = omega arith
few_nodes the_nonce = omega arith
few_nodes (measured event place asp under) = omega (arith, few_nodes under)
few_nodes (measured_at event place target asp under) = omega (arith, few_nodes under)
few_nodes (sealed event place under) = omega (arith, few_nodes under)
few_nodes (hashed event place under) = omega arith
few_nodes (in_sequence left right) = omega (arith, few_nodes left, few_nodes right, length-append (nodes left) (nodes right))
few_nodes (in_parallel left right) = omega (arith, few_nodes left, few_nodes right, length-append (nodes left) (nodes right))

pub shape_has_few : (phrase : Term) (root : List ℕ) → IsLight phrase → length (nodes (shape_at phrase root)) < 2 ^ 32
shape_has_few phrase root light =
    let count : measure Weight (shape_at phrase root) ≡ count_after Weight phrase 17 = of_shape_from Weight phrase root 0 the_nonce in
    let most : count_after Weight phrase 17 ≤ 262144 = count_after-within Weight phrase 17 (light_stays Weight phrase light) in
    omega (arith, few_nodes (shape_at phrase root), count, most)

-- ---- marks fit a bundle

pub has_marks : (bytes : List ℕ) (value : Evidence) (marks : Option (List ℕ)) → IsEitherBundleOf bytes value marks → HasMarks value marks
has_marks bytes value None b = tt
has_marks bytes value (Some marks) b = b.fits.marked

-- the law of what an upgrade fits
abbrev pub UpgradesFit : Type 0
UpgradesFit = (phrase : Term) (root : List ℕ) (value : Evidence) (marks : List ℕ) → IsLight phrase → Fits value (shape_at phrase root) → FitsBundle value → length marks ≡ measurements value → FitsMarkedBundle value marks

pub fits_marked : (law : UpgradesFit) (phrase : Term) (root : List ℕ) (places : List PlaceEntry) (bytes : List ℕ) (value : Evidence) (own : Option (List ℕ)) (marks : List ℕ) → IsLight phrase → IsEitherBundleOf bytes value own → misfit places value own (shape_at phrase root) ≡ None → AreMarksOf places (shape_at phrase root) marks → FitsMarkedBundle value marks
fits_marked law phrase root places bytes value None marks light b f m =
    let fits = fits_of places value None (shape_at phrase root) f in
    law phrase root value marks light fits b.fits (marks_fit places value marks (shape_at phrase root) fits m).0
fits_marked law phrase root places bytes value (Some own) marks light b f m =
    let with_own = fits_with places value (Some own) (shape_at phrase root) b.fits.marked f in
    subst (λ (marks : List ℕ). FitsMarkedBundle value marks) (marks_one own marks (with_own.1 ∙ sym m)) b.fits

-- ---- what an upgrade keeps

-- a report of verdicts, by any offer of the job and its value
restated : (job : JobView) (offer : Offer) (text : List ℕ) (ending : Ending) (f : HasValue job offer) → IsOffered job offer → IsOfVerdicts job text ending → HasReferences job.references (shape_in offer) × SaysVerdicts offer.bundle.session (found_by job offer f.value) text ending
restated job offer text ending f o h =
    let same = offers_same job h.offer offer h.offered o in
    let value = values_same job h.offer offer h.found f same in
    let P : Offer → Type 0 = λ o. HasReferences job.references (shape_in o) × SaysVerdicts o.bundle.session (found_by job o h.found.value) text ending in
    let at = subst P same (h.references, h.says) in
    (at.0, subst (λ (v : Evidence). SaysVerdicts offer.bundle.session (found_by job offer v) text ending) value at.1)

abbrev upgraded_bundle : (job : JobView) (text : List ℕ) (ending : Ending) → IsOfUpgrade job text ending → BundleIn
upgraded_bundle job text ending u = record { session = u.offer.bundle.session; bytes = u.bytes }

abbrev upgraded_offer : (job : JobView) (text : List ℕ) (ending : Ending) → IsOfUpgrade job text ending → Offer
upgraded_offer job text ending u = record { bundle = upgraded_bundle job text ending u; session = u.offer.session }

upgraded_value : (job : JobView) (text : List ℕ) (ending : Ending) (u : IsOfUpgrade job text ending) → misfit job.places u.found.value (Some u.marks) (shape_in u.offer) ≡ None
upgraded_value job text ending u =
    (marks_fit job.places u.found.value u.marks (shape_in u.offer) (fits_of job.places u.found.value u.found.marks (shape_in u.offer) u.found.fits) u.marked).1

abbrev found_again : (job : JobView) (text : List ℕ) (ending : Ending) (u : IsOfUpgrade job text ending) → HasValue (with_bundle job (upgraded_bundle job text ending u)) (upgraded_offer job text ending u)
found_again job text ending u = record { value = u.found.value; marks = Some u.marks; bundle = u.bundle; fits = upgraded_value job text ending u }

abbrev offered_again : (job : JobView) (text : List ℕ) (ending : Ending) (u : IsOfUpgrade job text ending) → IsOffered (with_bundle job (upgraded_bundle job text ending u)) (upgraded_offer job text ending u)
offered_again job text ending u = record { bundle = refl; session = u.offered.session }

lacks : (places : List PlaceEntry) (references : List Reference) (bytes : List ℕ) (shape : Form) (why : Refusal) → IsFound places bytes shape None → HasNoVerdict places references bytes shape why → LacksReferences references shape why
lacks places references bytes shape why f (inl h) = h
lacks places references bytes shape why f (inr h) = absurd (value_none places bytes shape why f h.1)

-- a refusal of verdicts, by any offer of the job that has a value
lacks_at : (job : JobView) (offer : Offer) (why : Refusal) → HasValue job offer → IsOffered job offer → HasNoVerdicts job why → LacksReferences job.references (shape_in offer) why
lacks_at job offer why f o h =
    lacks job.places job.references offer.bundle.bytes (shape_in offer) why f (subst (λ (o : Offer). HasNoVerdict job.places job.references o.bundle.bytes (shape_in o) why) (offers_same job h.0 offer h.1 o) h.2)

pub upgraded_so : (job : JobView) (text : List ℕ) (ending : Ending) → IsOfUpgrade job text ending → IsUpgraded job text
upgraded_so job text ending u =
    let again = with_bundle job (upgraded_bundle job text ending u) in
    let offer = upgraded_offer job text ending u in
    let found = found_again job text ending u in
    let offered = offered_again job text ending u in
    record {
      bundle = upgraded_bundle job text ending u;
      reported = u.reported;
      verdicts = λ report ends. (
        λ h. let r = restated job u.offer report ends u.found u.offered h in record { offer = offer; offered = offered; references = r.0; found = found; says = r.1 },
        λ h. let r = restated again offer report ends found offered h in record { offer = u.offer; offered = u.offered; references = r.0; found = u.found; says = r.1 },
      );
      refusals = λ why. (
        λ h. (offer, offered, inl (lacks_at job u.offer why u.found u.offered h)),
        λ h. (u.offer, u.offered, inl (lacks_at again offer why found offered h)),
      );
      again = λ report ends h.
          (same_upgrade again report text ends ending h (record { offer = offer; offered = offered; found = found; marks = u.marks; marked = u.marked; bytes = u.bytes; bundle = u.bundle; reported = u.reported; ended = u.ended })).0;
    }

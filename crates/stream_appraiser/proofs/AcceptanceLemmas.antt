-- Which bundles are accepted.
use Rattle.std.proofs.Common.{◌≡◌, ℕ, List, [], Option, None, Some, refl, sym, subst, IsTrue}
use Rattle.evidence_types.specs.Bundle.{IsEitherBundleOf}
use Rattle.evidence_types.specs.Evidence.{Evidence}
use Rattle.evidence_types.specs.Shape.{Fits, Form, nothing, the_nonce, measured, measured_at, sealed, hashed, in_sequence, in_parallel}
use Rattle.place_check.specs.declared.entry.PlaceEntry.{PlaceEntry}
use Rattle.reference_book.specs.Leaves.{Leaf, leaves}
use Rattle.appraiser.specs.Appraised.{HasMarks, HasReferences}
use Rattle.appraiser.specs.Expected.{Basis, expected}
use Rattle.appraiser.specs.Fit.{FitsWith}
use Rattle.appraiser.specs.Laws.{HaveOneEach, answer_of, chosen}
use Rattle.appraiser.specs.Verdicts.{all_good, verdicts}
use Rattle.appraiser.proofs.AcceptLemmas.{accepted_is_expected, expected_is_accepted}
use Rattle.appraiser.proofs.FitLemmas.{fits_with, no_misfit}
use Rattle.stream_appraiser.specs.Stream.{IsAccepted, IsFound, AreNoneOr}

expected_fits : (basis : Basis) (answer : Leaf → List ℕ) (shape : Form) → Fits (expected basis answer shape) shape
expected_fits basis answer nothing = tt
expected_fits basis answer the_nonce = tt
expected_fits basis answer (measured event place asp under) = (refl, expected_fits basis answer under)
expected_fits basis answer (measured_at event place target asp under) = (refl, expected_fits basis answer under)
expected_fits basis answer (sealed event place under) = (refl, expected_fits basis answer under)
expected_fits basis answer (hashed event place under) = refl
expected_fits basis answer (in_sequence left right) = (expected_fits basis answer left, expected_fits basis answer right)
expected_fits basis answer (in_parallel left right) = (expected_fits basis answer left, expected_fits basis answer right)

with_marks : (places : List PlaceEntry) (value : Evidence) (marks : Option (List ℕ)) (shape : Form) → Fits value shape → AreNoneOr places shape marks → FitsWith places value marks shape
with_marks places value None shape f m = f
with_marks places value (Some marks) shape f m = (f, m)

value_fits : (places : List PlaceEntry) (value : Evidence) (marks : Option (List ℕ)) (shape : Form) → FitsWith places value marks shape → Fits value shape
value_fits places value None shape f = f
value_fits places value (Some marks) shape f = f.0

marks_fit : (places : List PlaceEntry) (value : Evidence) (marks : Option (List ℕ)) (shape : Form) → FitsWith places value marks shape → AreNoneOr places shape marks
marks_fit places value None shape f = tt
marks_fit places value (Some marks) shape f = f.1

has_marks : (bytes : List ℕ) (value : Evidence) (marks : Option (List ℕ)) → IsEitherBundleOf bytes value marks → HasMarks value marks
has_marks bytes value None b = tt
has_marks bytes value (Some marks) b = b.fits.marked

pub is_accepted : (places : List PlaceEntry) (basis : Basis) (bytes : List ℕ) (shape : Form) → HasReferences basis.references shape → IsAccepted places basis bytes shape → (found : IsFound places bytes shape None) × IsTrue (all_good (verdicts basis found.value shape))
is_accepted places basis bytes shape r a =
    let P : Evidence → Type 0 = λ v. Fits v shape in
    let Q : Evidence → Type 0 = λ v. IsTrue (all_good (verdicts basis v shape)) in
    let fits = subst P (sym a.is) (expected_fits basis (answer_of a.answers) shape) in (
      record { value = a.value; marks = a.marks; bundle = a.bundle; fits = no_misfit places a.value a.marks shape (with_marks places a.value a.marks shape fits a.marked) },
      subst Q (sym a.is) (expected_is_accepted basis a.answers shape r.one a.references),
    )

pub accepted_is : (places : List PlaceEntry) (basis : Basis) (bytes : List ℕ) (shape : Form) → HasReferences basis.references shape → HaveOneEach (leaves shape) → (found : IsFound places bytes shape None) × IsTrue (all_good (verdicts basis found.value shape)) → IsAccepted places basis bytes shape
accepted_is places basis bytes shape r each (found, good) =
    let fits = fits_with places found.value found.marks shape (has_marks bytes found.value found.marks found.bundle) found.fits in
    let is = accepted_is_expected basis found.value shape (value_fits places found.value found.marks shape fits) r each good in
    record {
      value = found.value;
      marks = found.marks;
      answers = chosen basis.references found.value shape;
      bundle = found.bundle;
      marked = marks_fit places found.value found.marks shape fits;
      references = is.0;
      is = is.1;
    }

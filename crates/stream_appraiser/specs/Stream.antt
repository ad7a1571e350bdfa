-- What the appraisal of a bundle in pieces answers.
use Rattle.std.specs.Prelude.{◌≡◌, ℕ, List, Some, None, Option, Result, Ok, Err}
use Rattle.evidence_types.specs.Bundle.{IsEitherBundleOf}
use Rattle.evidence_types.specs.Evidence.{Evidence}
use Rattle.evidence_types.specs.Shape.{Form}
use Rattle.evidence_codec.specs.Reading.{fault, first_fault_of_either}
use Rattle.place_check.specs.declared.entry.PlaceEntry.{PlaceEntry}
use Rattle.appraiser.specs.declared.verdict.Verdict.{Verdict}
use Rattle.reference_book.specs.Leaves.{leaves}
use Rattle.appraiser.specs.Expected.{Basis, expected}
use Rattle.appraiser.specs.Fit.{AreMarksOf, misfit}
use Rattle.appraiser.specs.Laws.{AreExpected, answer_of}
use Rattle.appraiser.specs.Verdicts.{verdicts}
use Rattle.stream_appraiser.specs.declared.error.StreamError.{StreamError}
use Rattle.stream_appraiser.specs.declared.error.StreamError.TheVariants.{Bad, WrongShape, NoMemory}

-- bytes are a bundle of a value with marks, which appraisal finds so
pub record IsFound (places : List PlaceEntry) (bytes : List ℕ) (shape : Form) (node : Option ℕ) : Type 0 where
  pub value : Evidence
  pub marks : Option (List ℕ)
  pub bundle : IsEitherBundleOf bytes value marks
  pub fits : misfit places value marks shape ≡ node

-- the verdicts of the value whose bundle the bytes are, of either version; or their first fault where they are none;
-- or the first node that does not fit; or want of memory, which is free
abbrev pub Appraises : List PlaceEntry → Basis → List ℕ → Form → Result (List Verdict) StreamError → Type 0
Appraises places basis bytes shape (Ok found) =
    (is : IsFound places bytes shape None) × (found ≡ verdicts basis is.value shape)
Appraises places basis bytes shape (Err (Bad at kind)) = first_fault_of_either bytes ≡ Some (fault at kind)
Appraises places basis bytes shape (Err (WrongShape node)) = IsFound places bytes shape (Some node)
Appraises places basis bytes shape (Err NoMemory) = Unit {0}

-- marks, where there are any, are the indices of the places of the shape's measurements
abbrev pub AreNoneOr : List PlaceEntry → Form → Option (List ℕ) → Type 0
AreNoneOr places shape None = Unit {0}
AreNoneOr places shape (Some marks) = AreMarksOf places shape marks

-- bytes are a bundle, without marks or with those of the shape, of the value that is expected on answers by event of
-- which each is one of the references of its measurement
pub record IsAccepted (places : List PlaceEntry) (basis : Basis) (bytes : List ℕ) (shape : Form) : Type 0 where
  pub value : Evidence
  pub marks : Option (List ℕ)
  pub answers : List (ℕ × List ℕ)
  pub bundle : IsEitherBundleOf bytes value marks
  pub marked : AreNoneOr places shape marks
  pub references : AreExpected basis.references answers (leaves shape)
  pub is : value ≡ expected basis (answer_of answers) shape

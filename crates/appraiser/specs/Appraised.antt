-- What appraisal answers.
use Rattle.std.specs.Prelude.{◌≡◌, ◌<◌, ◌^◌, ℕ, List, length, Option, Some, None, Result, Ok, Err}
use Rattle.evidence_types.specs.Evidence.{Evidence}
use Rattle.evidence_types.specs.Marked.{measurements}
use Rattle.evidence_types.specs.Shape.{Form}
use Rattle.place_check.specs.declared.entry.PlaceEntry.{PlaceEntry}
use Rattle.place_check.specs.Places.{keys_of}
use Rattle.reference_book.specs.declared.reference.Reference.{Reference}
use Rattle.reference_book.specs.Leaves.{has_none, has_several, hashed_leaves, leaves, least_event}
use Rattle.appraiser.specs.declared.verdict.Verdict.{Verdict}
use Rattle.appraiser.specs.declared.appraising.AppraiseError.{AppraiseError}
use Rattle.appraiser.specs.declared.appraising.AppraiseError.TheVariants.{WrongShape, NoMemory}
use Rattle.appraiser.specs.Expected.{Basis, HasKeys}
use Rattle.appraiser.specs.Fit.{misfit, nodes}
use Rattle.appraiser.specs.Verdicts.{verdicts}

-- what a session with a nonce is appraised by, between these places and with these references
abbrev pub basis_of : List PlaceEntry → List Reference → List ℕ → Basis
basis_of places references nonce = record { nonce = nonce; keys = keys_of places; references = references }

-- each measurement of a shape has a reference, and none under a hash has several
pub record HasReferences (references : List Reference) (shape : Form) : Type 0 where
  pub all : least_event (has_none references) (leaves shape) ≡ None
  pub one : least_event (has_several references) (hashed_leaves shape) ≡ None

-- a shape by which values can be appraised: it has fewer than 2^32 nodes, its seals have keys, and its
-- measurements references
pub record CanAppraise (basis : Basis) (shape : Form) : Type 0 where
  pub few : length (nodes shape) < 2 ^ 32
  pub keys : HasKeys basis.keys shape
  pub references : HasReferences basis.references shape

-- marks, where there are any, are one for each measurement
abbrev pub HasMarks : Evidence → Option (List ℕ) → Type 0
HasMarks value None = Unit {0}
HasMarks value (Some marks) = length marks ≡ measurements value

-- the verdicts of a value that fits; or the first node that does not fit; or want of memory, which is free
abbrev pub Appraises : List PlaceEntry → Basis → Evidence → Option (List ℕ) → Form → Result (List Verdict) AppraiseError → Type 0
Appraises places basis value marks shape (Ok found) =
    (misfit places value marks shape ≡ None) × (found ≡ verdicts basis value shape)
Appraises places basis value marks shape (Err (WrongShape node)) = misfit places value marks shape ≡ Some node
Appraises places basis value marks shape (Err NoMemory) = Unit {0}

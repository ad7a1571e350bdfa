-- Which bytes are a bundle, of version 1 and of version 2.
use Rattle.std.specs.Prelude.{◌≡◌, ℕ, List, Option, None, Some}
use Rattle.evidence_types.specs.Evidence.{Evidence}
use Rattle.evidence_types.specs.Bytes.{FitsBundle, bundle}
use Rattle.evidence_types.specs.Marked.{FitsMarkedBundle, marked_bundle}
use Rattle.evidence_types.specs.WellFormed.{IsWellFormed}

-- bytes are the bundle of version 1 of a value, within the limits
pub record IsBundleOf (bytes : List ℕ) (value : Evidence) : Type 0 where
  pub well_formed : IsWellFormed value
  pub fits : FitsBundle value
  pub spelled : bytes ≡ bundle value

-- bytes are a bundle of version 1
abbrev pub IsBundle : List ℕ → Type 0
IsBundle bytes = (value : Evidence) × IsBundleOf bytes value

-- bytes are the bundle of version 2 of a value with these marks, within the limits
pub record IsMarkedBundleOf (bytes : List ℕ) (value : Evidence) (marks : List ℕ) : Type 0 where
  pub well_formed : IsWellFormed value
  pub fits : FitsMarkedBundle value marks
  pub spelled : bytes ≡ marked_bundle value marks

-- bytes are a bundle of a value: of version 2 with marks, of version 1 without
abbrev pub IsEitherBundleOf : List ℕ → Evidence → Option (List ℕ) → Type 0
IsEitherBundleOf bytes value None = IsBundleOf bytes value
IsEitherBundleOf bytes value (Some marks) = IsMarkedBundleOf bytes value marks

-- bytes are a bundle of either version
abbrev pub IsEitherBundle : List ℕ → Type 0
IsEitherBundle bytes = (value : Evidence) × (marks : Option (List ℕ)) × IsEitherBundleOf bytes value marks

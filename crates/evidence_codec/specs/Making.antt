-- What is made of the heads of a bundle while they come, and what a bundle that was read is.
use Rattle.std.specs.Prelude.{◌≡◌, ℕ, Bool, false, List}
use Rattle.evidence_types.specs.Bundle.{IsBundleOf, IsMarkedBundleOf}
use Rattle.evidence_types.specs.Evidence.{Evidence}
use Rattle.evidence_types.specs.Heads.{Head, marks_of}
use Rattle.evidence_codec.specs.declared.decoding.Made.{Made}
use Rattle.evidence_codec.specs.declared.reader.Reader.{Reader}
use Rattle.evidence_codec.specs.declared.version.Version.{Version}
use Rattle.evidence_codec.specs.declared.version.Version.TheVariants.{Plain, Marked}
use Rattle.evidence_codec.specs.Building.{Builds}
use Rattle.evidence_codec.specs.Decoding.{opens_of, whole_of}
use Rattle.evidence_codec.specs.Scanned.{Scanned}

-- these heads came to these open nodes or this whole value, and to these marks
pub record IsMade (read : List Head) (made : Made) : Type 0 where
  pub builds : Builds read (opens_of made.nodes.items) (whole_of made.whole)
  pub marks : made.marks.items ≡ marks_of read

-- a reader took these bytes, and this was made of the heads that they ended
pub record Goes (either : Bool) (bytes : List ℕ) (reader : Reader) (made : Made) : Type 0 where
  pub heads : List Head
  pub scanned : Scanned either bytes heads reader
  pub made_of : IsMade heads made

-- bytes are a bundle of this version, of a value with these marks; version 1 has none
abbrev pub IsBundleIn : Version → List ℕ → Evidence → List ℕ → Type 0
IsBundleIn Plain bytes value marks = IsBundleOf bytes value
IsBundleIn Marked bytes value marks = IsMarkedBundleOf bytes value marks

-- bytes are a bundle of a version that may be read
pub record IsRead (either : Bool) (bytes : List ℕ) (version : Version) (value : Evidence) (marks : List ℕ) : Type 0 where
  pub allowed : either ≡ false → version ≡ Plain
  pub bundle : IsBundleIn version bytes value marks

-- The versions of bundles, each with its byte, its greatest length, and whether measurements carry marks.
use Rattle.std.specs.Prelude.{◌≡◌, ℕ, List, [], length}
use Rattle.evidence_types.specs.declared.measure.TheConstants.{VALUE_BYTES, MARKED_BYTES}
use Rattle.evidence_codec.specs.declared.version.Version.{Version}
use Rattle.evidence_codec.specs.declared.version.Version.TheVariants.{Plain, Marked}

-- the byte behind "CPLB"
abbrev pub version_byte : Version → ℕ
version_byte Plain = 1
version_byte Marked = 2

-- the greatest length of a value's bytes
abbrev pub most : Version → ℕ
most Plain = VALUE_BYTES
most Marked = MARKED_BYTES

-- the marks of so many measurements: none in version 1, one for each in version 2
abbrev pub AreMarks : Version → ℕ → List ℕ → Type 0
AreMarks Plain count marks = marks ≡ []
AreMarks Marked count marks = length marks ≡ count

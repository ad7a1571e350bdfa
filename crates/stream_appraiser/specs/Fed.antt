-- What an appraiser in pieces was fed.
use Rattle.std.specs.Prelude.{◌≡◌, ◌<◌, ℕ, true, false, List, slice_index}
use Rattle.evidence_types.specs.Heads.{Head}
use Rattle.evidence_types.specs.Shape.{Form}
use Rattle.evidence_codec.specs.Scanned.{IsReader, Scanned}
use Rattle.place_check.specs.declared.entry.PlaceEntry.{PlaceEntry}
use Rattle.appraiser.specs.Expected.{Basis}
use Rattle.appraiser.specs.Given.{basis_in}
use Rattle.stream_appraiser.specs.declared.stream.StreamAppraiser.{StreamAppraiser}
use Rattle.stream_appraiser.specs.Standing.{opening, run}
use Rattle.stream_appraiser.specs.Walking.{IsWalk, Stands}

-- it met want of memory, and answers nothing else from then on
abbrev pub HasStarved : StreamAppraiser → Type 0
HasStarved appraiser = appraiser.starved ≡ true

-- what the calls that go on keep
pub record Goes (appraiser : StreamAppraiser) : Type 0 where
  pub reader : IsReader appraiser.reader
  pub walk : IsWalk (basis_in appraiser.given).keys appraiser.walk

-- an appraiser as `open` and `feed` leave it
pub record IsReady (appraiser : StreamAppraiser) : Type 0 where
  pub goes : appraiser.starved ≡ false → Goes appraiser

-- it appraises by this shape, between these places and on this basis, and was fed these bytes
pub record Fed (places : List PlaceEntry) (basis : Basis) (shape : Form) (bytes : List ℕ) (appraiser : StreamAppraiser) : Type 0 where
  pub places_are : appraiser.given.places.now ≡ places
  pub basis_is : basis_in appraiser.given ≡ basis
  pub small : (index : ℕ) → slice_index bytes index < 256
  pub heads : List Head
  pub scanned : Scanned true bytes heads appraiser.reader
  pub stands : Stands basis appraiser.walk (run places basis (opening shape) heads)

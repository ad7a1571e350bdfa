-- What holds of a reader, and what it was fed.
use Rattle.std.specs.Prelude.{◌≡◌, ◌+◌, ◌<◌, ◌≤◌, ℕ, Bool, false, List, [], ◌∷◌, length, Err}
use Rattle.evidence_types.specs.declared.measure.TheConstants.{VALUE_NESTING, MARKED_BYTES}
use Rattle.evidence_types.specs.Heads.{Head}
use Rattle.evidence_codec.specs.declared.fault.Stop.TheVariants.{Wanting}
use Rattle.evidence_codec.specs.declared.reader.Stage.{Stage}
use Rattle.evidence_codec.specs.declared.reader.Stage.TheVariants.{First, Second, Third, Fourth, Choosing, Sizing, Inside, Whole, Failed}
use Rattle.evidence_codec.specs.declared.reader.Reader.{Reader}
use Rattle.evidence_codec.specs.declared.version.Version.{Version}
use Rattle.evidence_codec.specs.Reading.{head_at}
use Rattle.evidence_codec.specs.Scanning.{Scan, opening, choosing, sizing, inside, whole, failed, start, scan}
use Rattle.evidence_codec.specs.Decoding.{scan_of}

-- The next head is wanted or begun: no more nodes are open than may nest, one fewer once a byte of the head is there;
-- the bytes that are there are not a head yet; and no offset passes the end of the longest bundle.
pub record IsInside (version : Version) (at left : ℕ) (nodes held : List ℕ) : Type 0 where
  pub few : length nodes ≤ VALUE_NESTING
  pub room : 1 ≤ length held → length nodes < VALUE_NESTING
  pub wanting : head_at version held ≡ Err Wanting
  pub within : at + length held + left < 9 + MARKED_BYTES

-- a reading that bytes lead to stands so
abbrev pub Stands : Scan → Type 0
Stands (opening [] at) = ⊥
Stands (opening (wanted ∷ more) at) = Unit {0}
Stands choosing = Unit {0}
Stands (sizing version held) = length held < 4
Stands (inside version at left nodes held) = IsInside version at left nodes held
Stands (whole version at) = Unit {0}
Stands (failed first) = Unit {0}

-- before the length, no head was read, no node is open, and no byte is kept
pub record IsEmpty (has_head : Bool) (nodes held : List ℕ) : Type 0 where
  pub no_head : has_head ≡ false
  pub no_nodes : nodes ≡ []
  pub nothing : held ≡ []

-- before the value, no head was read and no node is open
pub record IsSized (has_head : Bool) (nodes : List ℕ) : Type 0 where
  pub no_head : has_head ≡ false
  pub no_nodes : nodes ≡ []

-- what a reader keeps at each stage
abbrev pub Keeps : Stage → Bool → List ℕ → List ℕ → Type 0
Keeps First has_head nodes held = IsEmpty has_head nodes held
Keeps Second has_head nodes held = IsEmpty has_head nodes held
Keeps Third has_head nodes held = IsEmpty has_head nodes held
Keeps Fourth has_head nodes held = IsEmpty has_head nodes held
Keeps Choosing has_head nodes held = IsEmpty has_head nodes held
Keeps Sizing has_head nodes held = IsSized has_head nodes
Keeps (Inside at left) has_head nodes held = Unit {0}
Keeps (Whole at) has_head nodes held = Unit {0}
Keeps (Failed first) has_head nodes held = Unit {0}

-- a reader as `open` and `take` leave it
pub record IsReader (reader : Reader) : Type 0 where
  pub stands : Stands (scan_of reader)
  pub keeps : Keeps reader.stage reader.has_head reader.nodes reader.held.items

-- the reader reads version 1, or either; it took these bytes, and they ended these heads
pub record Scanned (either : Bool) (bytes : List ℕ) (heads : List Head) (reader : Reader) : Type 0 where
  pub reads : reader.either ≡ either
  pub came : scan either start bytes ≡ (heads, scan_of reader)

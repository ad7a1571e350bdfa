-- Reading a bundle byte by byte: where the reading stands, what one more byte makes of it, and what it comes to.
use Rattle.std.specs.Prelude.{◌+◌, ◌-◌, ℕ, suc, Bool, List, [], ◌∷◌, ◌++◌, length, Result, Ok, Err, nat_lt, nat_eq, if◌then◌else◌}
use Rattle.std.specs.Int.{w32, from_be_bytes}
use Rattle.evidence_types.specs.declared.measure.TheConstants.{VALUE_NESTING}
use Rattle.evidence_types.specs.Heads.{Head}
use Rattle.evidence_codec.specs.declared.fault.BadKind.TheVariants.{Short, Tag, Length, Rest, Deep}
use Rattle.evidence_codec.specs.declared.fault.Fault.{Fault}
use Rattle.evidence_codec.specs.declared.fault.Stop.TheVariants.{Wanting, Faulty}
use Rattle.evidence_codec.specs.declared.version.Version.{Version}
use Rattle.evidence_codec.specs.Versions.{most}
use Rattle.evidence_codec.specs.Reading.{◌>>=◌, fault, Front, head_at, part_count, version_of, Bundle, first_bytes}

-- where the reading of a bundle stands
pub data Scan : Type 0 where
  -- these first bytes are wanted, from this offset on
  opening : List ℕ → ℕ → Scan
  -- the byte of the version is wanted
  choosing : Scan
  -- bytes of the length are wanted, behind those that are there
  sizing : Version → List ℕ → Scan
  -- A byte of the value is wanted. The next head starts at this offset; so many of the value's bytes come behind the
  -- byte that is wanted; each open node waits for so many parts behind the one that is read, the innermost node
  -- first; and these bytes of the head are there.
  inside : Version → ℕ → ℕ → List ℕ → List ℕ → Scan
  -- all is read, up to this offset
  whole : Version → ℕ → Scan
  failed : Fault → Scan

-- nothing was read
abbrev pub start : Scan
start = opening first_bytes 0

-- what one byte makes: a head that it ends, if it ends one, and where the reading then stands
abbrev pub Step : Type 0
Step = List Head × Scan

-- the open nodes once the innermost part is read: a node that waits for no more is read too
abbrev pub closed : List ℕ → List ℕ
closed [] = []
closed (more ∷ below) = if nat_eq more 0 then closed below else (more - 1) ∷ below

-- the open nodes with one that has so many parts
abbrev pub opened : ℕ → List ℕ → List ℕ
opened parts nodes = if nat_eq parts 0 then closed nodes else (parts - 1) ∷ nodes

-- behind a head that ends at this offset, with so many of the value's bytes to come: all is read where no node is open,
-- and must end there; else another byte is wanted
abbrev pub behind_head : Version → ℕ → ℕ → List ℕ → Scan
behind_head version at left nodes =
    if nat_eq (length nodes) 0 then (if nat_eq left 0 then whole version at else failed (fault at Length))
    else (if nat_eq left 0 then failed (fault at Length) else inside version at (left - 1) nodes [])

-- what the bytes of a head come to, which start at this offset, with so many of the value's bytes to come
abbrev pub settled : Version → ℕ → ℕ → List ℕ → List ℕ → Front Head → Step
settled version at left nodes held (Ok found) = (found.0 ∷ [], behind_head version (at + length held) left (opened (part_count found.0) nodes))
settled version at left nodes held (Err Wanting) =
    ([], if nat_eq left 0 then failed (fault (at + length held) Length) else inside version at (left - 1) nodes held)
settled version at left nodes held (Err (Faulty index kind)) = ([], failed (fault (at + index) kind))

-- the value begins, of this length
abbrev pub begun : Version → ℕ → Scan
begun version len = if nat_eq len 0 then failed (fault 9 Length) else inside version 9 (len - 1) [] []

-- the length is read
abbrev pub sized : Version → ℕ → Scan
sized version len = if nat_lt (most version) len then failed (fault 5 Length) else begun version len

-- the version is read
abbrev pub chosen : Result Version Fault → Scan
chosen (Ok version) = sizing version []
chosen (Err first) = failed first

-- one of the first bytes is read
abbrev pub opened_by : List ℕ → ℕ → Scan
opened_by [] at = choosing
opened_by (wanted ∷ more) at = opening (wanted ∷ more) at

-- one more byte
unfoldable pub step : Bool → Scan → ℕ → Step
step either (opening [] at) byte = ([], failed (fault at Short))
step either (opening (wanted ∷ more) at) byte = ([], if nat_eq byte wanted then opened_by more (suc at) else failed (fault at Tag))
step either choosing byte = ([], chosen (version_of either byte))
step either (sizing version held) byte =
    ([], if nat_lt (length (held ++ byte ∷ [])) 4 then sizing version (held ++ byte ∷ []) else sized version (from_be_bytes w32 (held ++ byte ∷ [])))
step either (inside version at left nodes held) byte =
    if nat_lt (length nodes) VALUE_NESTING then settled version at left nodes (held ++ byte ∷ []) (head_at version (held ++ byte ∷ []))
    else ([], failed (fault at Deep))
step either (whole version at) byte = ([], failed (fault at Rest))
step either (failed first) byte = ([], failed first)

-- bytes one after the other: the heads that they end, and where the reading then stands
abbrev pub scan : Bool → Scan → List ℕ → Step
scan either state [] = ([], state)
scan either state (byte ∷ bytes) =
    ((step either state byte).0 ++ (scan either (step either state byte).1 bytes).0, (scan either (step either state byte).1 bytes).1)

-- no byte comes any more: the version, or the fault
abbrev pub ending : Scan → Result Version Fault
ending (opening wanted at) = Err (fault at Short)
ending choosing = Err (fault 4 Short)
ending (sizing version held) = Err (fault (5 + length held) Short)
ending (inside version at left nodes held) = Err (fault (at + length held) Short)
ending (whole version at) = Ok version
ending (failed first) = Err first

-- what was read
abbrev pub finished : Step → Result Bundle Fault
finished stood = ending stood.1 >>= λ version. Ok (version, stood.0)

-- What the readers of the code answer, against the definition of reading, and what its types stand for.
use Rattle.std.specs.Prelude.{◌≡◌, ℕ, Bool, true, false, List, [], ◌∷◌, drop, map, Option, Some, None, Result, Ok, Err}
use Rattle.evidence_types.specs.declared.value.Value.{Value}
use Rattle.evidence_types.specs.declared.head.Head.{Head as CodeHead}
use Rattle.evidence_types.specs.Evidence.{Evidence, evidence}
use Rattle.evidence_types.specs.Heads.{Head, head_of}
use Rattle.evidence_codec.specs.declared.fault.Fault.{Fault}
use Rattle.evidence_codec.specs.declared.fault.Stop.{Stop}
use Rattle.evidence_codec.specs.declared.fault.DecodeError.{DecodeError}
use Rattle.evidence_codec.specs.declared.fault.DecodeError.TheVariants.{Bad, NoMemory}
use Rattle.evidence_codec.specs.declared.nodes.Over.{Over as CodeOver}
use Rattle.evidence_codec.specs.declared.nodes.Over.TheVariants as code_over
use Rattle.evidence_codec.specs.declared.nodes.Open.{Open as CodeOpen}
use Rattle.evidence_codec.specs.declared.nodes.Open.TheVariants as code_open
use Rattle.evidence_codec.specs.declared.nodes.Filled.{Filled as CodeFilled}
use Rattle.evidence_codec.specs.declared.nodes.Filled.TheVariants as code_filled
use Rattle.evidence_codec.specs.declared.reader.Stage.{Stage}
use Rattle.evidence_codec.specs.declared.reader.Stage.TheVariants as stage
use Rattle.evidence_codec.specs.declared.reader.Reader.{Reader}
use Rattle.evidence_codec.specs.declared.version.Version.{Version}
use Rattle.evidence_codec.specs.Reading.{fault, Front, head_at, part_count, first_bytes}
use Rattle.evidence_codec.specs.Scanning.{Scan, opening, choosing, sizing, inside, whole, failed}
use Rattle.evidence_codec.specs.Building.{Over, usm_over, kim_over, seal_over, Open, over_open, left_open, right_open, Filled, closed, waiting}

-- what was returned, seen by `view`, is what reading gives
abbrev pub Gives : {X Y E : Type 0} → (X → Y) → Result X E → Result Y E → Type 0
Gives view (Ok x) read = read ≡ Ok (view x)
Gives view (Err e) read = read ≡ Err e

-- the error is the fault that reading gives, or want of memory, which is free
abbrev pub Fails : {Y : Type 0} → DecodeError → Result Y Fault → Type 0
Fails (Bad at kind) read = read ≡ Err (fault at kind)
Fails NoMemory read = Unit {0}

-- the number of the parts of what stands at the front
abbrev pub counted : Front Head → Result ℕ Stop
counted (Ok found) = Ok (part_count found.0)
counted (Err stop) = Err stop

-- ---- what the types of the code stand for

-- the nodes that wait, as the definitions have them
abbrev pub over_of : CodeOver → Over
over_of (code_over.Usm event answer) = usm_over event answer
over_of (code_over.Kim event answer) = kim_over event answer
over_of (code_over.Seal event bytes) = seal_over event bytes

abbrev pub open_of : CodeOpen → Open
open_of (code_open.Under node) = over_open (over_of node)
open_of (code_open.Left parallel) = left_open parallel
open_of (code_open.Right parallel left) = right_open parallel (evidence left.value)

abbrev pub opens_of : List CodeOpen → List Open
opens_of nodes = map open_of nodes

abbrev pub filled_of : CodeFilled → Filled
filled_of (code_filled.Closed value) = closed (evidence value)
filled_of (code_filled.Waiting node) = waiting (open_of node)

-- the whole value, where there is one
abbrev pub whole_of : Option Value → Option Evidence
whole_of None = None
whole_of (Some value) = Some (evidence value)

-- ---- the reader

-- where a reading stands, by its stage, its version, its open nodes, and the bytes of the next head
abbrev pub standing : Stage → Version → List ℕ → List ℕ → Scan
standing stage.First version nodes held = opening first_bytes 0
standing stage.Second version nodes held = opening (drop 1 first_bytes) 1
standing stage.Third version nodes held = opening (drop 2 first_bytes) 2
standing stage.Fourth version nodes held = opening (drop 3 first_bytes) 3
standing stage.Choosing version nodes held = choosing
standing stage.Sizing version nodes held = sizing version held
standing (stage.Inside at left) version nodes held = inside version at left nodes held
standing (stage.Whole at) version nodes held = whole version at
standing (stage.Failed first) version nodes held = failed first

-- the bytes that are there of a head that isn't whole
abbrev pub held_of : Bool → List ℕ → List ℕ
held_of true held = []
held_of false held = held

-- where the reading of a reader stands
abbrev pub scan_of : Reader → Scan
scan_of reader = standing reader.stage reader.version reader.nodes (held_of reader.has_head reader.held.items)

-- the head at the front, as a list
abbrev pub head_in : Front Head → List Head
head_in (Ok found) = found.0 ∷ []
head_in (Err stop) = []

-- that head where there is one
abbrev pub given_by : Bool → Front Head → List Head
given_by true found = head_in found
given_by false found = []

-- the head that the last byte ended
abbrev pub given : Reader → List Head
given reader = given_by reader.has_head (head_at reader.version reader.held.items)

-- a head of the program is the one in the list, which may be empty
abbrev pub Shows : Option CodeHead → List Head → Type 0
Shows None heads = heads ≡ []
Shows (Some head) heads = heads ≡ head_of head ∷ []

-- what was returned, seen by `view`, is what reading gives, unless memory ran out
abbrev pub Decodes : {X Y : Type 0} → (X → Y) → Result X DecodeError → Result Y Fault → Type 0
Decodes view (Ok x) read = read ≡ Ok (view x)
Decodes view (Err error) read = Fails error read

-- the error is this first fault, or want of memory, which is free
abbrev pub Names : DecodeError → Option Fault → Type 0
Names (Bad at kind) first = first ≡ Some (fault at kind)
Names NoMemory first = Unit {0}

-- what was returned is this value with these marks, unless memory ran out
abbrev pub DecodesTo : {X : Type 0} → Evidence → Option (List ℕ) → (X → Evidence) → (X → Option (List ℕ)) → Result X DecodeError → Type 0
DecodesTo value marks value_of marks_of (Ok found) = (value_of found ≡ value) × (marks_of found ≡ marks)
DecodesTo value marks value_of marks_of (Err (Bad at kind)) = ⊥
DecodesTo value marks value_of marks_of (Err NoMemory) = Unit {0}

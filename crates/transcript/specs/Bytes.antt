-- The bytes of a history (this project's own).
use Rattle.std.specs.Prelude.{◌≡◌, ◌<◌, ◌^◌, ℕ, List, [], ◌∷◌, ◌++◌, length}
use Rattle.phrase_tree.specs.Name.{IsName}
use Rattle.evidence_types.specs.Answer.{FitsAnswer}
use Rattle.evidence_types.specs.Bytes.{be16, be32}
use Rattle.bench_trait.specs.declared.bench.BenchFault.{BenchFault}
use Rattle.bench_trait.specs.declared.bench.BenchFault.TheVariants.{NoArtefact, Broken}
use Rattle.session_runs.specs.Standing.{Block, root, of, Move, run, ask, deliver, Entry, opened, played, answered, failed, starved}

-- the bytes of a block's name
abbrev pub block_bytes : Block → List ℕ
block_bytes root = 0 ∷ []
block_bytes (of number) = 1 ∷ be32 number

-- of a fault
abbrev pub fault_bytes : BenchFault → List ℕ
fault_bytes NoArtefact = 0 ∷ []
fault_bytes (Broken code) = 1 ∷ be16 code

-- of an entry: a tag, its pass, and a rest; the opening and want of memory have none
abbrev pub entry_bytes : Entry → List ℕ
entry_bytes opened = []
entry_bytes (played pass (run block)) = 0 ∷ (be32 pass ++ block_bytes block)
entry_bytes (played pass (ask block)) = 1 ∷ (be32 pass ++ block_bytes block)
entry_bytes (played pass (deliver place)) = 2 ∷ (be32 pass ++ (length place ∷ place))
entry_bytes (answered pass event answer) = 3 ∷ (be32 pass ++ (be32 event ++ (be16 (length answer) ++ answer)))
entry_bytes (failed pass event fault) = 4 ∷ (be32 pass ++ (be32 event ++ fault_bytes fault))
entry_bytes (starved pass event) = []

-- of entries one after the other
abbrev pub entries_bytes : List Entry → List ℕ
entries_bytes [] = []
entries_bytes (entry ∷ entries) = entry_bytes entry ++ entries_bytes entries

-- its numbers fit their bytes, a place is a name, and an answer has at most 1,024 bytes
abbrev pub BlockFits : Block → Type 0
BlockFits root = Unit {0}
BlockFits (of number) = number < 2 ^ 32

abbrev pub MoveFits : Move → Type 0
MoveFits (run block) = BlockFits block
MoveFits (ask block) = BlockFits block
MoveFits (deliver place) = IsName place

abbrev pub FaultFits : BenchFault → Type 0
FaultFits NoArtefact = Unit {0}
FaultFits (Broken code) = code < 2 ^ 16

-- an entry can be written; want of memory can't, and the opening isn't
abbrev pub CanBeWritten : Entry → Type 0
CanBeWritten opened = ⊥
CanBeWritten (played pass move) = (pass < 2 ^ 32) × MoveFits move
CanBeWritten (answered pass event answer) = (pass < 2 ^ 32) × (event < 2 ^ 32) × FitsAnswer answer
CanBeWritten (failed pass event fault) = (pass < 2 ^ 32) × (event < 2 ^ 32) × FaultFits fault
CanBeWritten (starved pass event) = ⊥

abbrev pub CanAllBeWritten : List Entry → Type 0
CanAllBeWritten [] = Unit {0}
CanAllBeWritten (entry ∷ entries) = CanBeWritten entry × CanAllBeWritten entries

-- the first bytes of every transcript: "CPLT", and the version 1
abbrev pub transcript_head : List ℕ
transcript_head = 67 ∷ 80 ∷ 76 ∷ 84 ∷ 1 ∷ []

-- the transcript of a history with these entries behind its opening: the head, their number, and their bytes
abbrev pub transcript : List Entry → List ℕ
transcript entries = transcript_head ++ (be32 (length entries) ++ entries_bytes entries)

-- bytes are the transcript of a history
pub record IsTranscriptOf (bytes : List ℕ) (history : List Entry) : Type 0 where
  pub entries : List Entry
  pub opens : history ≡ opened ∷ entries
  pub few : length entries < 2 ^ 32
  pub written : CanAllBeWritten entries
  pub spelled : bytes ≡ transcript entries

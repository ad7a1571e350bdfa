-- Which blocks an entry of a history touches, so that all others can do next what they could before; and at
-- which places requests then wait (this project's own).
use Rattle.std.specs.Prelude.{ℕ, Bool, true, false, List, [], ◌∷◌, Option, None, Some, drop, nat_eq, ◌||◌, if◌then◌else◌}
use Rattle.std.specs.Cmp.Lexicographic.{pointwise}
use Rattle.evidence_types.specs.Evidence.{Evidence}
use Rattle.avm_code.specs.declared.instr.BlockName.{BlockName}
use Rattle.avm_code.specs.declared.instr.BlockName.TheVariants.{Root, Of}
use Rattle.avm_code.specs.declared.instr.Instr.{Instr}
use Rattle.avm_code.specs.declared.instr.Instr.TheVariants.{Send, Fork, End}
use Rattle.avm_code.specs.declared.program.Block.{Block as CodeBlock}
use Rattle.avm_code.specs.Blocks.{waiting_for}
use Rattle.machine_tables.specs.Tables.{BlockState, not_started, running, over, Tables, Next, same_name}
use Rattle.session_runs.specs.Standing.{Block, root, of, run, ask, deliver, Entry, opened, played, answered, failed, starved}

-- the block of a name
abbrev pub named : BlockName → Block
named Root = root
named (Of number) = of number

-- where a block ends: the block that waits for it; none does for the root
abbrev pub waiting_block : List CodeBlock → Block → List Block
waiting_block program root = []
waiting_block program (of number) = named (waiting_for number program) ∷ []

-- the block that this instruction starts, or that waits for the one that it ends
abbrev pub touched_by : List CodeBlock → Block → Instr → List Block
touched_by program name (Fork number split) = of number ∷ []
touched_by program name End = waiting_block program name
touched_by program name _ = []

abbrev pub touched_in : List CodeBlock → Block → List Instr → List Block
touched_in program name [] = []
touched_in program name (instr ∷ rest) = touched_by program name instr

abbrev pub touched_at : List CodeBlock → Block → BlockState → List Block
touched_at program name not_started = []
touched_at program name (running for_request local) = touched_in program name local.rest
touched_at program name (over result) = []

-- the block of the first request
abbrev pub first_block : List (ℕ × Evidence) → List Block
first_block [] = []
first_block (request ∷ rest) = of request.0 ∷ []

-- the block that asked
abbrev pub asking_block : Option (ℕ × Block) → List Block
asking_block None = []
asking_block (Some asked) = asked.1 ∷ []

-- the blocks that an entry touches: the one that runs, asks or gets its answer; the one that it starts; and
-- the one that waits for the block that it ends
abbrev pub touched : List CodeBlock → Tables → Entry → List Block
touched program tables opened = []
touched program tables (played pass (run name)) = name ∷ touched_at program name (tables.blocks name)
touched program tables (played pass (ask name)) = name ∷ []
touched program tables (played pass (deliver place)) = first_block (tables.requests place)
touched program tables (answered pass event bytes) = asking_block (tables.in_flight event)
touched program tables (failed pass event fault) = []
touched program tables (starved pass event) = []

-- what a block can do next: by the new function if it is one of these, and else by the old one
abbrev pub changed_at : List Block → (Block → Next) → (Block → Next) → Block → Next
changed_at [] new old block = old block
changed_at (name ∷ names) new old block = if same_name name block then new block else changed_at names new old block

-- a request waits
abbrev pub any_waits : List (ℕ × Evidence) → Bool
any_waits [] = false
any_waits (request ∷ rest) = true

-- the next instruction of a block sends a request to the place
abbrev pub sends_to : List ℕ → Instr → Bool
sends_to place (Send number asked) = pointwise nat_eq asked place
sends_to place _ = false

abbrev pub sends_in : List ℕ → List Instr → Bool
sends_in place [] = false
sends_in place (instr ∷ rest) = sends_to place instr

abbrev pub sends_at : List ℕ → BlockState → Bool
sends_at place not_started = false
sends_at place (running for_request local) = sends_in place local.rest
sends_at place (over result) = false

-- whether a request waits at a place after an entry: a send's place gains one, and a delivery's place loses
-- one
abbrev pub waits_after : Tables → Entry → List ℕ → Bool
waits_after tables (played pass (run name)) place = sends_at place (tables.blocks name) || any_waits (tables.requests place)
waits_after tables (played pass (deliver at)) place =
    any_waits (if pointwise nat_eq at place then drop 1 (tables.requests at) else tables.requests place)
waits_after tables _ place = any_waits (tables.requests place)

-- What a step asks of the world is there: by the instruction, and then by what the step answered.
use Rattle.std.proofs.Common.{◌≡◌, ℕ, zero, suc, Bool, true, false, cond, List, [], ◌∷◌, length, slice_index_or}
use Rattle.std.specs.List.{AllByRecursion}
use Rattle.avm_code.specs.declared.instr.BlockName.{BlockName}
use Rattle.avm_code.specs.declared.instr.BlockName.TheVariants.{Root, Of}
use Rattle.avm_code.specs.declared.instr.Instr.{Instr}
use Rattle.avm_code.specs.declared.instr.Instr.TheVariants.{Copy, Usm, Kim, Sign, Hash, Null, Split, Swap, JoinSeq, Send, Recv, Fork, JoinPar, End}
use Rattle.avm_code.specs.declared.program.Block.{Block}
use Rattle.avm_code.specs.Blocks.{blocks_named, is_named}
use Rattle.avm_code.specs.Order.{HasBlock, blocks_called, code_called, first_code}
use Rattle.machine_tables.specs.Row.{Setting, Local, Deed, sent, forked, needs_child, row}
use Rattle.avm_core.specs.declared.machine.Machine.{Machine}
use Rattle.avm_core.specs.declared.stepped.Stepped.{Stepped}
use Rattle.avm_core.specs.declared.stepped.Stepped.TheVariants.{Event, Silent, Sent, Forked, NeedsAnswer, NeedsReply, NeedsChild, Ended}
use Rattle.avm_core.specs.Machine.{next_of}
use Rattle.avm_core.specs.Steps.{deed_of, NamesValue, IsAwaited}
use Rattle.branch_join.specs.declared.state.BlockState.TheVariants.{NotStarted}
use Rattle.branch_join.specs.Blocks.{state_of, result_of}
use Rattle.machine_world.specs.declared.runner.Runner.{Runner}
use Rattle.machine_world.specs.declared.world.World.{World}
use Rattle.machine_world.specs.World.{IsListed, IsKnown, KnowsNames, JoinFits, AllowsStep}
use Rattle.machine_world.specs.Calls.{CanSettle}

-- what a deed wants of the world
abbrev pub Wants : World → Runner → Deed → Type 0
Wants world runner (sent i place e) =
    HasBlock world.program (Of i) × IsListed world.places.items place
Wants world runner (forked i e) = HasBlock world.program (Of i) × (state_of world.table (Of i) ≡ NotStarted)
Wants world runner (needs_child j i) =
    JoinFits world.store.values runner.machine.evidence (result_of (state_of world.table (Of i)))
Wants world runner _ = Unit {0}

pub wants-row : (world : World) (runner : Runner) (setting : Setting) (instr : Instr) (held : Local) → IsKnown world.program world.places.items instr → AllowsStep world runner.machine instr → Wants world runner (row setting instr held).0
wants-row world runner setting (Copy i) held known allows = tt
wants-row world runner setting (Usm i asp) held known allows = tt
wants-row world runner setting (Kim i target asp) held known allows = tt
wants-row world runner setting (Sign i) held known allows = tt
wants-row world runner setting (Hash i) held known allows = tt
wants-row world runner setting (Null i) held known allows = tt
wants-row world runner setting (Split i split) held known allows = tt
wants-row world runner setting Swap held known allows = tt
wants-row world runner setting (JoinSeq i) held known allows = tt
wants-row world runner setting (Send i asked) held known allows = known
wants-row world runner setting (Recv j i) held known allows = tt
wants-row world runner setting (Fork i split) held known allows = (known, allows)
wants-row world runner setting (JoinPar j i) held known allows = allows
wants-row world runner setting End held known allows = tt

pub settles : (world : World) (runner : Runner) (stepped : Stepped) → Wants world runner (deed_of world.store.values stepped) → NamesValue (length world.store.values) stepped → IsAwaited (deed_of world.store.values stepped) (next_of world.program runner.machine) → CanSettle world runner stepped
settles world runner (Event i) wants named awaits = tt
settles world runner Silent wants named awaits = tt
settles world runner (Sent i place id) wants named awaits = (wants.0, wants.1, named)
settles world runner (Forked i id) wants named awaits = (wants.0, wants.1, named)
settles world runner (NeedsAnswer i) wants named awaits = tt
settles world runner (NeedsReply j i) wants named awaits = awaits
settles world runner (NeedsChild j i) wants named awaits = (awaits, wants)
settles world runner (Ended id) wants named awaits = named

-- ---- the names in the next instruction are known

chosen : (P : Block → Type 0) (one : Block) (rest : List Block) (b : Bool) → P one → AllByRecursion P rest → AllByRecursion P (cond b (one ∷ rest) rest)
chosen P one rest true h all = (h, all)
chosen P one rest false h all = all

named_all : (P : Block → Type 0) (n : ℕ) (blocks : List Block) → AllByRecursion P blocks → AllByRecursion P (blocks_named n blocks)
named_all P n [] all = tt
named_all P n (one ∷ rest) all = chosen P one (blocks_named n rest) (is_named n one.name) all.0 (named_all P n rest all.1)

called_all : (P : Block → Type 0) (name : BlockName) (blocks : List Block) → AllByRecursion P blocks → AllByRecursion P (blocks_called blocks name)
called_all P Root blocks all = all
called_all P (Of n) blocks all = named_all P n blocks all

first_known : (program : List Block) (places : List (List ℕ)) (blocks : List Block) → AllByRecursion (KnowsNames program places) blocks → AllByRecursion (IsKnown program places) (first_code blocks)
first_known program places [] all = tt
first_known program places (block ∷ rest) all = all.0

known_at : (program : List Block) (places : List (List ℕ)) (code : List Instr) (at : ℕ) → AllByRecursion (IsKnown program places) code → IsKnown program places (slice_index_or code at End)
known_at program places [] at all = tt
known_at program places (instr ∷ rest) zero all = all.0
known_at program places (instr ∷ rest) (suc at) all = known_at program places rest at all.1

pub next-known : (program : List Block) (places : List (List ℕ)) (machine : Machine) → AllByRecursion (KnowsNames program places) program → IsKnown program places (next_of program machine)
next-known program places machine all =
    known_at program places (code_called program machine.name) machine.at (first_known program places (blocks_called program machine.name) (called_all (KnowsNames program places) machine.name program all))

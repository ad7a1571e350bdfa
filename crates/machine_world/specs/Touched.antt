-- Which request or reply a block's next instruction sends or needs, by the id of the evidence that it sends.
use Rattle.std.specs.Prelude.{◌≡◌, ◌<◌, ℕ, Bool, true, false, List, [], ◌∷◌, length}
use Rattle.evidence_types.specs.Evidence.{Evidence}
use Rattle.evidence_store.specs.Kept.{value_at}
use Rattle.avm_code.specs.declared.instr.BlockName.{BlockName}
use Rattle.avm_code.specs.declared.instr.BlockName.TheVariants.{Root, Of}
use Rattle.avm_code.specs.declared.instr.Instr.{Instr}
use Rattle.avm_code.specs.declared.instr.Instr.TheVariants.{Send, Recv, End}
use Rattle.machine_tables.specs.Row.{Local}
use Rattle.machine_tables.specs.Tables.{BlockState as Cell, not_started, running, over}
use Rattle.machine_world.specs.declared.moved.Touched.{Touched}
use Rattle.machine_world.specs.declared.moved.Touched.TheVariants.{Nothing, SendsRequest, SendsReply, NeedsReply}

-- the end of a block that runs a request sends the reply to it, and no other end does
abbrev pub touched_at_end : BlockName → Bool → ℕ → Touched
touched_at_end Root remote id = Nothing
touched_at_end (Of number) true id = SendsReply number id
touched_at_end (Of number) false id = Nothing

-- what a block on the evidence of this id touches with an instruction
abbrev pub touched_by : BlockName → Bool → ℕ → Instr → Touched
touched_by name remote id (Send number asked) = SendsRequest number id
touched_by name remote id (Recv event number) = NeedsReply number
touched_by name remote id End = touched_at_end name remote id
touched_by name remote id _ = Nothing

-- what a block that runs touches with an instruction, by the id of the evidence that it holds
pub record IsTouched (values : List Evidence) (name : BlockName) (remote : Bool) (local : Local) (instr : Instr) (touched : Touched) : Type 0 where
  pub id : ℕ
  pub known : id < length values
  pub holds : value_at values id ≡ local.evidence
  pub is : touched ≡ touched_by name remote id instr

abbrev pub TouchesNext : List Evidence → BlockName → Bool → Local → List Instr → Touched → Type 0
TouchesNext values name remote local [] touched = touched ≡ Nothing
TouchesNext values name remote local (instr ∷ rest) touched = IsTouched values name remote local instr touched

-- what a block touches that stands like this: nothing where it doesn't run
abbrev pub TouchesAt : List Evidence → BlockName → Cell → Touched → Type 0
TouchesAt values name not_started touched = touched ≡ Nothing
TouchesAt values name (running remote local) touched = TouchesNext values name remote local local.rest touched
TouchesAt values name (over result) touched = touched ≡ Nothing

-- What a block did that did something (this project's own).
use Rattle.std.specs.Prelude.{◌≡◌, ℕ, Bool, List, ◌∷◌}
use Rattle.avm_code.specs.declared.instr.Instr.{Instr}
use Rattle.machine_tables.specs.Row.{Local}
use Rattle.machine_tables.specs.Tables.{BlockState, running}
use Rattle.machine_world.specs.declared.moved.Moved.{Moved}
use Rattle.machine_world.specs.declared.moved.Moved.TheVariants.{Waits}
use Rattle.machine_world.specs.Does.{DoesNext}

-- it is what this instruction does, and not nothing
abbrev pub DidNext : List (List ℕ) → Moved → Instr → Type 0
DidNext places Waits instr = ⊥
DidNext places moved instr = DoesNext places moved instr

-- a block that stood like this did what its next instruction does
pub record Did (places : List (List ℕ)) (moved : Moved) (cell : BlockState) : Type 0 where
  pub for_request : Bool
  pub local : Local
  pub instr : Instr
  pub rest : List Instr
  pub runs : cell ≡ running for_request local
  pub next : local.rest ≡ instr ∷ rest
  pub does : DidNext places moved instr

-- What a call of a world that lets a block go on answers, by the instruction that the block did.
use Rattle.std.specs.Prelude.{◌≡◌, ℕ, Bool, List, ◌∷◌}
use Rattle.phrase_tree.specs.declared.phrase.Split.{Split}
use Rattle.avm_code.specs.declared.instr.Instr.{Instr}
use Rattle.avm_code.specs.declared.instr.Instr.TheVariants.{Send, Fork, End}
use Rattle.machine_tables.specs.Row.{Local}
use Rattle.machine_tables.specs.Tables.{BlockState as Cell, running}
use Rattle.machine_world.specs.declared.moved.Moved.{Moved}
use Rattle.machine_world.specs.declared.moved.Moved.TheVariants.{Waits, Silent, Happened, Sent, Forked, Ended}
use Rattle.machine_world.specs.Seen.{IsPlace}

-- an instruction that sends no request, starts no block and doesn't end its own
abbrev pub IsPlain : Instr → Type 0
IsPlain (Send number asked) = ⊥
IsPlain (Fork number split) = ⊥
IsPlain End = ⊥
IsPlain _ = Unit {0}

-- the answer is that of an instruction, between these places
abbrev pub DoesNext : List (List ℕ) → Moved → Instr → Type 0
DoesNext places Waits instr = Unit {0}
DoesNext places Silent instr = IsPlain instr
DoesNext places (Happened event) instr = IsPlain instr
DoesNext places (Sent event index id) instr = (asked : List ℕ) × (instr ≡ Send event asked) × IsPlace places asked index
DoesNext places (Forked number) instr = (split : Split) × (instr ≡ Fork number split)
DoesNext places (Ended id) instr = instr ≡ End

-- a block ran that stood like this, and the answer is that of its next instruction
pub record Does (places : List (List ℕ)) (moved : Moved) (cell : Cell) : Type 0 where
  pub for_request : Bool
  pub local : Local
  pub instr : Instr
  pub rest : List Instr
  pub runs : cell ≡ running for_request local
  pub next : local.rest ≡ instr ∷ rest
  pub does : DoesNext places moved instr

-- where a block did something
abbrev pub IfMoves : Moved → Type 0 → Type 0
IfMoves Waits Holds = Unit {0}
IfMoves _ Holds = Holds

-- What the tables of a session let its machines do next.
use Rattle.std.specs.Prelude.{◌≡◌, ℕ, Bool, List, [], ◌∷◌, Option, None, Some}
use Rattle.evidence_types.specs.Evidence.{Evidence}
use Rattle.evidence_types.specs.Bytes.{FitsBundle}
use Rattle.session_model.specs.Value.{Makings}
use Rattle.session_runs.specs.Moves.{run as run_step, Effect, happens}
use Rattle.session_runs.specs.Standing.{Block, of}
use Rattle.avm_code.specs.declared.instr.Instr.{Instr}
use Rattle.avm_code.specs.declared.instr.Instr.TheVariants.{Usm, Kim}
use Rattle.avm_code.specs.declared.program.Block.{Block as CodeBlock}
use Rattle.avm_code.specs.Order.{place_called}
use Rattle.machine_tables.specs.Row.{Local, measured}
use Rattle.machine_tables.specs.Tables.{Tables, BlockState, not_started, running, over, Change, forks, Acted, act, block_name}

-- what the machine of a block would do next, holding this
abbrev pub acted_by : List CodeBlock → Makings → Tables → Block → Local → Acted
acted_by program from tables name local =
    act (record { place = place_called program (block_name name); from = from }) tables run_step local

-- a step of the block is one that its machine can take: the evidence that it would hold then is within the
-- limits of a bundle, and an arm that it would start isn't started
pub record MayRun (program : List CodeBlock) (from : Makings) (tables : Tables) (name : Block) : Type 0 where
  pub fits : (for_request : Bool) (local : Local) (effect : Effect) (change : Change) (after : Local) → tables.blocks name ≡ running for_request local → acted_by program from tables name local ≡ Some (effect, change, after) → FitsBundle after.evidence
  pub fresh : (for_request : Bool) (local : Local) (number : ℕ) (before : Evidence) (after : Local) → tables.blocks name ≡ running for_request local → acted_by program from tables name local ≡ Some (happens number, forks number before, after) → tables.blocks (of number) ≡ not_started

-- the block whose request is the first at a place isn't started
abbrev pub MayDeliver : Tables → List ℕ → Type 0
MayDeliver tables place =
    (request : ℕ × Evidence) (rest : List (ℕ × Evidence)) → tables.requests place ≡ request ∷ rest → tables.blocks (of request.0) ≡ not_started

-- the instruction is a measurement, and this is its event
abbrev pub Measures : ℕ → Instr → Type 0
Measures event (Usm i asp) = i ≡ event
Measures event (Kim i target asp) = i ≡ event
Measures event _ = ⊥

-- the block waits for the answer of an event, and its evidence under that answer is within the limits of a
-- bundle
pub record MayAnswer (tables : Tables) (event : ℕ) (bytes : List ℕ) (name : Block) : Type 0 where
  pub for_request : Bool
  pub local : Local
  pub instr : Instr
  pub rest : List Instr
  pub runs : tables.blocks name ≡ running for_request local
  pub next : local.rest ≡ instr ∷ rest
  pub measures : Measures event instr
  pub fits : FitsBundle (measured instr bytes local.evidence)

-- The questions that the code of a session's blocks asks (this project's own).
use Rattle.std.specs.Prelude.{◌≡◌, ℕ, Bool, List, ◌∷◌, Some}
use Rattle.bench_trait.specs.declared.ask.AskKind.TheVariants.{Usm as AsksUsm, Kim as AsksKim}
use Rattle.bench_trait.specs.Asking.{question}
use Rattle.avm_code.specs.declared.instr.Instr.{Instr}
use Rattle.avm_code.specs.declared.instr.Instr.TheVariants.{Usm, Kim}
use Rattle.machine_tables.specs.Row.{Local}
use Rattle.machine_tables.specs.Tables.{BlockState, running}
use Rattle.machine_tables.specs.Allowed.{Measures}
use Rattle.session_model.specs.Session.{Session}

-- an instruction of a block at a place that measures is for an event of the session, whose question is
-- this place's and of this measurement
abbrev pub AsksItsQuestion : Session → List ℕ → Instr → Type 0
AsksItsQuestion session place (Usm event asp) =
    question session.phrase session.root session.nonce event ≡ Some (record { nonce = session.nonce; event = event; place = place; kind = AsksUsm; asp = asp })
AsksItsQuestion session place (Kim event target asp) =
    question session.phrase session.root session.nonce event ≡ Some (record { nonce = session.nonce; event = event; place = place; kind = AsksKim target; asp = asp })
AsksItsQuestion session place _ = Unit {0}

-- a block at a place runs, and its next instruction measures this event and asks its question
pub record AsksNext (session : Session) (place : List ℕ) (event : ℕ) (state : BlockState) : Type 0 where
  pub for_request : Bool
  pub local : Local
  pub instr : Instr
  pub rest : List Instr
  pub runs : state ≡ running for_request local
  pub next : local.rest ≡ instr ∷ rest
  pub measures : Measures event instr
  pub asks : AsksItsQuestion session place instr

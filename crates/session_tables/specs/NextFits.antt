-- What the next instruction of a block makes is within the limits of a bundle (this project's own).
use Rattle.std.specs.Prelude.{◌≡◌, ℕ, List, [], ◌∷◌, Option, None, Some}
use Rattle.evidence_types.specs.Answer.{FitsAnswer}
use Rattle.evidence_types.specs.Bytes.{FitsBundle}
use Rattle.evidence_types.specs.Evidence.{Evidence, par_pair}
use Rattle.avm_code.specs.declared.instr.Instr.{Instr}
use Rattle.avm_code.specs.declared.instr.Instr.TheVariants.{Usm, Kim, JoinPar}
use Rattle.machine_tables.specs.Row.{Setting, Local, row, measured, NewFits}
use Rattle.machine_tables.specs.Tables.{BlockState, not_started, running, over, Tables, Change, result_of, act_on}
use Rattle.machine_tables.specs.Allowed.{Measures}
use Rattle.session_runs.specs.Moves.{run as run_step, Effect}
use Rattle.session_runs.specs.Standing.{of}

-- the two results of a parallel branch, where the second is there, and the pair of them
abbrev pub JoinFits : Evidence → Option Evidence → Type 0
JoinFits left None = Unit {0}
JoinFits left (Some right) = FitsBundle left × FitsBundle right × FitsBundle (par_pair left right)

-- what a join in parallel makes
abbrev pub PairFits : Tables → Instr → Local → Type 0
PairFits tables (JoinPar event number) local = JoinFits local.evidence (result_of (tables.blocks (of number)))
PairFits tables _ local = Unit {0}

-- what every answer of at most 1,024 bytes makes of a measurement
abbrev pub AnswerFits : Instr → Local → Type 0
AnswerFits (Usm event asp) local =
    (bytes : List ℕ) → FitsAnswer bytes → FitsBundle (measured (Usm event asp) bytes local.evidence)
AnswerFits (Kim event target asp) local =
    (bytes : List ℕ) → FitsAnswer bytes → FitsBundle (measured (Kim event target asp) bytes local.evidence)
AnswerFits _ local = Unit {0}

-- what a machine holds after an instruction, where it can run on
abbrev pub AfterFits : Setting → Tables → Instr → Local → Type 0
AfterFits setting tables instr local =
    (effect : Effect) (change : Change) (after : Local) → act_on tables run_step local (row setting instr local).0 (row setting instr local).1 ≡ Some (effect, change, after) → FitsBundle after.evidence

-- what an instruction makes, by itself, of the result of a block, and of an answer; and what is held after it
pub record NextFits (setting : Setting) (tables : Tables) (instr : Instr) (local : Local) : Type 0 where
  pub made : NewFits setting instr local
  pub pair : PairFits tables instr local
  pub answer : AnswerFits instr local
  pub after : AfterFits setting tables instr local

-- the first instruction is the measurement of this event
abbrev pub FirstMeasures : ℕ → List Instr → Type 0
FirstMeasures event [] = ⊥
FirstMeasures event (instr ∷ rest) = Measures event instr

-- a block runs whose next instruction is the measurement of this event
abbrev pub IsAsking : ℕ → BlockState → Type 0
IsAsking event not_started = ⊥
IsAsking event (running for_request local) = FirstMeasures event local.rest
IsAsking event (over result) = ⊥

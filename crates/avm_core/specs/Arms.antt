-- What the machine's small steps do, by ids.
use Rattle.std.specs.Prelude.{◌≡◌, ◌+◌, ◌<◌, ◌≤◌, ℕ, List, [], ◌∷◌, length, drop, Result, Ok, Err, IfOk, OnOk, OnErr, IsOk}
use Rattle.phrase_tree.specs.declared.memory.NoMemory.{NoMemory}
use Rattle.phrase_tree.specs.declared.phrase.Split.{Split}
use Rattle.evidence_types.specs.Evidence.{Evidence, empty}
use Rattle.session_model.specs.Value.{part}
use Rattle.evidence_store.specs.Kept.{Kept, Grows, value_at}
use Rattle.avm_core.specs.declared.machine.Machine.{Machine}
use Rattle.avm_core.specs.declared.stepped.Stepped.{Stepped}
use Rattle.avm_core.specs.declared.stepped.Stepped.TheVariants.{Event}

-- a machine whose instruction is over, with this evidence and this stack
abbrev pub passed : ℕ → List ℕ → Machine → Machine
passed id stack machine = record machine { evidence = id; stack = stack; at = machine.at + 1 }

-- the instruction is over with the evidence that was made, where it was; an error leaves the machine
abbrev pub turned : {A : Type 0} → A → Result ℕ NoMemory → List ℕ → Machine → Result A NoMemory × Machine
turned answer (Ok id) stack machine = (Ok answer, passed id stack machine)
turned answer (Err error) stack machine = (Err error, machine)

-- what the two arms of a branch get is in the store: it adds at most one value
pub record AreParts (split : Split) (before : Kept) (id : ℕ) (outcome : Result (ℕ × ℕ) NoMemory) (after : Kept) : Type 0 where
  pub left : IfOk outcome (λ arms. (arms.0 < length after.values) × (value_at after.values arms.0 ≡ part split.left (value_at before.values id)))
  pub right : IfOk outcome (λ arms. (arms.1 < length after.values) × (value_at after.values arms.1 ≡ part split.right (value_at before.values id)))
  pub refused : OnErr outcome (after.values ≡ before.values)
  pub grows : Grows before.values after.values
  pub in_spare : 1 ≤ before.spare → IsOk outcome × (before.spare ≤ after.spare + 1)

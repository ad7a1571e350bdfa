-- What the calls of a machine do, on values.
use Rattle.std.specs.Prelude.{◌≡◌, ◌+◌, ◌<◌, ◌≤◌, ℕ, List, [], ◌∷◌, length, Result, Ok, Err, IfOk, OnOk, OnErr, IsOk}
use Rattle.phrase_tree.specs.declared.memory.NoMemory.{NoMemory}
use Rattle.evidence_types.specs.Evidence.{Evidence}
use Rattle.avm_code.specs.declared.instr.Instr.{Instr}
use Rattle.evidence_store.specs.Kept.{Kept, Grows, value_at}
use Rattle.machine_tables.specs.Row.{Setting, Local, Deed, event, silent, sent, forked, needs_answer, needs_reply, needs_child, ended, row}
use Rattle.avm_core.specs.declared.machine.Machine.{Machine}
use Rattle.avm_core.specs.declared.stepped.Stepped.{Stepped}
use Rattle.avm_core.specs.declared.stepped.Stepped.TheVariants.{Event, Silent, Sent, Forked, NeedsAnswer, NeedsReply, NeedsChild, Ended}
use Rattle.avm_core.specs.Machine.{local_in, KnowsIds, AwaitsAnswer, AwaitsReply, AwaitsChild}

-- the deed that a step answers, on values
abbrev pub deed_of : List Evidence → Stepped → Deed
deed_of values (Event i) = event i
deed_of values Silent = silent
deed_of values (Sent name place id) = sent name place (value_at values id)
deed_of values (Forked name id) = forked name (value_at values id)
deed_of values (NeedsAnswer i) = needs_answer i
deed_of values (NeedsReply j i) = needs_reply j i
deed_of values (NeedsChild j i) = needs_child j i
deed_of values (Ended id) = ended (value_at values id)

-- the id in the answer of a step is one of so many
abbrev pub NamesValue : ℕ → Stepped → Type 0
NamesValue count (Sent name place id) = id < count
NamesValue count (Forked name id) = id < count
NamesValue count (Ended id) = id < count
NamesValue count _ = Unit {0}

-- the most values that a step of this deed adds: one, and none where no event happens
abbrev pub most_added : Deed → ℕ
most_added (event i) = 1
most_added (sent i place evidence) = 1
most_added (forked i evidence) = 1
most_added _ = 0

-- where a deed waits or ends, all of this stays as it is
abbrev pub StaysWhere : Deed → Type 0 → Type 0
StaysWhere (event i) Same = Unit {0}
StaysWhere silent Same = Unit {0}
StaysWhere (sent i place evidence) Same = Unit {0}
StaysWhere (forked i evidence) Same = Unit {0}
StaysWhere _ Same = Same

-- what a deed waits for is what the instruction awaits
abbrev pub IsAwaited : Deed → Instr → Type 0
IsAwaited (needs_answer i) instr = AwaitsAnswer instr
IsAwaited (needs_reply j i) instr = AwaitsReply instr
IsAwaited (needs_child j i) instr = AwaitsChild instr
IsAwaited _ instr = Unit {0}

-- nothing changed
abbrev pub IsSame : Machine → Kept → Machine → Kept → Type 0
IsSame old before new after = (new ≡ old) × (after ≡ before)

-- what a machine and a store keep whatever a call does: the block, what ids stand for, and the machine's ids are
-- the store's
pub record Keeps (old : Machine) (before : Kept) (new : Machine) (after : Kept) : Type 0 where
  pub block : new.name ≡ old.name
  pub grows : Grows before.values after.values
  pub knows : KnowsIds (length after.values) new

-- a step of a machine in the code of its block, whose next instruction this is: Ok is the instruction's row on
-- values; an error leaves the machine and the values as they are, and doesn't come where there is spare
pub record Steps (setting : Setting) (code : List Instr) (instr : Instr) (old : Machine) (before : Kept) (outcome : Result Stepped NoMemory) (new : Machine) (after : Kept) : Type 0 where
  pub made : IfOk outcome (λ stepped. (deed_of after.values stepped, local_in code after.values new) ≡ row setting instr (local_in code before.values old))
  pub named : IfOk outcome (NamesValue (length after.values))
  pub waits : StaysWhere (row setting instr (local_in code before.values old)).0 (IsSame old before new after)
  pub refused : OnErr outcome ((new ≡ old) × (after.values ≡ before.values))
  pub keeps : Keeps old before new after
  pub in_spare : let most = most_added (row setting instr (local_in code before.values old)).0 in most ≤ before.spare → IsOk outcome × (before.spare ≤ after.spare + most)

-- a machine gets what it needs: then it holds this; an error leaves the machine and the values as they are, and
-- doesn't come where there is spare
pub record Gives (code : List Instr) (wanted : Local) (old : Machine) (before : Kept) {A : Type 0} (outcome : Result A NoMemory) (new : Machine) (after : Kept) : Type 0 where
  pub made : OnOk outcome (local_in code after.values new ≡ wanted)
  pub refused : OnErr outcome ((new ≡ old) × (after.values ≡ before.values))
  pub keeps : Keeps old before new after
  pub in_spare : 1 ≤ before.spare → IsOk outcome × (before.spare ≤ after.spare + 1)

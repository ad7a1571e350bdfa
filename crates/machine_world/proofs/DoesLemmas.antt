-- What a world answers is what the next instruction of the block does.
use Rattle.std.proofs.Common.{◌≡◌, ◌+◌, ◌<◌, ℕ, List, length, drop, refl, sym, subst}
use Rattle.phrase_tree.specs.declared.phrase.Split.{Split}
use Rattle.evidence_types.specs.Evidence.{Evidence}
use Rattle.avm_code.specs.declared.instr.BlockName.{BlockName}
use Rattle.avm_code.specs.declared.instr.Instr.{Instr}
use Rattle.avm_code.specs.declared.instr.Instr.TheVariants.{Copy, Usm, Kim, Sign, Hash, Null, Split as Splits, Swap, JoinSeq, Send, Recv, Fork, JoinPar, End}
use Rattle.avm_code.specs.Order.{code_called}
use Rattle.machine_tables.specs.Row.{Setting, Local, Deed, event, silent, sent, forked, needs_answer, needs_reply, needs_child, ended, row}
use Rattle.avm_core.specs.declared.stepped.Stepped.{Stepped}
use Rattle.avm_core.specs.declared.stepped.Stepped.TheVariants.{Event, Silent, Sent, Forked, NeedsAnswer, NeedsReply, NeedsChild, Ended}
use Rattle.avm_core.specs.Machine.{local_of, next_of}
use Rattle.avm_core.specs.Steps.{deed_of}
use Rattle.avm_core.proofs.Frames.{code_behind}
use Rattle.machine_world.specs.declared.moved.Moved.{Moved}
use Rattle.machine_world.specs.declared.moved.Moved.TheVariants.{Waits, Silent as Quiet, Happened, Sent as Posted, Forked as Started, Ended as Finished}
use Rattle.machine_world.specs.declared.world.World.{World}
use Rattle.machine_world.specs.Cells.{block_of, tables_of, opening_book}
use Rattle.machine_world.specs.Calls.{RunsAt, runner_at, SettlesAs}
use Rattle.machine_world.specs.Does.{IsPlain, DoesNext, Does, IfMoves}
use Rattle.machine_world.proofs.MoveLemmas.{cell-runs}

-- the instruction of a deed
abbrev IsDeedOf : Instr → Deed → Type 0
IsDeedOf instr (event i) = IsPlain instr
IsDeedOf instr silent = IsPlain instr
IsDeedOf instr (sent i place e) = instr ≡ Send i place
IsDeedOf instr (forked i e) = (split : Split) × (instr ≡ Fork i split)
IsDeedOf instr (needs_answer i) = IsPlain instr
IsDeedOf instr (needs_reply j i) = IsPlain instr
IsDeedOf instr (needs_child j i) = IsPlain instr
IsDeedOf instr (ended e) = instr ≡ End

row_deed : (setting : Setting) (instr : Instr) (held : Local) → IsDeedOf instr (row setting instr held).0
row_deed setting (Copy i) held = tt
row_deed setting (Usm i asp) held = tt
row_deed setting (Kim i target asp) held = tt
row_deed setting (Sign i) held = tt
row_deed setting (Hash i) held = tt
row_deed setting (Null i) held = tt
row_deed setting (Splits i split) held = tt
row_deed setting Swap held = tt
row_deed setting (JoinSeq i) held = tt
row_deed setting (Send i asked) held = refl
row_deed setting (Recv j i) held = tt
row_deed setting (Fork i split) held = (split, refl)
row_deed setting (JoinPar j i) held = tt
row_deed setting End held = refl

module _ (places : List (List ℕ)) (instr : Instr) where
  -- once what it waits for is there
  does_with : (i : ℕ) (moved : Moved) → IfMoves moved (moved ≡ Happened i) → IsPlain instr → DoesNext places moved instr
  does_with i Waits h plain = tt
  does_with i Quiet h plain = plain
  does_with i (Happened j) h plain = plain
  does_with i (Posted j index id) h plain = absurd (cc)
  does_with i (Started j) h plain = absurd (cc)
  does_with i (Finished id) h plain = absurd (cc)

  does_next : (values : List Evidence) (stepped : Stepped) (moved : Moved) → IsDeedOf instr (deed_of values stepped) → SettlesAs places stepped moved → DoesNext places moved instr
  does_next values (Event i) moved deed is = subst (λ (m : Moved). DoesNext places m instr) (sym is) deed
  does_next values Silent moved deed is = subst (λ (m : Moved). DoesNext places m instr) (sym is) deed
  does_next values (Sent i place id) moved deed is =
      subst (λ (m : Moved). DoesNext places m instr) (sym is.2) (place, deed, is.1)
  does_next values (Forked i id) moved deed is = subst (λ (m : Moved). DoesNext places m instr) (sym is) deed
  does_next values (NeedsAnswer i) moved deed is = subst (λ (m : Moved). DoesNext places m instr) (sym is) tt
  does_next values (NeedsReply j i) moved deed is = does_with j moved is deed
  does_next values (NeedsChild j i) moved deed is = does_with j moved is deed
  does_next values (Ended id) moved deed is = subst (λ (m : Moved). DoesNext places m instr) (sym is) deed

if_moves : (moved : Moved) (P : Type 0) → P → IfMoves moved P
if_moves Waits P h = tt
if_moves Quiet P h = h
if_moves (Happened i) P h = h
if_moves (Posted i index id) P h = h
if_moves (Started i) P h = h
if_moves (Finished id) P h = h

pub does-so : (setting : Setting) (world : World) (name : BlockName) (index : ℕ) → RunsAt world name index → (runner_at world index).machine.at < length (code_called world.program (runner_at world index).machine.name) → (values : List Evidence) (stepped : Stepped) (moved : Moved)
    → deed_of values stepped ≡ (row setting (next_of world.program (runner_at world index).machine) (local_of world.program world.store.values (runner_at world index).machine)).0
    → SettlesAs world.places.items stepped moved → IfMoves moved (Does world.places.items moved ((tables_of world opening_book).blocks (block_of name)))
does-so setting world name index at within values stepped moved deed settles =
    let machine = (runner_at world index).machine in
    let held : Local = local_of world.program world.store.values machine in
    let instr : Instr = next_of world.program machine in
    if_moves moved (Does world.places.items moved ((tables_of world opening_book).blocks (block_of name)))
    (record {
      for_request = (runner_at world index).remote;
      local = held;
      instr = instr;
      rest = drop (machine.at + 1) (code_called world.program machine.name);
      runs = cell-runs world name index at;
      next = code_behind (code_called world.program machine.name) machine.at within;
      does = does_next world.places.items instr values stepped moved (subst (IsDeedOf instr) (sym deed) (row_deed setting instr held)) settles;
    })

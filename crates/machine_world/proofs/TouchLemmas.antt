-- What a block that runs touches with its next instruction.
use Rattle.std.proofs.Common.{◌≡◌, ◌<◌, ℕ, Bool, List, ◌∷◌, length, drop, refl, sym, subst, slice_index_or}
use Rattle.avm_code.specs.declared.instr.BlockName.{BlockName}
use Rattle.avm_code.specs.declared.instr.Instr.{Instr}
use Rattle.avm_code.specs.Order.{code_called}
use Rattle.machine_tables.specs.Row.{Local}
use Rattle.machine_tables.specs.Tables.{BlockState as Cell}
use Rattle.avm_core.specs.declared.machine.Machine.{Machine}
use Rattle.avm_core.specs.Machine.{local_of, next_of}
use Rattle.avm_core.proofs.Frames.{code_behind}
use Rattle.machine_world.specs.declared.moved.Touched.{Touched}
use Rattle.machine_world.specs.declared.world.World.{World}
use Rattle.machine_world.specs.Cells.{tables_of, opening_book, block_of}
use Rattle.machine_world.specs.Calls.{RunsAt, runner_at}
use Rattle.machine_world.specs.Touched.{touched_by, TouchesNext, TouchesAt}
use Rattle.machine_world.proofs.MoveLemmas.{cell-runs}

module _ (world : World) (name : BlockName) (index : ℕ) (at : RunsAt world name index) where
  abbrev its_machine : Machine
  its_machine = (runner_at world index).machine

  abbrev its_local : Local
  its_local = local_of world.program world.store.values its_machine

  pub touches-on : its_machine.at < length (code_called world.program its_machine.name) → its_machine.evidence < length world.store.values → (found : Touched) → found ≡ touched_by name (runner_at world index).remote its_machine.evidence (next_of world.program its_machine) → TouchesAt world.store.values name ((tables_of world opening_book).blocks (block_of name)) found
  touches-on within known found is =
      subst (λ (c : Cell). TouchesAt world.store.values name c found) (sym (cell-runs world name index at)) (subst (λ (rest : List Instr). TouchesNext world.store.values name (runner_at world index).remote its_local rest found) (sym (code_behind (code_called world.program its_machine.name) its_machine.at within)) (record { id = its_machine.evidence; known = known; holds = refl; is = is }))

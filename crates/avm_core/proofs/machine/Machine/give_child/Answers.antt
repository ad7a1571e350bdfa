use Rattle.std.proofs.Common.{◌+◌, refl, sym, subst, length, drop, slice_index_or, Result}
use Rattle.phrase_tree.specs.declared.memory.NoMemory.{NoMemory}
use Rattle.evidence_types.specs.Evidence.{par_pair}
use Rattle.avm_code.specs.declared.instr.Instr.TheVariants.{End}
use Rattle.avm_code.specs.Order.{code_called, place_called}
use Rattle.evidence_store.specs.Kept.{value_at}
use Rattle.machine_tables.specs.Row.{joined}
use Rattle.avm_core.specs.declared.machine.Machine.{Machine}
use Rattle.avm_core.specs.Machine.{local_of}
use Rattle.avm_core.specs.Steps.{Gives}
use Rattle.avm_core.proofs.Standing.{here, within_of, behind_child, stands-given}
use Rattle.avm_core.proofs.StepLemmas.{Gives-turned}
use Rattle.avm_core.proofs.machine.Machine.give_child.Goals as goal

pub returns-clause-gives : goal.returns-clause-gives
returns-clause-gives c =
    let program = c.args.program.now in
    let old = c.args.self.now in
    let before = c.args.store.now in
    let stands = c.requires.stands.1 in
    let code = code_called program old.name in
    let wanted = joined (value_at before.values c.args.evidence) (local_of program before.values old) in
    subst (λ (p : Result (Unit {0}) NoMemory × Machine). Gives code wanted old before p.0 p.1 c.pair-made.new.self) (sym c.go_on_with.ensures)
    (Gives-turned code wanted old before c.pair-made.new.self c.pair-made.result (par_pair (value_at before.values old.evidence) (value_at before.values c.args.evidence))
    (within_of code (place_called program old.name) c.requires.stands.0 (length before.values) old stands.inside) stands.inside.knows refl c.pair-made.ensures)

pub returns-clause-stands : goal.returns-clause-stands
returns-clause-stands c = λ keys stands.
    let program = c.args.program.now in
    let old = c.args.self.now in
    let before = c.args.store.now in
    let code = code_called program old.name in
    let place = place_called program old.name in
    stands-given program keys old before c.go_on_with.result c.go_on_with.new.self c.pair-made.new.self (par_pair (value_at before.values old.evidence) (value_at before.values c.args.evidence)) stands
    (behind_child keys place (slice_index_or code old.at End) (drop (old.at + 1) code) (length old.stack) c.requires.awaits (here code place keys (length before.values) old stands.inside))
    (returns-clause-gives c)

use Rattle.std.proofs.Common.{◌≡◌, List, length, sym, ap, ◌∙◌, subst, ◌+◌, ◌≤◌, drop, arith}
use Rattle.avm_code.specs.declared.instr.BlockName.{BlockName}
use Rattle.avm_code.specs.declared.instr.BlockName.TheVariants.{Of}
use Rattle.avm_code.specs.Order.{code_called}
use Rattle.avm_core.specs.Machine.{Stands, local_in}
use Rattle.branch_join.specs.Blocks.{state_of}
use Rattle.machine_world.specs.declared.runner.Runner.{Runner}
use Rattle.machine_world.specs.Cells.{nobody}
use Rattle.machine_world.specs.Calls.{runner_at}
use Rattle.machine_world.proofs.Runners.{together-get, together-name, any-default}
use Rattle.machine_world.proofs.KeptLemmas.{result-known}
use Rattle.machine_world.proofs.WorldLemmas.{world-held, world-grown}
use Rattle.machine_world.proofs.TableLemmas.{joined-at}
use Rattle.avm_code.specs.declared.instr.Instr.{Instr}
use Rattle.avm_core.specs.Machine.{next_of}
use Rattle.avm_core.proofs.Frames.{code_behind}
use Rattle.machine_tables.specs.Row.{Local}
use Rattle.machine_world.specs.World.{events_in, left_in}
use Rattle.machine_world.proofs.RoomLemmas.{room-held, left-here, joined-left}
use Rattle.machine_world.proofs.RunLemmas.{its-name, its-within, no-error}
use Rattle.machine_world.proofs.world.World.join.Goals as goal

pub give_child-requires-clause-stands : goal.give_child-requires-clause-stands
give_child-requires-clause-stands c =
    let world = c.args.self.now in
    let keys = c.requires.world.0 in
    let is = c.index_mut.ensures.value ∙ any-default world.runners.items c.args.index c.index_mut.result.now nobody c.requires.at.within in (
      keys,
      subst (λ (r : Runner). Stands world.program keys (length world.store.values) r.machine) (sym is)
          (together-get (Stands world.program keys (length world.store.values)) world.program world.runners.items c.args.index nobody c.requires.world.1.runners c.requires.at.within),
    )

pub give_child-requires-clause-child : goal.give_child-requires-clause-child
give_child-requires-clause-child c =
    let world = c.args.self.now in
    result-known (length world.store.values) (state_of world.table (Of c.args.number)) c.in-Some.child (c.requires.world.1.results (Of c.args.number)) (sym c.in-Some.ensures)

pub returns-in-Ok-clause-moves : goal.returns-in-Ok-clause-moves
returns-in-Ok-clause-moves c = λ book pass is_open.
    let world = c.args.self.now in
    let held = c.index_mut.result.now in
    let is = c.index_mut.ensures.value ∙ any-default world.runners.items c.args.index c.index_mut.result.now nobody c.requires.at.within in
    joined-at world c.args.name c.args.index held is c.args.event c.args.number c.in-Some.child c.give_child.new.store c.give_child.new.self pass book c.requires.world c.requires.at (sym c.in-Some.ensures) c.in-Ok.ensures.gives.keeps.grows
    (ap (λ (n : BlockName). local_in (code_called world.program n) c.give_child.new.store.values c.give_child.new.self) c.in-Ok.ensures.gives.keeps.block ∙ c.in-Ok.ensures.gives.made)

pub returns-in-Ok-clause-world : goal.returns-in-Ok-clause-world
returns-in-Ok-clause-world c = λ keys w.
    let world = c.args.self.now in
    let is = c.index_mut.ensures.value ∙ any-default world.runners.items c.args.index c.index_mut.result.now nobody c.requires.at.within in
    let P = Stands world.program keys (length world.store.values) in
    world-held keys (record world { store = c.give_child.new.store }) c.args.name c.args.index (record { machine = c.give_child.new.self; remote = c.index_mut.result.now.remote }) c.requires.at.block
    (c.in-Ok.ensures.gives.keeps.block ∙ ap (λ (r : Runner). r.machine.name) is ∙ together-name P world.program world.runners.items c.args.name c.args.index nobody w.runners c.requires.at.block)
    (c.in-Ok.ensures.stands keys (subst (λ (r : Runner). Stands world.program keys (length world.store.values) r.machine) (sym is) (together-get P world.program world.runners.items c.args.index nobody w.runners c.requires.at.within)))
    (world-grown keys world c.give_child.new.store c.in-Ok.ensures.gives.keeps.grows w)

pub unreachable-requires : goal.unreachable-requires
unreachable-requires c =
    let world = c.args.self.now in
    let keys = c.requires.world.0 in
    let w = c.requires.world.1 in
    let at = c.requires.at in
    let name = c.args.name in
    let is = c.index_mut.ensures.value ∙ any-default world.runners.items c.args.index c.index_mut.result.now nobody at.within in
    let machine = (runner_at world c.args.index).machine in
    let named = its-name keys world name c.args.index w at in
    let within = its-within keys world name c.args.index w at in
    let code = code_called world.program machine.name in
    let counts : events_in (drop 1 (drop machine.at code)) + 1 ≤ events_in (drop machine.at code) = joined-left (next_of world.program machine) (drop (machine.at + 1) code) (drop machine.at code) (code_behind code machine.at within) c.requires.can.0 in
    let here : events_in (drop machine.at code) ≤ left_in world = subst (λ (n : BlockName). events_in (drop machine.at (code_called world.program n)) ≤ left_in world) (sym named) (left-here world name c.args.index at) in
    let spare : left_in world ≤ world.store.spare = c.requires.room.spare in
    no-error c.in-Err.is (c.give_child.ensures.gives.in_spare (omega arith)).0

pub returns-in-Ok-clause-room : goal.returns-in-Ok-clause-room
returns-in-Ok-clause-room c =
    let world = c.args.self.now in
    let keys = c.requires.world.0 in
    let w = c.requires.world.1 in
    let at = c.requires.at in
    let name = c.args.name in
    let is = c.index_mut.ensures.value ∙ any-default world.runners.items c.args.index c.index_mut.result.now nobody at.within in
    let machine = (runner_at world c.args.index).machine in
    let named = its-name keys world name c.args.index w at in
    let within = its-within keys world name c.args.index w at in
    let code = code_called world.program machine.name in
    let counts : events_in (drop 1 (drop machine.at code)) + 1 ≤ events_in (drop machine.at code) = joined-left (next_of world.program machine) (drop (machine.at + 1) code) (drop machine.at code) (code_behind code machine.at within) c.requires.can.0 in
    let here : events_in (drop machine.at code) ≤ left_in world = subst (λ (n : BlockName). events_in (drop machine.at (code_called world.program n)) ≤ left_in world) (sym named) (left-here world name c.args.index at) in
    let spare : left_in world ≤ world.store.spare = c.requires.room.spare in
    let held = c.index_mut.result.now.machine in
    let rest : drop c.give_child.new.self.at (code_called world.program held.name) ≡ drop 1 (drop held.at (code_called world.program held.name)) = ap (λ (l : Local). l.rest) c.in-Ok.ensures.gives.made in
    let now : drop c.give_child.new.self.at (code_called world.program name) ≡ drop 1 (drop machine.at (code_called world.program name)) =
    ap (λ (n : BlockName). drop c.give_child.new.self.at (code_called world.program n)) (sym (ap (λ (r : Runner). r.machine.name) is ∙ named))
    ∙ rest ∙ ap (λ (r : Runner). drop 1 (drop r.machine.at (code_called world.program r.machine.name))) is ∙ ap (λ (n : BlockName). drop 1 (drop machine.at (code_called world.program n))) named in
    room-held world name c.args.index at (record { machine = c.give_child.new.self; remote = c.index_mut.result.now.remote }) 1 0 c.give_child.new.store
    (subst (λ (l : List Instr). events_in l + 1 ≤ events_in (drop machine.at (code_called world.program name))) (sym now) (subst (λ (n : BlockName). events_in (drop 1 (drop machine.at (code_called world.program n))) + 1 ≤ events_in (drop machine.at (code_called world.program n))) named counts))
    (c.in-Ok.ensures.gives.in_spare (omega arith)).1 (omega arith) c.requires.room

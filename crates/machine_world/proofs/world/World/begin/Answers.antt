use Rattle.std.proofs.Common.{◌≡◌, ◌<◌, [], length, sym, ap, ◌∙◌, arith}
use Rattle.std.specs.Prelude.{vec_len}
use Rattle.session_runs.specs.Standing.{of}
use Rattle.evidence_store.specs.Kept.{value_at}
use Rattle.avm_code.specs.declared.instr.BlockName.{BlockName}
use Rattle.avm_code.specs.declared.instr.BlockName.TheVariants.{Of}
use Rattle.avm_code.specs.Order.{code_called}
use Rattle.machine_tables.specs.Row.{Local}
use Rattle.machine_tables.specs.Tables.{running}
use Rattle.avm_core.specs.Machine.{Stands}
use Rattle.branch_join.specs.declared.state.BlockState.TheVariants.{Running}
use Rattle.branch_join.specs.Blocks.{state_of}
use Rattle.machine_world.specs.Cells.{tables_of}
use Rattle.machine_world.specs.Calls.{with_cell}
use Rattle.machine_world.proofs.BlockFrames.{block_index}
use Rattle.machine_world.proofs.Runners.{together-length}
use Rattle.machine_world.proofs.WorldLemmas.{world-table, world-held, unless-not_started}
use Rattle.machine_world.proofs.TableLemmas.{tables-started}
use Rattle.machine_world.proofs.RoomLemmas.{room-begun}
use Rattle.machine_world.proofs.world.World.begin.Goals as goal

pub index_mut-requires : goal.index_mut-requires
index_mut-requires c =
    let world = c.args.self.now in
    let w = c.requires.world.1 in
    let same : length world.runners.items ≡ length world.program = together-length (Stands world.program c.requires.world.0 (length world.store.values)) world.program world.runners.items w.runners in
    let long : vec_len world.runners ≡ length world.runners.items = world.runners.ok.0 in
    let within : c.index_of-index.result < length world.program = c.index_of-index.ensures.within in
    omega arith

pub returns-clause-tables : goal.returns-clause-tables
returns-clause-tables c = λ book.
    let world = c.args.self.now in
    let w = c.requires.world.1 in
    let name = Of c.args.number in
    let machine = c.start-machine.result in
    let value = value_at world.store.values c.args.evidence in
    let same : length world.runners.items ≡ length world.program = together-length (Stands world.program c.requires.world.0 (length world.store.values)) world.program world.runners.items w.runners in
    let within : c.index_of-index.result < length world.program = c.index_of-index.ensures.within in
    tables-started world name c.index_of-index.result (record { machine = machine; remote = c.args.remote }) c.start.new.self book (w.there name c.requires.there) (block_index world.program name c.index_of-index.result w.can_play.runs.order c.index_of-index.ensures) (omega arith) c.start.ensures
    ∙ ap (λ (l : Local). with_cell (of c.args.number) (running c.args.remote l) (tables_of world book))
    (c.start-machine.ensures.begins (code_called world.program machine.name) world.store.values
    ∙ ap (λ (n : BlockName). let l : Local = record { rest = code_called world.program n; evidence = value; stack = [] } in l) c.start-machine.ensures.name)

pub returns-clause-world : goal.returns-clause-world
returns-clause-world c = λ keys w.
    let world = c.args.self.now in
    let name = Of c.args.number in
    world-held keys (record world { table = c.start.new.self }) name c.index_of-index.result (record { machine = c.start-machine.result; remote = c.args.remote }) (block_index world.program name c.index_of-index.result w.can_play.runs.order c.index_of-index.ensures) c.start-machine.ensures.name
    (c.start-machine.ensures.stands world.program keys (length world.store.values) w.can_play.runs c.requires.there c.requires.evidence)
    (world-table keys world name Running c.start.new.self c.requires.there (w.there name c.requires.there) c.start.ensures
    (λ number is. unless-not_started (state_of world.table (Of number)) _ (ap (state_of world.table) (sym is) ∙ c.requires.fresh) (w.unanswered number)) tt w)

pub returns-clause-room : goal.returns-clause-room
returns-clause-room c =
    let world = c.args.self.now in
    let w = c.requires.world.1 in
    let same : length world.runners.items ≡ length world.program = together-length (Stands world.program c.requires.world.0 (length world.store.values)) world.program world.runners.items w.runners in
    let within : c.index_of-index.result < length world.program = c.index_of-index.ensures.within in
    room-begun world (Of c.args.number) c.index_of-index.result (record { machine = c.start-machine.result; remote = c.args.remote }) c.start.new.self (w.there (Of c.args.number) c.requires.there) c.requires.fresh c.index_of-index.ensures (omega arith) c.start.ensures c.requires.room

use Rattle.std.proofs.Common.{ap, ◌∙◌}
use Rattle.branch_join.specs.declared.state.BlockState.TheVariants.{Ended}
use Rattle.branch_join.specs.Blocks.{Blocks, state_of}
use Rattle.branch_join.proofs.BlockLemmas.{runs_in_table, state_of-with}
use Rattle.machine_world.proofs.NamedLemmas.{if_true}
use Rattle.machine_world.proofs.BlockFrames.{its_own}
use Rattle.machine_world.proofs.WorldLemmas.{world-table, if-running}
use Rattle.machine_world.proofs.TableLemmas.{tables-ended}
use Rattle.machine_world.proofs.RoomLemmas.{room-ended}
use Rattle.machine_world.proofs.world.World.close.Goals as goal

pub returns-clause-tables : goal.returns-clause-tables
returns-clause-tables c = λ book. tables-ended c.args.self.now c.args.name c.args.evidence c.end.new.self book c.requires.running c.end.ensures

pub returns-clause-state : goal.returns-clause-state
returns-clause-state c =
    let world = c.args.self.now in
    let there = runs_in_table world.table c.args.name c.requires.running in
    ap (λ (t : Blocks). state_of t c.args.name) c.end.ensures
    ∙ state_of-with world.table c.args.name c.args.name (Ended c.args.evidence) there
    ∙ if_true _ (Ended c.args.evidence) (state_of world.table c.args.name) (its_own c.args.name)

pub returns-clause-world : goal.returns-clause-world
returns-clause-world c = λ keys w.
    let world = c.args.self.now in
    world-table keys world c.args.name (Ended c.args.evidence) c.end.new.self (if-running (state_of world.table c.args.name) _ c.requires.running (w.known c.args.name)) (runs_in_table world.table c.args.name c.requires.running) c.end.ensures (λ number e. tt) c.requires.evidence w

pub returns-clause-room : goal.returns-clause-room
returns-clause-room c =
    let world = c.args.self.now in
    room-ended world c.args.name c.args.evidence c.end.new.self (runs_in_table world.table c.args.name c.requires.running) c.requires.running c.end.ensures c.requires.room

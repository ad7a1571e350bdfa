use Rattle.std.proofs.Common.{length}
use Rattle.avm_code.specs.declared.instr.BlockName.TheVariants.{Root}
use Rattle.branch_join.specs.Blocks.{state_of}
use Rattle.machine_world.proofs.EndLemmas.{result-below}
use Rattle.machine_world.proofs.world.World.root_result.Goals as goal

pub returns-clause-known : goal.returns-clause-known
returns-clause-known c =
    result-below (length c.args.self.now.store.values) (state_of c.args.self.now.table Root) c.join.result c.join.ensures (c.requires.1.results Root)

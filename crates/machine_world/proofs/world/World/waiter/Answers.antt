use Rattle.std.proofs.Common.{◌∙◌}
use Rattle.machine_world.proofs.MayLemmas.{waiter-at}
use Rattle.machine_world.proofs.world.World.waiter.Goals as goal

pub returns : goal.returns
returns c =
    c.name_at.ensures ∙ waiter-at c.args.self.now.program c.args.self.now.waiters.items c.args.number c.index_of-index.result c.requires.world.1.waiters c.index_of-index.ensures

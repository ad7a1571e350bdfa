use Rattle.std.proofs.Common.{sym, ◌∙◌}
use Rattle.machine_world.proofs.NamedLemmas.{if_true}
use Rattle.machine_world.proofs.world.World.reply_if.Goals as goal

pub returns-then-remote-clause-tables : goal.returns-then-remote-clause-tables
returns-then-remote-clause-tables c = λ book. c.reply.ensures.tables book ∙ sym (if_true c.args.remote _ _ c.if-remote.true)

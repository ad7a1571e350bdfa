use Rattle.machine_world.proofs.WorldLemmas.{world-answered}
use Rattle.machine_world.proofs.TableLemmas.{tables-answered}
use Rattle.machine_world.proofs.world.World.reply.Goals as goal

pub returns-clause-tables : goal.returns-clause-tables
returns-clause-tables c = λ book. tables-answered c.args.self.now c.answer.new.self c.args.number c.args.evidence book c.in-Ok.ensures.ok c.requires.free

pub returns-clause-world : goal.returns-clause-world
returns-clause-world c = λ keys w. world-answered keys c.args.self.now c.answer.new.self c.args.number c.args.evidence c.in-Ok.ensures.ok c.requires.free c.requires.ended c.requires.evidence w

use Rattle.std.proofs.Common.{arith}
use Rattle.session_agenda.proofs.Keeping.{listed_length}
use Rattle.session_agenda.proofs.agenda.Agenda.count.Goals as goal

pub returns-clause-moves : goal.returns-clause-moves
returns-clause-moves c = omega (arith, c.len.ensures, c.len-2.ensures, c.len-3.ensures, listed_length c.args.self.now.places.entries c.args.self.now.silent.entries c.args.self.now.events.entries)

use Rattle.session_desk.proofs.KnownFacts.{known_of}
use Rattle.session_desk.proofs.pass.Pass.knows.Goals as goal

pub returns : goal.returns
returns g c = known_of c.self.inside.number c.self.inside.seats.items c.args.self.now c.self.view_is c.self.invariant

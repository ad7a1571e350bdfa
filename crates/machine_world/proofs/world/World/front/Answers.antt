use Rattle.std.proofs.Common.{◌≡◌, ◌<◌, None, Some, length, sym, arith}
use Rattle.machine_world.proofs.EntryLemmas.{number-there}
use Rattle.machine_world.proofs.world.World.front.Goals as goal

pub returns-in-None : goal.returns-in-None
returns-in-None c = λ name at.
    let world = c.args.self.now in
    let same : length world.mail.requests ≡ length world.places.items = c.requires.world.1.lists in
    let listed : c.args.place < length world.places.items = c.requires.place in
    number-there world name c.args.place at (omega arith) None (sym c.in-None.ensures)

pub returns-in-Some : goal.returns-in-Some
returns-in-Some c = λ name at.
    let world = c.args.self.now in
    let same : length world.mail.requests ≡ length world.places.items = c.requires.world.1.lists in
    let listed : c.args.place < length world.places.items = c.requires.place in
    number-there world name c.args.place at (omega arith) (Some c.in-Some.request.now) (sym c.in-Some.ensures)

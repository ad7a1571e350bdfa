use Rattle.std.proofs.Common.{◌≡◌, ◌<◌, length, arith}
use Rattle.std.specs.Cmp.Lexicographic.{pointwise}
use Rattle.std.specs.Prelude.{nat_eq}
use Rattle.machine_world.specs.Seen.{IsPlace}
use Rattle.machine_world.proofs.PlaceLemmas.{index-within}
use Rattle.machine_world.proofs.WorldLemmas.{world-posted}
use Rattle.machine_world.proofs.TableLemmas.{tables-posted}
use Rattle.machine_world.proofs.world.World.send.Goals as goal

pub post-requires : goal.post-requires
post-requires c =
    let world = c.args.self.now in
    let there : IsPlace world.places.items c.args.place c.index_of_place-at.result = c.index_of_place-at.ensures in
    let within : c.index_of_place-at.result < length world.places.items = index-within (pointwise nat_eq) world.places.items c.args.place c.index_of_place-at.result there in
    let same : length world.mail.requests ≡ length world.places.items = c.requires.world.1.lists in
    omega arith

pub returns-clause-tables : goal.returns-clause-tables
returns-clause-tables c = λ book.
    let world = c.args.self.now in
    let there : IsPlace world.places.items c.args.place c.index_of_place-at.result = c.index_of_place-at.ensures in
    let within : c.index_of_place-at.result < length world.places.items = index-within (pointwise nat_eq) world.places.items c.args.place c.index_of_place-at.result there in
    let same : length world.mail.requests ≡ length world.places.items = c.requires.world.1.lists in
    tables-posted world c.post.new.self c.args.place c.index_of_place-at.result (record { name = c.args.event; evidence = c.args.evidence }) book c.in-Ok.ensures.ok there (omega arith)

pub returns-clause-world : goal.returns-clause-world
returns-clause-world c = λ keys w.
    world-posted keys c.args.self.now c.post.new.self c.index_of_place-at.result (record { name = c.args.event; evidence = c.args.evidence }) c.in-Ok.ensures.ok c.requires.there c.requires.evidence w

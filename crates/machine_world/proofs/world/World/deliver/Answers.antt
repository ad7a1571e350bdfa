use Rattle.std.proofs.Common.{◌≡◌, ◌<◌, None, Some, length, nat_eq, sym, arith}
use Rattle.std.specs.Cmp.Lexicographic.{pointwise}
use Rattle.machine_world.specs.Cells.{tables_of}
use Rattle.machine_world.proofs.PlaceLemmas.{index-within}
use Rattle.machine_world.proofs.KeptLemmas.{front-known}
use Rattle.machine_world.proofs.WorldLemmas.{world-taken}
use Rattle.machine_world.proofs.EntryLemmas.{may-start, moves-none, moves-delivered, number-there}
use Rattle.machine_world.proofs.world.World.deliver.Goals as goal

pub take_front-requires : goal.take_front-requires
take_front-requires c =
    let world = c.args.self.now in
    let place = c.args.place in
    let w = c.requires.world.1 in
    let same : length world.mail.requests ≡ length world.places.items = w.lists in
    let listed : place < length world.places.items = index-within (pointwise nat_eq) world.places.items c.requires.may_deliver.0 place c.requires.may_deliver.1 in
    omega arith

pub begin-requires-clause-world : goal.begin-requires-clause-world
begin-requires-clause-world c =
    let world = c.args.self.now in
    let place = c.args.place in
    let w = c.requires.world.1 in
    let request = c.in-Some.request in
    let mail = c.take_front.new.self in
    let found = sym c.in-Some.ensures.front in
    (c.requires.world.0, world-taken c.requires.world.0 world mail place c.in-Some.ensures.rest w)

pub begin-requires-clause-there : goal.begin-requires-clause-there
begin-requires-clause-there c =
    let world = c.args.self.now in
    let place = c.args.place in
    let w = c.requires.world.1 in
    let request = c.in-Some.request in
    let mail = c.take_front.new.self in
    let found = sym c.in-Some.ensures.front in
    (front-known world.program (length world.store.values) world.mail.requests place request found w.asked w.requests).0

pub begin-requires-clause-evidence : goal.begin-requires-clause-evidence
begin-requires-clause-evidence c =
    let world = c.args.self.now in
    let place = c.args.place in
    let w = c.requires.world.1 in
    let request = c.in-Some.request in
    let mail = c.take_front.new.self in
    let found = sym c.in-Some.ensures.front in
    (front-known world.program (length world.store.values) world.mail.requests place request found w.asked w.requests).1

pub begin-requires-clause-fresh : goal.begin-requires-clause-fresh
begin-requires-clause-fresh c =
    let world = c.args.self.now in
    let place = c.args.place in
    let w = c.requires.world.1 in
    let same : length world.mail.requests ≡ length world.places.items = w.lists in
    let listed : place < length world.places.items = index-within (pointwise nat_eq) world.places.items c.requires.may_deliver.0 place c.requires.may_deliver.1 in
    let within : place < length world.mail.requests = omega arith in
    let request = c.in-Some.request in
    let mail = c.take_front.new.self in
    let found = sym c.in-Some.ensures.front in
    may-start world c.requires.may_deliver.0 place c.requires.may_deliver.1 within request found c.requires.may_deliver.2

pub returns-in-None-clause-delivers : goal.returns-in-None-clause-delivers
returns-in-None-clause-delivers c = λ book from pass name opened at.
    let world = c.args.self.now in
    let place = c.args.place in
    let w = c.requires.world.1 in
    let same : length world.mail.requests ≡ length world.places.items = w.lists in
    let listed : place < length world.places.items = index-within (pointwise nat_eq) world.places.items c.requires.may_deliver.0 place c.requires.may_deliver.1 in
    let within : place < length world.mail.requests = omega arith in
    moves-none world name place at within from pass book opened (sym c.in-None.ensures.front)

pub returns-in-None-clause-number : goal.returns-in-None-clause-number
returns-in-None-clause-number c = λ name at.
    let world = c.args.self.now in
    let place = c.args.place in
    let w = c.requires.world.1 in
    let same : length world.mail.requests ≡ length world.places.items = w.lists in
    let listed : place < length world.places.items = index-within (pointwise nat_eq) world.places.items c.requires.may_deliver.0 place c.requires.may_deliver.1 in
    let within : place < length world.mail.requests = omega arith in
    number-there world name place at within None (sym c.in-None.ensures.front)

pub returns-in-Some-clause-delivers : goal.returns-in-Some-clause-delivers
returns-in-Some-clause-delivers c = λ book from pass name opened at.
    let world = c.args.self.now in
    let place = c.args.place in
    let w = c.requires.world.1 in
    let same : length world.mail.requests ≡ length world.places.items = w.lists in
    let listed : place < length world.places.items = index-within (pointwise nat_eq) world.places.items c.requires.may_deliver.0 place c.requires.may_deliver.1 in
    let within : place < length world.mail.requests = omega arith in
    let request = c.in-Some.request in
    let mail = c.take_front.new.self in
    let found = sym c.in-Some.ensures.front in
    moves-delivered world name place at within from pass book request mail (tables_of c.begin.new.self book) opened found c.in-Some.ensures.rest (c.begin.ensures.tables book)

pub returns-in-Some-clause-number : goal.returns-in-Some-clause-number
returns-in-Some-clause-number c = λ name at.
    let world = c.args.self.now in
    let place = c.args.place in
    let w = c.requires.world.1 in
    let same : length world.mail.requests ≡ length world.places.items = w.lists in
    let listed : place < length world.places.items = index-within (pointwise nat_eq) world.places.items c.requires.may_deliver.0 place c.requires.may_deliver.1 in
    let within : place < length world.mail.requests = omega arith in
    let request = c.in-Some.request in
    let mail = c.take_front.new.self in
    let found = sym c.in-Some.ensures.front in
    number-there world name place at within (Some request) found

pub returns-in-Some-clause-world : goal.returns-in-Some-clause-world
returns-in-Some-clause-world c = λ keys v.
    let world = c.args.self.now in
    let place = c.args.place in
    let w = c.requires.world.1 in
    let request = c.in-Some.request in
    let mail = c.take_front.new.self in
    let found = sym c.in-Some.ensures.front in
    c.begin.ensures.world keys (world-taken keys world mail place c.in-Some.ensures.rest v)

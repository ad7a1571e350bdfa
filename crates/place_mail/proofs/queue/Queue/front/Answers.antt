use Rattle.std.proofs.Common.{ap, ◌∙◌, arith}
use Rattle.place_mail.specs.Mail.{front_at}
use Rattle.place_mail.specs.Queue.{Queued}
use Rattle.place_mail.proofs.QueueLemmas.{idle, first_within, front_is, place_at-within, within_places}
use Rattle.place_mail.proofs.queue.Queue.front.Goals as goal

pub index-requires : goal.index-requires
index-requires c = omega (arith, c.self.inside.places.ok.0, within_places c.self.inside.posts.items c.self.inside.places.items c.self.inside.room c.args.self.now c.args.place c.self.view_is c.requires)

pub index-requires-in-Some : goal.index-requires-in-Some
index-requires-in-Some c =
    let q = c.self.inside in
    let inside = within_places q.posts.items q.places.items q.room c.args.self.now c.args.place c.self.view_is c.requires in
    let there = first_within q.posts.items q.links.items q.places.items c.args.place c.in-Some.first c.index.result.now (record { linked = c.self.invariant.0; ended = c.self.invariant.1 }) inside c.index.ensures c.in-Some.is in
    omega (arith, q.posts.ok.0, place_at-within q.posts.items c.in-Some.first c.args.place there)

pub returns-in-Some : goal.returns-in-Some
returns-in-Some c =
    let q = c.self.inside in
    let inside = within_places q.posts.items q.places.items q.room c.args.self.now c.args.place c.self.view_is c.requires in
    front_is q.posts.items q.links.items q.places.items c.args.place c.in-Some.first c.index.result.now c.index-in-Some.result.now (record { linked = c.self.invariant.0; ended = c.self.invariant.1 }) inside c.index.ensures c.in-Some.is c.index-in-Some.ensures
    ∙ ap (λ (s : Queued). front_at c.args.place s.lists) c.self.view_is

pub returns-in-None : goal.returns-in-None
returns-in-None c =
    let q = c.self.inside in
    let inside = within_places q.posts.items q.places.items q.room c.args.self.now c.args.place c.self.view_is c.requires in
    (idle q.posts.items q.links.items q.places.items c.args.place c.index.result.now inside c.index.ensures c.in-None.is).front ∙ ap (λ (s : Queued). front_at c.args.place s.lists) c.self.view_is

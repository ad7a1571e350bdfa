use Rattle.std.proofs.Common.{ap, ◌∙◌, sym, arith}
use Rattle.place_mail.specs.Mail.{front_at, taken}
use Rattle.place_mail.specs.Queue.{Queued}
use Rattle.place_mail.proofs.QueueLemmas.{took, idle, first_within, place_at-within, linked-length, within_places, queued}
use Rattle.place_mail.proofs.queue.Queue.take_front.Goals as goal

pub index-ends-requires : goal.index-ends-requires
index-ends-requires c = omega (arith, c.self.inside.places.ok.0, within_places c.self.inside.posts.items c.self.inside.places.items c.self.inside.room c.args.self.now c.args.place c.self.view_is c.requires)

pub index_mut-requires : goal.index_mut-requires
index_mut-requires c = omega (arith, c.self.inside.places.ok.0, within_places c.self.inside.posts.items c.self.inside.places.items c.self.inside.room c.args.self.now c.args.place c.self.view_is c.requires)

pub returns-in-None-clause-front : goal.returns-in-None-clause-front
returns-in-None-clause-front c =
    let q = c.self.inside in
    let inside = within_places q.posts.items q.places.items q.room c.args.self.now c.args.place c.self.view_is c.requires in
    (idle q.posts.items q.links.items q.places.items c.args.place c.index-ends.result.now inside c.index-ends.ensures c.in-None.is).front ∙ ap (λ (s : Queued). front_at c.args.place s.lists) c.self.view_is

pub returns-in-None-clause-rest : goal.returns-in-None-clause-rest
returns-in-None-clause-rest c =
    let q = c.self.inside in
    let inside = within_places q.posts.items q.places.items q.room c.args.self.now c.args.place c.self.view_is c.requires in
    sym c.self.view_is
    ∙ ap (λ lists. queued lists q.room) (sym (idle q.posts.items q.links.items q.places.items c.args.place c.index-ends.result.now inside c.index-ends.ensures c.in-None.is).stays)
    ∙ ap (λ (s : Queued). queued (taken c.args.place s.lists) s.room) c.self.view_is

pub index-requires : goal.index-requires
index-requires c =
    let q = c.self.inside in
    let inside = within_places q.posts.items q.places.items q.room c.args.self.now c.args.place c.self.view_is c.requires in
    let there = first_within q.posts.items q.links.items q.places.items c.args.place c.in-Some.first c.index-ends.result.now (record { linked = c.self.invariant.0; ended = c.self.invariant.1 }) inside c.index-ends.ensures c.in-Some.is in
    omega (arith, q.posts.ok.0, place_at-within q.posts.items c.in-Some.first c.args.place there)

pub index-requires-2 : goal.index-requires-2
index-requires-2 c =
    let q = c.self.inside in
    let inside = within_places q.posts.items q.places.items q.room c.args.self.now c.args.place c.self.view_is c.requires in
    let there = first_within q.posts.items q.links.items q.places.items c.args.place c.in-Some.first c.index-ends.result.now (record { linked = c.self.invariant.0; ended = c.self.invariant.1 }) inside c.index-ends.ensures c.in-Some.is in
    omega (arith, q.links.ok.0, place_at-within q.posts.items c.in-Some.first c.args.place there, linked-length q.posts.items q.posts.items q.links.items c.self.invariant.0)

pub invariant_of-self : goal.invariant_of-self
invariant_of-self c =
    let q = c.self.inside in
    let inside = within_places q.posts.items q.places.items q.room c.args.self.now c.args.place c.self.view_is c.requires in
    let made = took q.posts.items q.links.items q.places.items c.args.place c.in-Some.first c.index-ends.result.now c.index.result.now c.index-2.result.now
    (record { linked = c.self.invariant.0; ended = c.self.invariant.1 }) inside c.index-ends.ensures c.in-Some.is c.index.ensures c.index-2.ensures in
    (c.self.invariant.0, made.ended, c.self.invariant.2, c.self.invariant.3)

pub returns-clause-front : goal.returns-clause-front
returns-clause-front c =
    let q = c.self.inside in
    let inside = within_places q.posts.items q.places.items q.room c.args.self.now c.args.place c.self.view_is c.requires in
    let made = took q.posts.items q.links.items q.places.items c.args.place c.in-Some.first c.index-ends.result.now c.index.result.now c.index-2.result.now
    (record { linked = c.self.invariant.0; ended = c.self.invariant.1 }) inside c.index-ends.ensures c.in-Some.is c.index.ensures c.index-2.ensures in
    made.front ∙ ap (λ (s : Queued). front_at c.args.place s.lists) c.self.view_is

pub returns-clause-rest : goal.returns-clause-rest
returns-clause-rest c =
    let q = c.self.inside in
    let inside = within_places q.posts.items q.places.items q.room c.args.self.now c.args.place c.self.view_is c.requires in
    let made = took q.posts.items q.links.items q.places.items c.args.place c.in-Some.first c.index-ends.result.now c.index.result.now c.index-2.result.now
    (record { linked = c.self.invariant.0; ended = c.self.invariant.1 }) inside c.index-ends.ensures c.in-Some.is c.index.ensures c.index-2.ensures in
    ap (λ lists. queued lists q.room) made.lists ∙ ap (λ (s : Queued). queued (taken c.args.place s.lists) s.room) c.self.view_is

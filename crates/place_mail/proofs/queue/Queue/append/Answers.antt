use Rattle.std.proofs.Common.{◌-◌, ap, ◌∙◌, sym, subst, arith}
use Rattle.place_mail.specs.declared.queue.Post.{Post}
use Rattle.place_mail.specs.declared.queue.Ends.{Ends}
use Rattle.place_mail.specs.Mail.{posted}
use Rattle.place_mail.specs.Queue.{Queued, IsLast, extended}
use Rattle.place_mail.proofs.QueueLemmas.{appended_as, ended-here, last_within, linked-length, within_places, queued}
use Rattle.place_mail.proofs.queue.Queue.append.Goals as goal

pub index-ends-requires : goal.index-ends-requires
index-ends-requires c = omega (arith, c.self.inside.places.ok.0, within_places c.self.inside.posts.items c.self.inside.places.items c.self.inside.room c.args.self.now c.args.place c.self.view_is c.requires.place)

pub push_post-requires-clause-last : goal.push_post-requires-clause-last
push_post-requires-clause-last c =
    let q = c.self.inside in
    let ends : Ends = c.index-ends.result.now in
    let inside = within_places q.posts.items q.places.items q.room c.args.self.now c.args.place c.self.view_is c.requires.place in
    last_within q.posts.items c.args.place ends.last _
    (subst (λ (t : Ends). IsLast q.posts.items c.args.place t.last) (sym c.index-ends.ensures) (ended-here q.posts.items c.args.place q.places.items ends inside c.self.invariant.1).1)
    (sym (linked-length q.posts.items q.posts.items q.links.items c.self.invariant.0) ∙ sym q.links.ok.0)

pub index_mut-requires : goal.index_mut-requires
index_mut-requires c = omega (arith, c.self.inside.places.ok.0, within_places c.self.inside.posts.items c.self.inside.places.items c.self.inside.room c.args.self.now c.args.place c.self.view_is c.requires.place)

pub invariant_of-self : goal.invariant_of-self
invariant_of-self c =
    let q = c.self.inside in
    let ends : Ends = c.index-ends.result.now in
    let post : Post = record { place = c.args.place; request = c.args.request } in
    let inside = within_places q.posts.items q.places.items q.room c.args.self.now c.args.place c.self.view_is c.requires.place in
    let made = appended_as q.posts.items q.links.items q.places.items post ends c.push_post.new.posts.items c.push_post.new.links.items c.extended.result
    (record { linked = c.self.invariant.0; ended = c.self.invariant.1 }) inside c.index-ends.ensures
    c.push_post.ensures.posts c.push_post.ensures.links (c.extended.ensures ∙ ap (λ n. extended ends n) (c.len-next.ensures ∙ q.posts.ok.0)) in
    let room = ap (λ (s : Queued). s.room) c.self.view_is in (
      made.linked,
      made.ended,
      omega (arith, room, c.requires.room, c.self.invariant.2, c.push_post.ensures.len, c.push_post.ensures.capacity),
      omega (arith, room, c.requires.room, c.self.invariant.3, c.push_post.ensures.links_len, c.push_post.ensures.links_capacity),
    )

pub returns : goal.returns
returns c =
    let q = c.self.inside in
    let ends : Ends = c.index-ends.result.now in
    let post : Post = record { place = c.args.place; request = c.args.request } in
    let inside = within_places q.posts.items q.places.items q.room c.args.self.now c.args.place c.self.view_is c.requires.place in
    let made = appended_as q.posts.items q.links.items q.places.items post ends c.push_post.new.posts.items c.push_post.new.links.items c.extended.result
    (record { linked = c.self.invariant.0; ended = c.self.invariant.1 }) inside c.index-ends.ensures
    c.push_post.ensures.posts c.push_post.ensures.links (c.extended.ensures ∙ ap (λ n. extended ends n) (c.len-next.ensures ∙ q.posts.ok.0)) in
    ap (λ lists. queued lists (q.room - 1)) made.lists ∙ ap (λ (s : Queued). queued (posted c.args.place c.args.request s.lists) (s.room - 1)) c.self.view_is

use Rattle.std.proofs.Common.{[], ap, ◌∙◌, arith}
use Rattle.place_mail.specs.Queue.{lists_from}
use Rattle.place_mail.proofs.QueueLemmas.{lists_none, ended_none, queued}
use Rattle.place_mail.proofs.queue.Queue.open.Goals as goal

pub invariant_of-result : goal.invariant_of-result
invariant_of-result c = (
  rw (c.in_ok-posts.ensures.items, c.in_ok-links.ensures.items) tt,
  rw (c.in_ok-posts.ensures.items, c.in_ok-places.ensures) (ended_none c.args.places 0),
  omega (arith, c.in_ok-posts.ensures.len, c.in_ok-posts.ensures.exact),
  omega (arith, c.in_ok-links.ensures.len, c.in_ok-links.ensures.exact),
)

pub returns : goal.returns
returns c =
    ap (λ lists. queued lists c.args.requests) (ap (λ posts. lists_from posts 0 c.in_ok-places.places.items) c.in_ok-posts.ensures.items ∙ ap (λ places. lists_from [] 0 places) c.in_ok-places.ensures ∙ lists_none c.args.places 0)

use Rattle.std.proofs.Common.{◌≡◌, ◌<◌, ◌+◌, length, filter, take, refl, sym, ◌∙◌, ap, arith}
use Rattle.std.specs.Prelude.{Some}
use Rattle.std.proofs.lemmas.Option.{slice_get-get_or, slice_get_past}
use Rattle.std.specs.Prelude.{slice_get, slice_index_or}
use Rattle.session_runs.specs.Standing.{run, root}
use Rattle.session_runs.specs.MoveOrder.{possible_moves}
use Rattle.session_core.specs.Session.{places_in}
use Rattle.wire_manager.specs.Link.{messages_of}
use Rattle.wire_manager.specs.Linked.{wire_moves}
use Rattle.wire_manager.proofs.ListingLemmas.{is_here, passes_more, passes_no_more, passed_all}
use Rattle.wire_manager.proofs.listing.move_count.Goals.{then-can_nth, else-can_nth}
use Rattle.wire_manager.proofs.listing.move_count.Goals as goal

pub loop-index-init : goal.loop-index-init
loop-index-init g c = (omega arith, λ standing stands. refl)

pub loop-index-preserved : goal.loop-index-preserved
loop-index-preserved g c =
    let inv = c.loop-index.invariant in
    let messages = messages_of c.args.link.now.messages.items in
    elim c.if-can_nth.branch [
      | then-can_nth w ↦ (
        omega (arith, inv.0, w.count-is),
        λ standing stands.
            let moves = possible_moves (places_in c.args.session.now.opening) standing in
            let below : c.loop-index.index < length moves = omega (arith, c.loop-index-test.true, c.move_count-index-end.ensures standing stands) in
            w.count-is ∙ passes_more (is_here standing messages) moves c.loop-index.index c.loop-index.count (run root) below (inv.1 standing stands) (sym (c.can_nth.ensures standing (run root) stands below) ∙ w.if-can_nth.true),
      )
      | else-can_nth w ↦ (
        omega (arith, inv.0, w.count-is),
        λ standing stands.
            let moves = possible_moves (places_in c.args.session.now.opening) standing in
            let below : c.loop-index.index < length moves = omega (arith, c.loop-index-test.true, c.move_count-index-end.ensures standing stands) in
            w.count-is ∙ passes_no_more (is_here standing messages) moves c.loop-index.index c.loop-index.count (run root) below (inv.1 standing stands) (sym (c.can_nth.ensures standing (run root) stands below) ∙ w.if-can_nth.false),
      )
    ]

pub returns : goal.returns
returns g c = λ standing stands.
    let moves = possible_moves (places_in c.args.session.now.opening) standing in
    let whole : c.loop-index.index ≡ length moves = omega (arith, c.loop-index-test.false, c.loop-index.auto.index-end, c.move_count-index-end.ensures standing stands) in
    passed_all (is_here standing (messages_of c.args.link.now.messages.items)) moves c.loop-index.index c.loop-index.count whole (c.loop-index.invariant.1 standing stands)

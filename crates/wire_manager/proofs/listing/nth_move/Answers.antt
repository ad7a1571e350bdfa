use Rattle.std.proofs.Common.{◌≡◌, ◌<◌, ◌+◌, length, filter, take, refl, sym, ◌∙◌, ap, arith}
use Rattle.std.specs.Prelude.{Some}
use Rattle.std.proofs.lemmas.Option.{slice_get-get_or, slice_get_past}
use Rattle.std.specs.Prelude.{slice_get, slice_index_or}
use Rattle.session_runs.specs.Standing.{run, root}
use Rattle.session_runs.specs.MoveOrder.{possible_moves}
use Rattle.session_core.specs.Session.{places_in}
use Rattle.wire_manager.specs.Link.{messages_of}
use Rattle.wire_manager.specs.Linked.{wire_moves}
use Rattle.wire_manager.proofs.ListingLemmas.{is_here, passes_more, passes_no_more, passed_all, passed_at}
use Rattle.wire_manager.proofs.listing.nth_move.Goals.{then-can_nth+else-ahead-index, else-can_nth}
use Rattle.wire_manager.proofs.listing.nth_move.Goals as goal

pub loop-at-init : goal.loop-at-init
loop-at-init g c = (omega arith, omega arith, λ standing stands. refl)

pub loop-at-preserved : goal.loop-at-preserved
loop-at-preserved g c =
    let inv = c.loop-at.invariant in
    let messages = messages_of c.args.link.now.messages.items in
    elim c.if-can_nth.branch [
      | then-can_nth+else-ahead-index w ↦ (
        omega (arith, inv.0, w.ahead-is),
        omega (arith, inv.1, w.ahead-is, w.if-ahead-index.false),
        λ standing stands.
            let moves = possible_moves (places_in c.args.session.now.opening) standing in
            let below : c.loop-at.at < length moves = omega (arith, c.loop-at-test.true, c.move_count-at-end.ensures standing stands) in
            w.ahead-is ∙ passes_more (is_here standing messages) moves c.loop-at.at c.loop-at.ahead (run root) below (inv.2 standing stands) (sym (c.can_nth.ensures standing (run root) stands below) ∙ w.if-can_nth.true),
      )
      | else-can_nth w ↦ (
        omega (arith, inv.0, w.ahead-is),
        omega (arith, inv.1, w.ahead-is),
        λ standing stands.
            let moves = possible_moves (places_in c.args.session.now.opening) standing in
            let below : c.loop-at.at < length moves = omega (arith, c.loop-at-test.true, c.move_count-at-end.ensures standing stands) in
            w.ahead-is ∙ passes_no_more (is_here standing messages) moves c.loop-at.at c.loop-at.ahead (run root) below (inv.2 standing stands) (sym (c.can_nth.ensures standing (run root) stands below) ∙ w.if-can_nth.false),
      )
    ]

pub returns-then-ahead-index : goal.returns-then-ahead-index
returns-then-ahead-index g c = λ standing stands.
    let messages = messages_of c.args.link.now.messages.items in
    let places = places_in c.args.session.now.opening in
    let moves = possible_moves places standing in
    let below : c.loop-at.at < length moves = omega (arith, c.loop-at-test.true, c.move_count-at-end.ensures standing stands) in
    let there = slice_get-get_or moves c.loop-at.at (run root) below in
    c.nth_move.ensures standing stands
    ∙ (there ∙ sym (ap (λ n. slice_get (wire_moves places standing messages) n) (sym c.if-ahead-index.true ∙ c.loop-at.invariant.2 standing stands)
    ∙ passed_at (is_here standing messages) moves c.loop-at.at (slice_index_or moves c.loop-at.at (run root)) there (sym (c.can_nth.ensures standing (run root) stands below) ∙ c.if-can_nth.true)))

pub returns : goal.returns
returns g c = λ standing stands.
    let messages = messages_of c.args.link.now.messages.items in
    let places = places_in c.args.session.now.opening in
    let moves = possible_moves places standing in
    let whole : c.loop-at.at ≡ length moves = omega (arith, c.loop-at-test.false, c.loop-at.auto.at-end, c.move_count-at-end.ensures standing stands) in
    let all = passed_all (is_here standing messages) moves c.loop-at.at c.loop-at.ahead whole (c.loop-at.invariant.2 standing stands) in
    sym (slice_get_past (wire_moves places standing messages) c.args.index (omega (arith, all, c.loop-at.invariant.1)))

use Rattle.std.proofs.Common.{sym, ◌∙◌, ap, Some}
use Rattle.std.specs.Option.{option_map}
use Rattle.std.proofs.lemmas.Option.{get_or_from_slice_get}
use Rattle.session_runs.specs.MoveOrder.{possible_moves}
use Rattle.session_runs.specs.Touches.{touch_of}
use Rattle.session_book.specs.Entries.{move_of}
use Rattle.session_core.specs.Session.{places_in}
use Rattle.wire_manager.specs.Messages.{is_there}
use Rattle.wire_manager.specs.Link.{messages_of}
use Rattle.wire_manager.proofs.ListingLemmas.{at_index, none_there}
use Rattle.wire_manager.proofs.listing.can_nth.Goals as goal

pub returns-in-Some : goal.returns-in-Some
returns-in-Some g c = λ standing other stands below.
    let moves = possible_moves (places_in c.args.session.now.opening) standing in
    let listed = sym (c.nth_move.ensures standing stands) ∙ ap (λ o. option_map move_of o) c.in-Some.is in
    c.is_there.ensures
    ∙ (ap (λ t. is_there (messages_of c.args.link.now.messages.items) t) (c.touches.ensures.possible standing stands (at_index moves c.args.index (move_of c.in-Some.step) listed))
    ∙ ap (λ m. is_there (messages_of c.args.link.now.messages.items) (touch_of standing m)) (sym (get_or_from_slice_get moves c.args.index (move_of c.in-Some.step) other listed)))

pub returns-in-None : goal.returns-in-None
returns-in-None g c = λ standing other stands below.
    none_there (possible_moves (places_in c.args.session.now.opening) standing) c.args.index other (sym (c.nth_move.ensures standing stands) ∙ ap (λ o. option_map move_of o) c.in-None.is) below

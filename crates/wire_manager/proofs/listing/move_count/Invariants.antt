use Rattle.std.proofs.Common.{◌≡◌, ◌≤◌}
use Rattle.session_runs.specs.Standing.{Standing}
use Rattle.session_core.specs.Session.{places_in, StandsAt}
use Rattle.wire_manager.specs.Link.{messages_of}
use Rattle.wire_manager.proofs.ListingLemmas.{passed_of}
use Rattle.wire_manager.proofs.listing.move_count.Given as goal

abbrev pub invariant-loop-index : goal.invariant-loop-index
invariant-loop-index g l =
    (l.count ≤ l.index) × ((standing : Standing) → StandsAt l.session standing → l.count ≡ passed_of (places_in l.session.opening) standing (messages_of l.link.messages.items) l.index)

use Rattle.std.proofs.Common.{◌≡◌, ◌≤◌}
use Rattle.session_runs.specs.Standing.{Standing}
use Rattle.session_core.specs.Session.{places_in, StandsAt}
use Rattle.wire_manager.specs.Link.{messages_of}
use Rattle.wire_manager.proofs.ListingLemmas.{passed_of}
use Rattle.wire_manager.proofs.listing.nth_move.Given as goal

abbrev pub invariant-loop-at : goal.invariant-loop-at
invariant-loop-at g l =
    (l.ahead ≤ l.at) × (l.ahead ≤ l.index) × ((standing : Standing) → StandsAt l.session standing → l.ahead ≡ passed_of (places_in l.session.opening) standing (messages_of l.link.messages.items) l.at)

use Rattle.std.proofs.Common.{◌≡◌, ◌≤◌, ◌⊎◌, ℕ, length, subst}
use Rattle.session_runs.specs.Standing.{Standing, is_open}
use Rattle.session_runs.specs.Played.{AsksOnly}
use Rattle.session_core.specs.declared.opened.Opened.{Opened}
use Rattle.session_core.specs.Session.{session_in, keys_in, places_in, history, StandsAt}
use Rattle.wire_manager.specs.Link.{messages_of}
use Rattle.wire_manager.specs.Linked.{CanMakeNow, IsUnderWay, wire_moves}
use Rattle.wire_manager.specs.Wire.{Wire}
use Rattle.wire_manager.proofs.session.WireSession.is_not_stuck.Goals as goal

pub returns-clause-possible : goal.returns-clause-possible
returns-clause-possible g c =
    subst (λ (w : Wire (Opened g.row.B.Denot)). (standing : Standing) (pass : ℕ) → StandsAt w.seen standing → standing.state ≡ is_open → CanMakeNow (session_in w.seen.opening) (keys_in w.seen.opening) standing pass w.messages ⊎ ((1 ≤ length standing.in_flight) ⊎ IsUnderWay w.messages)) c.self.view_is
    (λ standing pass stands still.
    c.wire_progress_law.ensures.possible (session_in c.self.inside.session.opening) (keys_in c.self.inside.session.opening) (history c.self.inside.session) standing pass (messages_of c.self.inside.link.messages.items) stands still c.self.invariant.linked)

pub returns-clause-listed : goal.returns-clause-listed
returns-clause-listed g c =
    subst (λ (w : Wire (Opened g.row.B.Denot)). (standing : Standing) → StandsAt w.seen standing → standing.state ≡ is_open → AsksOnly (places_in w.seen.opening) (session_in w.seen.opening).phrase → (1 ≤ length (wire_moves (places_in w.seen.opening) standing w.messages)) ⊎ ((1 ≤ length standing.in_flight) ⊎ IsUnderWay w.messages)) c.self.view_is
    (λ standing stands still asks.
    c.wire_progress_law.ensures.listed (session_in c.self.inside.session.opening) (keys_in c.self.inside.session.opening) (places_in c.self.inside.session.opening) (history c.self.inside.session) standing (messages_of c.self.inside.link.messages.items) asks stands still c.self.invariant.linked)

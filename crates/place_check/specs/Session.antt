-- Which phrases a checked session may have, and the fact that a session was checked against places.
use Rattle.std.specs.Prelude.{◌≡◌, ℕ, List, [], IsTrue, is_some}
use Rattle.std.specs.List.{AllByRecursion}
use Rattle.phrase_tree.specs.declared.phrase.Phrase.{Phrase}
use Rattle.phrase_tree.specs.Term.{Term, term}
use Rattle.phrase_tree.specs.Numbering.{IsSized}
use Rattle.phrase_tree.specs.Events.{Event, events_of}
use Rattle.evidence_types.specs.Measure.{IsLight}
use Rattle.seal_hmac.specs.Keys.{key_of}
use Rattle.session_model.specs.Session.{Session}
use Rattle.place_check.specs.declared.entry.PlaceEntry.{PlaceEntry}
use Rattle.place_check.specs.Places.{is_place}
use Rattle.place_check.specs.Rules.{faults}

-- a checked session as the program holds it
pub record CheckedSession : Type 0 where
  pub root : List ℕ
  pub nonce : List ℕ
  pub phrase : Phrase

-- the session that it is
abbrev pub session_of : CheckedSession → Session
session_of checked = record { root = checked.root; nonce = checked.nonce; phrase = term checked.phrase }

-- a phrase of at most 2,048 events and 64 open brackets, whose evidence is nowhere over the limit
pub record IsBounded (phrase : Term) : Type 0 where
  pub sized : IsSized phrase
  pub light : IsLight phrase

-- a session was checked against places: its root is one of them, and its phrase breaks no rule
pub record IsCheckedAgainst (session : Session) (places : List PlaceEntry) : Type 0 where
  pub rooted : IsTrue (is_place places session.root)
  pub placed : faults places session.root session.phrase ≡ []

-- each of these events happens at a place that has a key
abbrev pub HaveKeys : List (List ℕ × List ℕ) → List Event → Type 0
HaveKeys keys events = AllByRecursion (λ event. IsTrue (is_some (key_of keys event.place))) events

-- each event of a session does
abbrev pub SessionHasKeys : Session → List (List ℕ × List ℕ) → Type 0
SessionHasKeys session keys = HaveKeys keys (events_of session.phrase session.root 0)

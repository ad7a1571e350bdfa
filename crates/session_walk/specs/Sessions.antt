-- How a walk sees the sessions that it plays (this project's own).
use Rattle.std.specs.Prelude.{◌≡◌, ◌<◌, ℕ, List, Option, None, Some, map, slice_set}
use Rattle.std.specs.List.{AllByRecursion}
use Rattle.bench_trait.specs.declared.artefacts.Artefact.{Artefact}
use Rattle.bench_trait.specs.declared.ask.Ask.{Ask}
use Rattle.bench_trait.specs.declared.bench.BenchFault.{BenchFault}
use Rattle.session_model.specs.Session.{Session}
use Rattle.session_runs.specs.Standing.{Entry, Standing, opening}
use Rattle.session_runs.specs.History.{standing_after}
use Rattle.session_runs.specs.Schedule.{draw, Walked, all_opened}
use Rattle.session_runs.specs.Played.{AskOnly}
use Rattle.place_check.specs.declared.entry.PlaceEntry.{PlaceEntry}
use Rattle.place_check.specs.Places.{keys_of}
use Rattle.place_check.specs.Session.{CheckedSession, session_of}
use Rattle.checked_sessions.specs.Named.{place_names}
use Rattle.session_core.specs.declared.opened.Opened.{Opened}
use Rattle.session_core.specs.Session.{Seen, session_in, keys_in, places_in, history}
use Rattle.session_walk.specs.Drawn.{candidate_count}
use Rattle.session_walk.specs.Taken.{TakesCandidate}
use Rattle.session_walk.specs.UnderWay.{IsWalking, entries_left}

-- how a session stands after a history; as it was opened, where it can't have that history
abbrev pub standing_or : Session → Option Standing → Standing
standing_or session None = opening session
standing_or session (Some standing) = standing

abbrev pub walked_by : Session → List (List ℕ × List ℕ) → List Entry → Walked
walked_by session keys entries =
    record { session = session; history = entries; standing = standing_or session (standing_after session keys entries) }

-- a session with its history, and how it stands after it
abbrev pub walked_in : {B : Type 0} → Seen (Opened B) → Walked
walked_in seen = walked_by (session_in seen.opening) (keys_in seen.opening) (history seen)

-- a session was opened over these artefacts and this bench
pub record IsOver {B : Type 0} (artefacts : List Artefact) (bench : B) (seen : Seen (Opened B)) : Type 0 where
  pub book : seen.opening.artefacts.now ≡ artefacts
  pub measurer : seen.opening.bench.now ≡ bench

-- it was opened among these places
pub record IsOpenedIn {B : Type 0} (places : List PlaceEntry) (artefacts : List Artefact) (bench : B) (seen : Seen (Opened B)) : Type 0 where
  pub among : seen.opening.places.now ≡ places
  pub over : IsOver artefacts bench seen

-- the session at an index went on by the candidate that was drawn, and no other changed
pub record GoesOnAt {B : Type 0} (Gives : Ask → List ℕ → Type 0) (Fails : Ask → BenchFault → Type 0) (Starves : Ask → Type 0) (index : ℕ) (before : Seen (Opened B)) (old new : List (Seen (Opened B))) (from later : Option ℕ) : Type 0 where
  pub after : Seen (Opened B)
  pub others : new ≡ slice_set old index after
  pub opening_stays : after.opening ≡ before.opening
  pub took : TakesCandidate Gives Fails Starves (places_in before.opening) (keys_in before.opening) (draw (candidate_count (places_in before.opening) (walked_in before).standing) from).drawn (walked_in before) (walked_in after)
  pub from_then : later ≡ (draw (candidate_count (places_in before.opening) (walked_in before).standing) from).from

-- the sessions of a job are walked: they were opened among these places, over these artefacts and this bench
pub record IsWalkOf {B : Type 0} (Gives : Ask → List ℕ → Type 0) (Fails : Ask → BenchFault → Type 0) (Starves : Ask → Type 0) (places : List PlaceEntry) (artefacts : List Artefact) (bench : B) (those : List Session) (number : ℕ) (sessions : List (Seen (Opened B))) (going : List ℕ) (from : Option ℕ) : Type 0 where
  pub only : AskOnly (place_names places) those
  pub opened_in : AllByRecursion (IsOpenedIn places artefacts bench) sessions
  pub walking : IsWalking Gives Fails Starves (place_names places) (keys_of places) those number (map walked_in sessions) going from

-- the same, of some job
pub record IsWalked {B : Type 0} (Gives : Ask → List ℕ → Type 0) (Fails : Ask → BenchFault → Type 0) (Starves : Ask → Type 0) (artefacts : List Artefact) (bench : B) (sessions : List (Seen (Opened B))) (going : List ℕ) (from : Option ℕ) : Type 0 where
  pub places : List PlaceEntry
  pub those : List Session
  pub number : ℕ
  pub walk : IsWalkOf Gives Fails Starves places artefacts bench those number sessions going from

-- they are walked on by a round
pub record IsWalkedOn {B : Type 0} (Gives : Ask → List ℕ → Type 0) (Fails : Ask → BenchFault → Type 0) (Starves : Ask → Type 0) (places : List PlaceEntry) (artefacts : List Artefact) (bench : B) (those : List Session) (number : ℕ) (old new : List (Seen (Opened B))) (going : List ℕ) (from : Option ℕ) : Type 0 where
  pub walk : IsWalkOf Gives Fails Starves places artefacts bench those number new going from
  pub fewer : entries_left (map walked_in new) < entries_left (map walked_in old)

-- the sessions of a job were just opened, in their order
pub record AreAllOpened {B : Type 0} (places : List PlaceEntry) (artefacts : List Artefact) (bench : B) (those : List CheckedSession) (sessions : List (Seen (Opened B))) : Type 0 where
  pub only : AskOnly (place_names places) (map session_of those)
  pub all : map walked_in sessions ≡ all_opened (map session_of those)
  pub opened_in : AllByRecursion (IsOpenedIn places artefacts bench) sessions

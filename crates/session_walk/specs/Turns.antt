-- Sessions that the schedule of 0 plays, one after another (this project's own).
use Rattle.std.specs.Prelude.{◌≡◌, ℕ, false, List, [], ◌∷◌, ◌++◌, None}
use Rattle.bench_trait.specs.declared.ask.Ask.{Ask}
use Rattle.bench_trait.specs.declared.bench.BenchFault.{BenchFault}
use Rattle.session_model.specs.Session.{Session}
use Rattle.session_runs.specs.Schedule.{Walked, is_running, is_starving}
use Rattle.session_runs.specs.Played.{AskOnly}
use Rattle.place_check.specs.declared.entry.PlaceEntry.{PlaceEntry}
use Rattle.place_check.specs.Places.{keys_of}
use Rattle.checked_sessions.specs.Named.{place_names}
use Rattle.session_walk.specs.Drawn.{open_ones}
use Rattle.session_walk.specs.UnderWay.{IsWalking}

-- none of these is open
abbrev pub NoneRuns : List Walked → Type 0
NoneRuns [] = Unit {0}
NoneRuns (walked ∷ all) = (is_running walked.standing.state ≡ false) × NoneRuns all

-- the schedule of 0 has come to the first of the sessions that are left; those before them are over
pub record IsTurnOf (Gives : Ask → List ℕ → Type 0) (Fails : Ask → BenchFault → Type 0) (Starves : Ask → Type 0) (places : List PlaceEntry) (those : List Session) (over left : List Walked) : Type 0 where
  pub only : AskOnly (place_names places) those
  pub none : NoneRuns over
  pub walking : IsWalking Gives Fails Starves (place_names places) (keys_of places) those 0 (over ++ left) (open_ones 0 (over ++ left)) None

-- in some walk it is the turn of this session
abbrev pub IsItsTurn : (Ask → List ℕ → Type 0) → (Ask → BenchFault → Type 0) → (Ask → Type 0) → List PlaceEntry → Walked → Type 0
IsItsTurn Gives Fails Starves places walked =
    (those : List Session) × (over : List Walked) × (more : List Walked) × IsTurnOf Gives Fails Starves places those over (walked ∷ more)

-- in each walk in which it was the turn of a session, it is its turn as it stands now
abbrev pub TurnStays : (Ask → List ℕ → Type 0) → (Ask → BenchFault → Type 0) → (Ask → Type 0) → List PlaceEntry → Walked → Walked → Type 0
TurnStays Gives Fails Starves places before after =
    (those : List Session) (over more : List Walked) → IsTurnOf Gives Fails Starves places those over (before ∷ more) → IsTurnOf Gives Fails Starves places those over (after ∷ more)

-- a session whose turn it was is done or failed, and as it stands now the turn passes to the session behind it
pub record HasHadTurn (Gives : Ask → List ℕ → Type 0) (Fails : Ask → BenchFault → Type 0) (Starves : Ask → Type 0) (places : List PlaceEntry) (before after : Walked) : Type 0 where
  pub passes : (those : List Session) (over more : List Walked) → IsTurnOf Gives Fails Starves places those over (before ∷ more) → IsTurnOf Gives Fails Starves places those (over ++ after ∷ []) more
  pub ended : is_running after.standing.state ≡ false
  pub fed : is_starving after.standing.state ≡ false

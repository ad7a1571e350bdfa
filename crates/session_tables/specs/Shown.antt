-- When the tables of a session's machines are those of its configuration (this project's own).
use Rattle.std.specs.Prelude.{◌≡◌, ℕ, Bool, List, [], ◌∷◌, Option, None, Some, nat_eq, if◌then◌else◌}
use Rattle.std.specs.Cmp.Lexicographic.{pointwise}
use Rattle.evidence_types.specs.Evidence.{Evidence}
use Rattle.machine_tables.specs.Row.{Local}
use Rattle.machine_tables.specs.Tables.{BlockState, not_started, running, over, Tables}
use Rattle.session_runs.specs.Configuration.{Configuration}
use Rattle.session_runs.specs.Standing.{Block, root, State, is_open, Standing}
use Rattle.session_tables.specs.Left.{told_or, Left}
use Rattle.session_tables.specs.Found.{View, unseen, asks_for, waits, runs, replied, joinable, found, found_block}

-- a machine holds what is left of its block
pub record Holds (left : Left) (local : Local) : Type 0 where
  pub code : local.rest ≡ left.code
  pub evidence : told_or left.evidence local.evidence ≡ local.evidence
  pub stack : local.stack ≡ left.stack

-- no machine runs in the block
abbrev pub IsIdle : BlockState → Type 0
IsIdle not_started = Unit {0}
IsIdle (running remote local) = ⊥
IsIdle (over result) = Unit {0}

-- a machine runs in the block, for a request or not, and holds what is left of it
abbrev pub RunsOn : Bool → Left → BlockState → Type 0
RunsOn for_request left not_started = ⊥
RunsOn for_request left (running remote local) = (remote ≡ for_request) × Holds left local
RunsOn for_request left (over result) = ⊥

-- a block stands as the configuration says
abbrev pub Stands : View → BlockState → Type 0
Stands unseen state = IsIdle state
Stands (asks_for name) state = IsIdle state
Stands (waits evidence) state = IsIdle state
Stands (runs for_request left) state = RunsOn for_request left state
Stands (replied result) state = IsIdle state
Stands (joinable result) state = state ≡ over result

-- the reply that waits, and the block that asked
abbrev pub reply_in : View → Option Evidence
reply_in (replied result) = Some result
reply_in _ = None

abbrev pub asker_in : View → Option Block
asker_in (asks_for name) = Some name
asker_in _ = None

abbrev pub asker_of : Option (ℕ × Block) → Option Block
asker_of None = None
asker_of (Some asked) = Some asked.1

-- each request in a list waits, with its evidence
abbrev pub AllWait : Configuration → List (ℕ × Evidence) → Type 0
AllWait c [] = Unit {0}
AllWait c (request ∷ rest) = (found root c request.0 ≡ waits request.1) × AllWait c rest

-- the tables' blocks, requests, replies and asks are those of the configuration
pub record IsMadeOf (c : Configuration) (tables : Tables) : Type 0 where
  pub blocks : (name : Block) → Stands (found_block c name) (tables.blocks name)
  pub requests : (place : List ℕ) → AllWait c (tables.requests place)
  pub replies : (n : ℕ) → tables.replies n ≡ reply_in (found root c n)
  pub in_flight : (n : ℕ) → asker_of (tables.in_flight n) ≡ asker_in (found root c n)

-- they are while the session is open
abbrev pub IsMadeWhile : State → Configuration → Tables → Type 0
IsMadeWhile is_open c tables = IsMadeOf c tables
IsMadeWhile _ c tables = Unit {0}

-- the numbers of the requests that wait at a place, in their order
abbrev pub numbers_at : List ℕ → List (List ℕ × ℕ) → List ℕ
numbers_at place [] = []
numbers_at place (request ∷ rest) =
    if pointwise nat_eq request.0 place then request.1 ∷ numbers_at place rest else numbers_at place rest

abbrev pub numbers : List (ℕ × Evidence) → List ℕ
numbers [] = []
numbers (request ∷ rest) = request.0 ∷ numbers rest

-- the passes that asked for an event and aren't answered
abbrev pub passes_for : ℕ → List (ℕ × ℕ) → List ℕ
passes_for n [] = []
passes_for n (asked ∷ rest) = if nat_eq asked.0 n then asked.1 ∷ passes_for n rest else passes_for n rest

abbrev pub pass_of : Option (ℕ × Block) → List ℕ
pass_of None = []
pass_of (Some asked) = asked.0 ∷ []

-- the tables show how a session stands
pub record IsShown (tables : Tables) (standing : Standing) : Type 0 where
  pub state : tables.state ≡ standing.state
  pub trace : tables.trace ≡ standing.trace
  pub answers : tables.answers ≡ standing.answers
  pub requests : (place : List ℕ) → numbers (tables.requests place) ≡ numbers_at place standing.requests
  pub in_flight : (n : ℕ) → pass_of (tables.in_flight n) ≡ passes_for n standing.in_flight
  pub made : IsMadeWhile standing.state standing.configuration tables

-- neither is there, or the tables show how the session stands
abbrev pub AreShown : Option Tables → Option Standing → Type 0
AreShown None None = Unit {0}
AreShown None (Some standing) = ⊥
AreShown (Some tables) None = ⊥
AreShown (Some tables) (Some standing) = IsShown tables standing

-- The moves of an agenda as moves of a session among its places, and when an agenda follows the tables of
-- a session's machines (this project's own).
use Rattle.std.specs.Prelude.{◌≡◌, ℕ, Bool, false, List, [], Option, None, Some, map, slice_get, slice_index_or}
use Rattle.machine_tables.specs.Tables.{Tables, next_of}
use Rattle.session_runs.specs.Standing.{Block, Move as SessionMove, run, ask, deliver}
use Rattle.session_tables.specs.Touched.{named, any_waits}
use Rattle.session_agenda.specs.declared.moves.Move.{Move}
use Rattle.session_agenda.specs.declared.moves.Move.TheVariants.{Deliver, Run, Ask}
use Rattle.session_agenda.specs.declared.agenda.Agenda.{Agenda}
use Rattle.session_agenda.specs.Kept.{next_by, waits_by, listed}

-- the place of an index
abbrev pub place_at : List (List ℕ) → ℕ → List ℕ
place_at places index = slice_index_or places index []

-- a move among these places
abbrev pub placed : List (List ℕ) → Move → SessionMove
placed places (Deliver index) = deliver (place_at places index)
placed places (Run name) = run (named name)
placed places (Ask name) = ask (named name)

-- all moves of an agenda, in order
abbrev pub placed_moves : List (List ℕ) → Agenda → List SessionMove
placed_moves places agenda = map (placed places) (listed agenda)

-- a request waits at a place, if there is one
abbrev pub waits_at : Tables → Option (List ℕ) → Bool
waits_at tables None = false
waits_at tables (Some place) = any_waits (tables.requests place)

-- the agenda says what each block can do next by the tables, and at which of the places requests wait
pub record Follows (agenda : Agenda) (tables : Tables) (places : List (List ℕ)) : Type 0 where
  pub next : (block : Block) → next_by agenda block ≡ next_of tables block
  pub waits : (index : ℕ) → waits_by agenda index ≡ waits_at tables (slice_get places index)

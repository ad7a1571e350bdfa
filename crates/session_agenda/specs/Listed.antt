-- The lists of an agenda, as the tables of a session list what can come next (this project's own).
use Rattle.std.specs.Prelude.{ℕ, List, [], ◌∷◌}
use Rattle.session_runs.specs.MoveOrder.{Ready}
use Rattle.session_tables.specs.Touched.{named}
use Rattle.session_agenda.specs.declared.moves.Mover.{Mover}
use Rattle.session_agenda.specs.declared.agenda.Agenda.{Agenda}
use Rattle.session_agenda.specs.Kept.{step_in, event_in}

-- a block and what it can do next
abbrev pub ready_of : Mover → Ready
ready_of mover =
    record { block = named mover.name; step = step_in mover.task; event = event_in mover.task }

abbrev pub ready_in : List (ℕ × Mover) → List Ready
ready_in [] = []
ready_in (entry ∷ rest) = ready_of entry.1 ∷ ready_in rest

-- those without an event, and those with one
abbrev pub silent_of : Agenda → List Ready
silent_of agenda = ready_in agenda.silent.entries

abbrev pub events_of : Agenda → List Ready
events_of agenda = ready_in agenda.events.entries

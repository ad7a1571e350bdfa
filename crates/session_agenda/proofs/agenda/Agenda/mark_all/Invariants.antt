-- What the blocks so far can do next is marked.
use Rattle.std.proofs.Common.{◌≡◌, ℕ, drop}
use Rattle.machine_tables.specs.Tables.{Next}
use Rattle.session_runs.specs.Standing.{Block}
use Rattle.session_agenda.specs.Kept.{next_by, waits_by, IsKept, SameBounds}
use Rattle.session_agenda.specs.Updated.{Lacks}
use Rattle.session_agenda.proofs.agenda.Agenda.mark_all.Given as goal

abbrev pub invariant-loop-update : goal.invariant-loop-update
invariant-loop-update l =
    IsKept l.self
    × SameBounds l.initial.self l.self
    × ((place : ℕ) → waits_by l.self place ≡ waits_by l.initial.self place)
    × ((next : Block → Next) → Lacks (next_by l.initial.self) l.updates next → Lacks (next_by l.self) (drop l.update-index l.updates) next)

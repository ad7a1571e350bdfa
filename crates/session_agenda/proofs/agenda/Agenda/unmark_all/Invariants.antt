-- The blocks so far are unmarked.
use Rattle.std.proofs.Common.{◌≡◌, ℕ, drop}
use Rattle.session_runs.specs.Standing.{Block}
use Rattle.session_tables.specs.Touched.{changed_at}
use Rattle.session_agenda.specs.Kept.{next_by, waits_by, IsKept, SameBounds}
use Rattle.session_agenda.specs.Updated.{updated, no_next}
use Rattle.session_agenda.proofs.agenda.Agenda.unmark_all.Given as goal

abbrev pub invariant-loop-update : goal.invariant-loop-update
invariant-loop-update l =
    IsKept l.self
    × SameBounds l.initial.self l.self
    × ((place : ℕ) → waits_by l.self place ≡ waits_by l.initial.self place)
    × ((block : Block) → changed_at (updated (drop l.update-index l.updates)) no_next (next_by l.self) block ≡ changed_at (updated l.updates) no_next (next_by l.initial.self) block)

use Rattle.std.proofs.Common.{◌<◌, ◌∙◌, length, arith}
use Rattle.session_tables.specs.Touched.{changed_at}
use Rattle.session_agenda.specs.Kept.{next_by}
use Rattle.session_agenda.specs.Updated.{updated, no_next}
use Rattle.session_agenda.proofs.Updating.{unmarks_on}
use Rattle.session_agenda.proofs.Bounds.{same_again}
use Rattle.session_agenda.proofs.agenda.Agenda.unmark_all.Goals as goal

pub loop-update-preserved : goal.loop-update-preserved
loop-update-preserved c =
    let within : c.loop-update.update-index < length c.args.updates.now = omega arith in
    let old = c.loop-update.invariant in (
      c.unmark.ensures.kept,
      same_again c.args.self.now c.loop-update.self c.unmark.new.self old.1 c.unmark.ensures.bounds,
      λ place. c.unmark.ensures.places place ∙ old.2 place,
      unmarks_on c.args.updates.now c.loop-update.update-index within (next_by c.loop-update.self) (next_by c.unmark.new.self) (changed_at (updated c.args.updates.now) no_next (next_by c.args.self.now)) c.unmark.ensures.blocks old.3,
    )

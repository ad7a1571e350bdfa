use Rattle.std.proofs.Common.{◌+◌, ◌<◌, ◌≤◌, ◌∙◌, length, drop, arith}
use Rattle.session_agenda.specs.Kept.{next_by}
use Rattle.session_agenda.proofs.Updating.{lacks_next, lacks_none}
use Rattle.session_agenda.proofs.Bounds.{same_again}
use Rattle.session_agenda.proofs.agenda.Agenda.mark_all.Goals as goal

pub mark_again-requires-clause-lacks : goal.mark_again-requires-clause-lacks
mark_again-requires-clause-lacks c =
    let within : c.loop-update.update-index < length c.args.updates.now = omega arith in
    let next = c.requires.lacks.0 in
    (drop (c.loop-update.update-index + 1) c.args.updates.now, next, lacks_next c.args.updates.now c.loop-update.update-index within (next_by c.loop-update.self) next (c.loop-update.invariant.3 next c.requires.lacks.1))

pub loop-update-preserved : goal.loop-update-preserved
loop-update-preserved c =
    let within : c.loop-update.update-index < length c.args.updates.now = omega arith in
    let old = c.loop-update.invariant in (
      c.mark_again.ensures.kept,
      same_again c.args.self.now c.loop-update.self c.mark_again.new.self old.1 c.mark_again.ensures.bounds,
      λ place. c.mark_again.ensures.places place ∙ old.2 place,
      λ next lacks. c.mark_again.ensures.blocks (drop (c.loop-update.update-index + 1) c.args.updates.now) next
          (lacks_next c.args.updates.now c.loop-update.update-index within (next_by c.loop-update.self) next (old.3 next lacks)),
    )

pub returns-clause-blocks : goal.returns-clause-blocks
returns-clause-blocks c = λ next lacks block.
    let past : length c.args.updates.now ≤ c.loop-update.update-index = omega arith in
    lacks_none c.args.updates.now c.loop-update.update-index past (next_by c.loop-update.self) next (c.loop-update.invariant.3 next lacks) block

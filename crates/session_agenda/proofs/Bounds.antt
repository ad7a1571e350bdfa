-- Room that stays.
use Rattle.std.proofs.Common.{◌∙◌}
use Rattle.session_agenda.specs.declared.agenda.Agenda.{Agenda}
use Rattle.session_agenda.specs.Kept.{SameBounds}

pub same_again : (first old new : Agenda) → SameBounds first old → SameBounds old new → SameBounds first new
same_again first old new before now = record {
  blocks = now.blocks ∙ before.blocks;
  events = now.events ∙ before.events;
  places = now.places ∙ before.places;
}

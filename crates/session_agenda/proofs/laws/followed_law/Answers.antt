use Rattle.std.proofs.Common.{sym, ◌∙◌}
use Rattle.session_agenda.specs.Listed.{silent_of, events_of}
use Rattle.session_agenda.proofs.Following.{follows_agenda, placed_is}
use Rattle.session_agenda.proofs.laws.followed_law.Goals as goal

pub returns-clause-blocks : goal.returns-clause-blocks
returns-clause-blocks c = follows_agenda

pub returns-clause-moves : goal.returns-clause-moves
returns-clause-moves c = placed_is

pub returns-clause-possible : goal.returns-clause-possible
returns-clause-possible c session keys history standing agenda tables places stands opened shown kept follows =
    c.agenda_law.ensures.moves session keys history standing tables places (silent_of agenda) (events_of agenda) stands opened shown (follows_agenda agenda tables places kept follows)
    ∙ sym (placed_is agenda tables places kept follows)

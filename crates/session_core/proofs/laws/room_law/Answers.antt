use Rattle.std.proofs.Common.{◌++◌, ◌∷◌, [], length}
use Rattle.session_book.specs.Entries.{history_of}
use Rattle.session_core.specs.Core.{tables_in}
use Rattle.session_core.proofs.Facts.{has-room}
use Rattle.session_core.proofs.laws.room_law.Goals as goal

pub returns : goal.returns
returns c = λ session keys places standing entry old later is short taken.
    let on = c.played_law.ensures.goes_on session keys (history_of old.book) standing (tables_in old) later entry is.played.played short taken in
    let history = history_of old.book ++ entry ∷ [] in
    has-room session keys places standing old is entry later (length on.then_stands.in_flight)
    (c.bounds_law.ensures.entries session keys history on.then_stands later on.played)
    (c.bounds_law.ensures.events session keys history on.then_stands later on.played)
    (c.bounds_law.ensures.answers session keys history on.then_stands later on.played)

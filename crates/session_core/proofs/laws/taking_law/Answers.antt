use Rattle.session_book.specs.Entries.{history_of}
use Rattle.session_core.specs.Core.{tables_in, tables_at}
use Rattle.session_core.proofs.Facts.{takes}
use Rattle.session_core.proofs.laws.taking_law.Goals as goal

pub returns : goal.returns
returns c = λ session keys places standing entry old world book is short taken left.
    takes session keys places standing old is entry world book taken left
    (c.played_law.ensures.goes_on session keys (history_of old.book) standing (tables_in old) (tables_at world book) entry is.played.played short taken)

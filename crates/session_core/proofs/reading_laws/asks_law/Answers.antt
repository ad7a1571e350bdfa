use Rattle.std.proofs.Common.{sym, subst}
use Rattle.session_tables.specs.Agenda.{AreAsked}
use Rattle.session_book.specs.Kept.{asks_of}
use Rattle.session_core.specs.Core.{tables_at, tables_in}
use Rattle.session_core.proofs.reading_laws.asks_law.Goals as goal

pub returns : goal.returns
returns c session keys places standing core i same =
    c.agenda_law.ensures.asks standing (tables_in core) (asks_of c.args.book.now) i.played.played.shown
    (subst (λ b. AreAsked (tables_at core.world b) (asks_of c.args.book.now)) (sym same) (c.asked_law.ensures core.world core.world.store.values))

use Rattle.std.proofs.Common.{sym, ◌∙◌}
use Rattle.session_agenda.proofs.Keeping.{place_put, place_put_rises, places_kept}
use Rattle.session_agenda.proofs.agenda.Agenda.mark_place.Goals as goal

pub returns-in-None-clause-places : goal.returns-in-None-clause-places
returns-in-None-clause-places c =
    place_put c.args.place c.args.self.now.places.entries c.insert.new.self.entries (sym c.find.ensures ∙ c.in-None.is) c.insert.ensures.entries

pub returns-in-None-clause-kept : goal.returns-in-None-clause-kept
returns-in-None-clause-kept c =
    places_kept c.args.self.now c.requires.kept c.insert.new.self (place_put_rises c.args.place c.args.self.now.places.entries c.insert.new.self.entries c.requires.kept.places_rise (sym c.find.ensures ∙ c.in-None.is) c.insert.ensures.entries)

use Rattle.session_agenda.proofs.Keeping.{place_less, place_less_rises, places_kept}
use Rattle.session_agenda.proofs.agenda.Agenda.unmark_place.Goals as goal

pub returns-clause-places : goal.returns-clause-places
returns-clause-places c =
    place_less c.args.place c.args.self.now.places.entries c.remove.new.self.entries c.requires.kept.places_rise c.remove.ensures.entries

pub returns-clause-kept : goal.returns-clause-kept
returns-clause-kept c =
    places_kept c.args.self.now c.requires.kept c.remove.new.self (place_less_rises c.args.place c.args.self.now.places.entries c.remove.new.self.entries c.requires.kept.places_rise c.remove.ensures.entries)

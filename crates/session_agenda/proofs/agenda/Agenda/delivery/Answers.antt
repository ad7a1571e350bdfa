use Rattle.std.proofs.Common.{sym, ◌∙◌, ap}
use Rattle.session_agenda.proofs.Keeping.{delivery_of, nth_delivery}
use Rattle.session_agenda.proofs.agenda.Agenda.delivery.Goals as goal

pub returns-in-Some : goal.returns-in-Some
returns-in-Some c = sym (nth_delivery c.args.self.now.places.entries c.args.index ∙ ap delivery_of (sym c.nth.ensures ∙ c.in-Some.is))

pub returns-in-None : goal.returns-in-None
returns-in-None c = sym (nth_delivery c.args.self.now.places.entries c.args.index ∙ ap delivery_of (sym c.nth.ensures ∙ c.in-None.is))

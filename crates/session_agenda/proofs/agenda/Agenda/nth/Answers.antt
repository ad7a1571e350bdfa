use Rattle.std.proofs.Common.{◌-◌, sym, ◌∙◌, ap, arith, length}
use Rattle.std.specs.Prelude.{slice_get}
use Rattle.session_agenda.specs.Kept.{move_at}
use Rattle.session_agenda.proofs.Keeping.{in_places, in_silent, in_events}
use Rattle.session_agenda.proofs.agenda.Agenda.nth.Goals as goal

pub returns-then-index-places : goal.returns-then-index-places
returns-then-index-places c =
    c.delivery.ensures ∙ sym (in_places c.args.self.now.places.entries c.args.self.now.silent.entries c.args.self.now.events.entries c.args.index (omega (arith, c.if-index-places.true, c.len-places.ensures)))

pub returns-then-index-places-2 : goal.returns-then-index-places-2
returns-then-index-places-2 c =
    c.moved.ensures
    ∙ ap move_at (c.nth.ensures ∙ ap (λ n. slice_get c.args.self.now.silent.entries (c.args.index - n)) c.len-places.ensures)
    ∙ sym (in_silent c.args.self.now.places.entries c.args.self.now.silent.entries c.args.self.now.events.entries c.args.index (omega (arith, c.if-index-places.false, c.len-places.ensures)) (omega (arith, c.if-index-places-2.true, c.len-places.ensures, c.len-silent.ensures)))

pub returns : goal.returns
returns c =
    c.moved-2.ensures
    ∙ ap move_at (c.nth-2.ensures ∙ ap (λ n. slice_get c.args.self.now.events.entries (c.args.index - n - c.len-silent.result)) c.len-places.ensures ∙ ap (λ n. slice_get c.args.self.now.events.entries (c.args.index - length c.args.self.now.places.entries - n)) c.len-silent.ensures)
    ∙ sym (in_events c.args.self.now.places.entries c.args.self.now.silent.entries c.args.self.now.events.entries c.args.index (omega (arith, c.if-index-places.false, c.len-places.ensures)) (omega (arith, c.if-index-places-2.false, c.len-places.ensures, c.len-silent.ensures)))

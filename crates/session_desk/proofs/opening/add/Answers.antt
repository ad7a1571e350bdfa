use Rattle.std.proofs.Common.{◌≡◌, ◌∙◌, sym, ap, refl}
use Rattle.session_core.specs.Chronicle.{chronicle_of}
use Rattle.session_desk.proofs.OpeningFacts.{seats_fit, added}
use Rattle.session_desk.proofs.opening.add.Goals as goal

pub open-requires-clause-opening : goal.open-requires-clause-opening
open-requires-clause-opening g c = record { opening = c.args.session.opening; is = ap (chronicle_of c.args.session.opening) c.requires.opened }

pub deal-requires-clause-count : goal.deal-requires-clause-count
deal-requires-clause-count g c = c.in-Ok.ensures.ok.count ∙ sym c.requires.count

pub deal-requires-clause-seats : goal.deal-requires-clause-seats
deal-requires-clause-seats g c = seats_fit c.args.session c.args.count c.in-Ok.cell c.in-Ok.seats.items c.requires.opened c.in-Ok.ensures.ok c.args.passes.now.items c.args.passes.now.items c.requires.numbered

pub returns-in-Ok-deal : goal.returns-in-Ok-deal
returns-in-Ok-deal g c = added c.args.session c.args.count c.in-Ok.cell c.in-Ok.seats.items c.requires.opened c.in-Ok.ensures.ok c.args.passes.now.items c.deal.new.passes.items c.in-Ok-deal.ensures

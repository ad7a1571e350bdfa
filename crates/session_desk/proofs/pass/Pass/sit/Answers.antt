use Rattle.std.proofs.Common.{ap, subst, sym}
use Rattle.session_desk.specs.Views.{Known}
use Rattle.session_desk.specs.Seats.{IsSeat}
use Rattle.session_desk.proofs.SeatLists.{seats_pushed}
use Rattle.session_desk.proofs.pass.Pass.sit.Goals as goal

pub invariant_of-self : goal.invariant_of-self
invariant_of-self g c =
    seats_pushed c.self.inside.number c.self.inside.seats.items c.push.new.self.items c.args.seat _ c.push.ensures.items c.self.invariant
    (subst (λ n. IsSeat n c.args.seat) (sym (ap (λ (k : Known _). k.number) c.self.view_is)) c.requires)

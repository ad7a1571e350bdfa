use Rattle.std.proofs.Common.{length}
use Rattle.session_desk.specs.Opening.{AreSeatedFrom}
use Rattle.session_desk.proofs.OpeningFacts.{Begins}
use Rattle.session_desk.proofs.opening.deal.Given as goal

abbrev pub invariant-loop-seat : goal.invariant-loop-seat
invariant-loop-seat g l = Begins l.fn.seats.items l.seats.items × AreSeatedFrom (length l.seats.items) l.initial.passes.items l.fn.seats.items l.passes.items

abbrev pub decreases-loop-seat : goal.decreases-loop-seat
decreases-loop-seat g l = length l.seats.items

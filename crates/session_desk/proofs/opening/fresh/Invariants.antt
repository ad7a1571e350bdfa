use Rattle.std.proofs.Common.{[]}
use Rattle.session_desk.specs.Opening.{AreOpened}
use Rattle.session_desk.proofs.opening.fresh.Given as goal

abbrev pub invariant-loop-number : goal.invariant-loop-number
invariant-loop-number g l = AreOpened [] l.number [] l.passes.items

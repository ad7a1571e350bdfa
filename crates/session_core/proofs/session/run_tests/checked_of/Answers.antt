use Rattle.std.proofs.Common.{arith}
use Rattle.phrase_tree.specs.Term.{term}
use Rattle.phrase_tree.proofs.DepthBounds.{depth_below}
use Rattle.session_core.proofs.session.run_tests.checked_of.Goals as goal

pub check-requires-clause-sized : goal.check-requires-clause-sized
check-requires-clause-sized g c =
    let part = c.in-Some.part in
    record {
      events = omega (arith, part.events, c.if-part-gt60.false);
      nesting = omega (arith, part.events, c.if-part-gt60.false, depth_below (term part.phrase));
    }

use Rattle.std.proofs.Common.{length}
use Rattle.avm_core.proofs.Driving.{root_there}
use Rattle.avm_core.proofs.tests.expect_alone.Goals as goal

pub drive-requires-clause-stands : goal.drive-requires-clause-stands
drive-requires-clause-stands g c =
    let runs = c.in_ok-program.ensures.runs in
    c.start-root.ensures.stands c.in_ok-program.program c.in_ok-keys.keys (length c.nonce.new.self.values) runs (root_there c.in_ok-program.program runs.order) c.in_ok-nonce.ensures.added.within

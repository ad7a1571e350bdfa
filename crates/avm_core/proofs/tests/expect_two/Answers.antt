use Rattle.std.proofs.Common.{List, length, sym, subst}
use Rattle.avm_code.specs.declared.instr.BlockName.TheVariants.{Of}
use Rattle.avm_code.specs.declared.program.Block.{Block}
use Rattle.avm_code.specs.Order.{HasBlock}
use Rattle.avm_core.proofs.Driving.{root_there, stands_more}
use Rattle.avm_core.proofs.tests.expect_two.Goals as goal

pub drive-requires-clause-stands : goal.drive-requires-clause-stands
drive-requires-clause-stands g c =
    let runs = c.in_ok-program.ensures.runs in
    c.start-root.ensures.stands c.in_ok-program.program c.in_ok-keys.keys (length c.nonce.new.self.values) runs (root_there c.in_ok-program.program runs.order) c.in_ok-nonce.ensures.added.within

pub drive-requires-2-clause-stands : goal.drive-requires-2-clause-stands
drive-requires-2-clause-stands g c =
    let made = c.in_ok-program.ensures.made in
    c.start-other.ensures.stands c.in_ok-program.program c.in_ok-keys.keys (length c.drive.new.store.values) c.in_ok-program.ensures.runs
    (subst (λ (p : List Block). HasBlock p (Of 0)) (sym made.1) (c.requires.child made.0)) c.in_ok-begun.ensures.named

pub drive-requires-3-clause-stands : goal.drive-requires-3-clause-stands
drive-requires-3-clause-stands g c =
    stands_more c.in_ok-program.program c.in_ok-keys.keys (length c.drive.new.store.values) (length c.drive-2.new.store.values) c.drive.new.machine c.in_ok-ended.ensures.grows c.in_ok-begun.ensures.stands

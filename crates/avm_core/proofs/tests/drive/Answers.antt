use Rattle.std.proofs.Common.{length, arith}
use Rattle.avm_core.proofs.Driving.{Drives, drives_same}
use Rattle.avm_core.proofs.tests.drive.Goals.{in-NeedsAnswer+in_ok-answer-in-NeedsAnswer, in-NeedsReply, in-NeedsChild+in_ok-join-in-NeedsChild, in-Event, in-Silent}
use Rattle.avm_core.proofs.tests.drive.Goals as goal

pub loop-preserved : goal.loop-preserved
loop-preserved c =
    let before = c.loop.invariant in
    let stepped = c.in_ok-evidence.ensures in
    let same = drives_same c.args.program.now c.args.keys.now (length c.args.store.now.values) c.args.given c.match-branch-2.machine in
    elim c.match-branch-2.branch [
      | in-NeedsAnswer+in_ok-answer-in-NeedsAnswer w ↦ same w.answer.new.machine c.match-branch-2.store w.answer.new.store w.machine-is w.store-is (record {
        stands = w.in_ok-answer-in-NeedsAnswer.ensures.stands;
        grown = omega (arith, before.grown, stepped.grows, w.in_ok-answer-in-NeedsAnswer.ensures.grows);
        named = omega (arith, before.named, stepped.grows, w.in_ok-answer-in-NeedsAnswer.ensures.grows);
      })
      | in-NeedsReply w ↦ same w.give_reply.new.self c.match-branch-2.store c.stepped.new.store w.machine-is w.store-is (record {
        stands = w.give_reply.ensures.stands (length c.stepped.new.store.values) (omega (arith, before.named, stepped.grows)) c.args.keys.now stepped.stands;
        grown = omega (arith, before.grown, stepped.grows);
        named = omega (arith, before.named, stepped.grows);
      })
      | in-NeedsChild+in_ok-join-in-NeedsChild w ↦ same w.join.new.machine c.match-branch-2.store w.join.new.store w.machine-is w.store-is (record {
        stands = w.in_ok-join-in-NeedsChild.ensures.stands;
        grown = omega (arith, before.grown, stepped.grows, w.in_ok-join-in-NeedsChild.ensures.grows);
        named = omega (arith, before.named, stepped.grows, w.in_ok-join-in-NeedsChild.ensures.grows);
      })
      | in-Event w ↦ same c.stepped.new.machine c.match-branch-2.store c.stepped.new.store w.machine-is w.store-is (record {
        stands = stepped.stands;
        grown = omega (arith, before.grown, stepped.grows);
        named = omega (arith, before.named, stepped.grows);
      })
      | in-Silent w ↦ same c.stepped.new.machine c.match-branch-2.store c.stepped.new.store w.machine-is w.store-is (record {
        stands = stepped.stands;
        grown = omega (arith, before.grown, stepped.grows);
        named = omega (arith, before.named, stepped.grows);
      })
    ]

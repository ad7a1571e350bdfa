use Rattle.std.proofs.Common.{◌+◌, refl, ◌∙◌, ap}
use Rattle.manager_runner.proofs.StayFacts.{as_it_is, still_but}
use Rattle.manager_runner.proofs.rounds.keep.Goals as goal

pub loop-init : goal.loop-init
loop-init g c =
    record {
      made = c.requires.made;
      held = c.requires.held;
      measured = c.requires.measured;
      same = refl;
      stays = as_it_is c.args.hand.session (c.args.hand.session + 1) c.args.pass.now;
    }

pub loop-preserved : goal.loop-preserved
loop-preserved g c =
    let kept = c.loop.invariant in
    record {
      made = c.record.ensures.made;
      held = c.in-Busy.ensures.again.0;
      measured = c.in-Busy.ensures.again.1;
      same = c.in-Busy.ensures.told.one.changes.0 ∙ kept.same;
      stays = still_but c.args.hand.session c.loop.held.session _ c.args.pass.now c.loop.pass c.record.new.pass (ap (λ h. h.session) kept.same) kept.stays c.record.ensures.openings c.record.ensures.told;
    }

pub returns-in-Kept-clause-stays : goal.returns-in-Kept-clause-stays
returns-in-Kept-clause-stays g c =
    let kept = c.loop.invariant in
    still_but c.args.hand.session c.loop.held.session _ c.args.pass.now c.loop.pass c.record.new.pass (ap (λ h. h.session) kept.same) kept.stays c.record.ensures.openings c.record.ensures.told

pub returns-in-Ended-clause-stays : goal.returns-in-Ended-clause-stays
returns-in-Ended-clause-stays g c =
    let kept = c.loop.invariant in
    still_but c.args.hand.session c.loop.held.session _ c.args.pass.now c.loop.pass c.record.new.pass (ap (λ h. h.session) kept.same) kept.stays c.record.ensures.openings c.record.ensures.told

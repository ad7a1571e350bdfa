use Rattle.manager_runner.proofs.ReadyFacts.{count_more, just_more, over_more}
use Rattle.manager_runner.proofs.tests.opened.Goals as goal

pub loop-preserved : goal.loop-preserved
loop-preserved g c =
    let kept = c.loop.invariant in
    let new = c.in-Ok.ensures in
    record {
      count = count_more c.loop.sessions.items c.push.new.self.items c.in-Ok.session c.loop.counter kept.count c.in-Ok-push.ensures.items;
      just = just_more c.loop.sessions.items c.push.new.self.items c.in-Ok.session kept.just new.items c.in-Ok-push.ensures.items;
      over = over_more c.args.bench.now c.args.artefacts.now c.loop.sessions.items c.push.new.self.items c.in-Ok.session kept.over new.of_bench new.of_artefacts c.in-Ok-push.ensures.items;
    }

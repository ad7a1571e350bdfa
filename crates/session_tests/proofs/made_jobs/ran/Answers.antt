use Rattle.std.proofs.Common.{◌+◌, sym, subst}
use Rattle.std.specs.Prelude.{All}
use Rattle.session_desk.specs.Opening.{AreOpened, IsFit}
use Rattle.session_tests.proofs.made_jobs.ran.Goals as goal

pub run-requires-clause-workers : goal.run-requires-clause-workers
run-requires-clause-workers g c κs within =
    let opened = subst (λ l. AreOpened c.args.sessions.items (c.args.workers + 1) c.in-Ok.desk l) c.in-Some.ensures.items c.in-Ok.ensures in
    let fit = (c.workers_law.ensures c.args.sessions.items (c.args.workers + 1) c.in-Ok.desk c.pop.new.self.items c.in-Some.closer opened c.requires.over).1 in
    subst (λ l. All (IsFit c.args.bench.now c.args.artefacts.now c.in-Ok.desk) l) (sym c.as_mut_slice.ensures.value) fit

pub run-requires-clause-closer : goal.run-requires-clause-closer
run-requires-clause-closer g c κs within =
    let opened = subst (λ l. AreOpened c.args.sessions.items (c.args.workers + 1) c.in-Ok.desk l) c.in-Some.ensures.items c.in-Ok.ensures in
    (c.workers_law.ensures c.args.sessions.items (c.args.workers + 1) c.in-Ok.desk c.pop.new.self.items c.in-Some.closer opened c.requires.over).2

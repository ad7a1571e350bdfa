-- The last pass closes, and those before it are the workers'.
use Rattle.std.proofs.Common.{List, length, subst, sym}
use Rattle.std.specs.Prelude.{All}
use Rattle.std.proofs.lemmas.Result.{IfOk-weaker}
use Rattle.session_core.specs.declared.opened.Opened.{Opened}
use Rattle.session_desk.specs.Opening.{IsFit}
use Rattle.session_desk.specs.Views.{Known}
use Rattle.manager_runner.specs.Ended.{AreRecords, HasRecord}
use Rattle.copland_cli.proofs.AttestLemmas.{fit_before, fit_last, last_in}
use Rattle.copland_cli.proofs.attest.run_at.Goals as goal

pub run-requires-clause-workers : goal.run-requires-clause-workers
run-requires-clause-workers g c κs within =
    subst (λ (ps : List (Known (Opened g.row.B.Denot))). All (IsFit c.args.bench.now c.args.artefacts.now c.args.desk.now) ps) (sym c.as_mut_slice.ensures.value)
    (fit_before (IsFit c.args.bench.now c.args.artefacts.now c.args.desk.now) c.args.passes.items c.pop.new.self.items c.in-Some.closer c.in-Some.ensures.items c.requires.fit)

pub run-requires-clause-closer : goal.run-requires-clause-closer
run-requires-clause-closer g c κs within =
    fit_last (IsFit c.args.bench.now c.args.artefacts.now c.args.desk.now) c.args.passes.items c.pop.new.self.items c.in-Some.closer c.in-Some.ensures.items c.requires.fit

pub returns : goal.returns
returns g c =
    IfOk-weaker c.run.result (λ records. AreRecords (length c.args.desk.now) (HasRecord (λ opening ask answer. g.B.Bench.gives opening.bench.now opening.artefacts.now ask answer) (λ opening ask fault. g.B.Bench.fails opening.bench.now opening.artefacts.now ask fault) (λ opening ask. g.B.Bench.starves opening.bench.now opening.artefacts.now ask)) records.items c.run.new.closer.views) _
    (λ records found. record {
      number = length c.pop.new.self.items;
      first = c.in-Some.closer;
      last = c.run.new.closer;
      one = last_in c.args.passes.items c.pop.new.self.items c.in-Some.closer c.in-Some.ensures.items;
      openings = c.run.ensures.stays.openings;
      found = found;
    })
    c.run.ensures.records

-- The desk is opened with the sessions of the job, and all its passes may run them.
use Rattle.std.proofs.Common.{◌+◌, length, arith}
use Rattle.std.proofs.lemmas.Result.{IfOk-weaker}
use Rattle.copland_cli.specs.Opened.{AreClosed}
use Rattle.copland_cli.proofs.AttestLemmas.{as_many, closed_attested, just_opened, opened_over}
use Rattle.copland_cli.proofs.attest.run_all.Goals as goal

pub open-requires-clause-count : goal.open-requires-clause-count
open-requires-clause-count g c =
    omega (arith, c.requires.few, as_many g.B.Bench.gives g.B.Bench.fails g.B.Bench.starves c.args.job.now.places c.args.job.now.artefacts c.args.bench.now c.args.job.now.sessions.items c.args.sessions.items c.requires.opened)

pub open-requires-clause-opened : goal.open-requires-clause-opened
open-requires-clause-opened g c =
    just_opened g.B.Bench.gives g.B.Bench.fails g.B.Bench.starves c.args.job.now.places c.args.job.now.artefacts c.args.bench.now c.args.job.now.sessions.items c.args.sessions.items c.requires.opened

pub run_at-requires-clause-fit : goal.run_at-requires-clause-fit
run_at-requires-clause-fit g c κs within = λ number pass there.
    c.opened_law.ensures c.args.sessions.items (c.args.workers + 1) c.in-Ok.desk c.in-Ok.passes.items number pass c.in-Ok.ensures
    (opened_over g.B.Bench.gives g.B.Bench.fails g.B.Bench.starves c.args.job.now.places c.args.job.now.artefacts c.args.bench.now c.args.job.now.sessions.items c.args.sessions.items c.requires.opened) there

pub returns-in-Ok : goal.returns-in-Ok
returns-in-Ok g c =
    IfOk-weaker c.run_at.result (λ records. AreClosed (λ opening ask answer. g.B.Bench.gives opening.bench.now opening.artefacts.now ask answer) (λ opening ask fault. g.B.Bench.fails opening.bench.now opening.artefacts.now ask fault) (λ opening ask. g.B.Bench.starves opening.bench.now opening.artefacts.now ask) (length c.in-Ok.desk) c.in-Ok.passes.items records.items) _
    (λ records closed. closed_attested g.B.Bench.gives g.B.Bench.fails g.B.Bench.starves c.args.job.now.places c.args.job.now.artefacts c.args.bench.now c.record_law.ensures c.args.job.now.sessions.items c.args.sessions.items (c.args.workers + 1) c.in-Ok.desk c.in-Ok.passes.items records.items c.requires.opened c.in-Ok.ensures closed)
    c.run_at.ensures

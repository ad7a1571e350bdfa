-- The record that was found, or the error of the audit.
use Rattle.std.proofs.Common.{rules}
use Rattle.job_reader.specs.Accepted.{job_view}
use Rattle.copland_cli.specs.Offered.{offer_of}
use Rattle.copland_cli.proofs.AuditLemmas.{refused_so, reported_so}
use Rattle.copland_cli.proofs.audit.audit_bundle.Goals as goal

pub returns-in-Ok : goal.returns-in-Ok
returns-in-Ok g c =
    reported_so (g.B.Bench.gives c.args.bench.now) (g.B.Bench.fails c.args.bench.now) (g.B.Bench.starves c.args.bench.now) (job_view c.args.job.now) (offer_of c.offered_in-offered.result) c.items.result.now c.in-Ok.found c.report_of.result c.offered_in-offered.ensures.offered c.in-Ok.ensures.answers c.report_of.ensures (search rules)

pub returns-in-Err : goal.returns-in-Err
returns-in-Err g c =
    refused_so (g.B.Bench.gives c.args.bench.now) (g.B.Bench.fails c.args.bench.now) (g.B.Bench.starves c.args.bench.now) (job_view c.args.job.now) (offer_of c.offered_in-offered.result) c.items.result.now c.in-Err.error c.refusal_for.result c.offered_in-offered.ensures.offered c.in-Err.ensures.answers c.refusal_for.ensures (search rules)

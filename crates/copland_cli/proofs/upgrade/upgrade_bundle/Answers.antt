-- The bundle of what was decoded, which is that of the job.
use Rattle.std.proofs.Common.{rules}
use Rattle.evidence_types.specs.Shape.{form}
use Rattle.job_reader.specs.Accepted.{job_view}
use Rattle.copland_cli.specs.Offered.{offer_of}
use Rattle.copland_cli.proofs.ReportLemmas.{of_upgrade}
use Rattle.copland_cli.proofs.upgrade.upgrade_bundle.Goals as goal

pub returns-in-Ok-upgraded : goal.returns-in-Ok-upgraded
returns-in-Ok-upgraded c =
    of_upgrade (job_view c.args.job.now) (offer_of c.offered_in-offered.result) c.items.result.now (form c.in-Ok.shape) c.in-Ok-value_in.found c.in-Ok-upgraded.text c.offered_in-offered.ensures.offered c.in-Ok-value_in.ensures c.in-Ok-upgraded.ensures c.in-Ok.ensures (search rules)

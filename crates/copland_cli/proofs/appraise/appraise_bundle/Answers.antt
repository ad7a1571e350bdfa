-- The verdicts on the job's bundle.
use Rattle.evidence_types.specs.Shape.{form}
use Rattle.job_reader.specs.Accepted.{job_view}
use Rattle.copland_cli.specs.Offered.{offer_of}
use Rattle.copland_cli.proofs.ReportLemmas.{of_verdicts}
use Rattle.copland_cli.proofs.appraise.appraise_bundle.Goals as goal

pub returns : goal.returns
returns c =
    of_verdicts (job_view c.args.job.now) (offer_of c.offered_in-offered.result) (form c.in-Ok.shape) c.appraise_by.result c.offered_in-offered.ensures.offered c.in-None.ensures c.in-Ok.ensures c.appraise_by.ensures

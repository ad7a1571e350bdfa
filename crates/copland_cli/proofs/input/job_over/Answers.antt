-- A job is refused for what was found, or for want of memory.
use Rattle.std.proofs.Common.{Bool, subst}
use Rattle.job_reader.specs.Accepted.{job_view}
use Rattle.job_reader.specs.Finding.{IsAccepted}
use Rattle.copland_cli.proofs.OfferLemmas.{has_needed}
use Rattle.copland_cli.proofs.OutcomeLemmas.{refused_at}
use Rattle.copland_cli.proofs.input.job_over.Goals as goal

pub returns-in-Err-clause-job : goal.returns-in-Err-clause-job
returns-in-Err-clause-job c =
    refused_at c.args.bytes.now c.args.need c.is_required.result c.in-Err.error c.refusal_for.result c.is_required.ensures c.in-Err.ensures.finding c.in-Err.ensures.exact c.refusal_for.ensures

pub returns-in-Ok-clause-needed : goal.returns-in-Ok-clause-needed
returns-in-Ok-clause-needed c =
    has_needed c.args.bytes.now c.args.need (job_view c.in-Ok.job)
    (subst (λ (b : Bool). IsAccepted c.args.bytes.now b (job_view c.in-Ok.job)) c.is_required.ensures c.in-Ok.ensures.finding)

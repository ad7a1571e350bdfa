-- The report of the verdicts that were found.
use Rattle.std.proofs.Common.{rules}
use Rattle.evidence_types.specs.Shape.{form}
use Rattle.copland_cli.specs.Appraised.{shape_in}
use Rattle.copland_cli.specs.Offered.{offer_of}
use Rattle.copland_cli.proofs.ReportLemmas.{reported_by}
use Rattle.copland_cli.proofs.appraise.appraise_by.Goals as goal

pub returns-in-Ok : goal.returns-in-Ok
returns-in-Ok c =
    let offer = offer_of c.args.offered in
    reported_by c.args.job.now.places c.args.job.now.references c.items.result.now c.args.offered.bundle.now.bytes (form c.args.shape.now) (shape_in offer) c.nonce.result.now offer.session.nonce c.args.offered.bundle.now.session _ _ c.report_of.result c.in-Ok.ensures c.report_of.ensures (search rules) c.requires.shape (search rules) (search rules)

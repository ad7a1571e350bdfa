-- The marks of the shape fit a bundle of the value.
use Rattle.std.proofs.Common.{rules, subst}
use Rattle.evidence_types.specs.Evidence.{evidence}
use Rattle.evidence_types.specs.Shape.{Form, form}
use Rattle.copland_cli.specs.Appraised.{shape_in}
use Rattle.copland_cli.specs.Offered.{IsDecodedFrom, offer_of}
use Rattle.copland_cli.proofs.ReportLemmas.{marks_at}
use Rattle.copland_cli.proofs.UpgradeLemmas.{fits_marked}
use Rattle.copland_cli.proofs.upgrade.upgraded.Goals as goal

pub encode_marked-requires : goal.encode_marked-requires
encode_marked-requires c =
    let offer = offer_of c.args.offered in
    let places = c.args.job.now.places in
    let decoded = subst (λ (s : Form). IsDecodedFrom places c.args.offered.bundle.now.bytes s c.args.found.now) c.requires.shape c.requires.decoded in
    fits_marked c.upgrade_law.ensures offer.session.phrase offer.session.root places c.args.offered.bundle.now.bytes (evidence c.args.found.now.value) c.args.found.now.marks c.items.result.now c.requires.runnable.bounded.light decoded.bundle decoded.fits
    (marks_at places (form c.args.shape.now) (shape_in offer) _ c.items.result.now c.in_ok-marks.ensures c.requires.shape (search rules))

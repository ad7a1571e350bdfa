-- A shape has few nodes, as its phrase is light.
use Rattle.copland_cli.specs.Offered.{offer_of}
use Rattle.copland_cli.proofs.UpgradeLemmas.{shape_has_few}
use Rattle.copland_cli.proofs.offer.shape_is_fit.Goals as goal

pub returns-clause-few : goal.returns-clause-few
returns-clause-few c =
    let session = (offer_of c.args.offered).session in shape_has_few session.phrase session.root c.requires.runnable.bounded.light

pub returns-clause-appraised : goal.returns-clause-appraised
returns-clause-appraised c =
    let session = (offer_of c.args.offered).session in
    c.shape_law.ensures.appraised session.phrase session.root c.args.job.now.places c.args.job.now.references session.nonce c.requires.runnable.bounded.light c.requires.runnable.keyed

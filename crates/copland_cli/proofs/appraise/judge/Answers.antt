-- All bytes were fed.
use Rattle.std.proofs.Common.{[]}
use Rattle.evidence_types.specs.Shape.{form}
use Rattle.appraiser.specs.Appraised.{basis_of}
use Rattle.copland_cli.proofs.appraise.judge.Goals as goal

pub returns-in-Ok-feed_all : goal.returns-in-Ok-feed_all
returns-in-Ok-feed_all c =
    let places = c.args.job.now.places in
    let basis = basis_of places c.args.job.now.references c.args.nonce.now in
    let shape = form c.args.shape.now in
    c.refused.ensures places basis c.args.bytes.now shape (c.finish.ensures.appraised places basis shape c.args.bytes.now (c.in-Ok-feed_all.ensures.fed places basis shape [] c.in-Ok.ensures.fed))

-- The verdicts are those on the session's value.
use Rattle.evidence_types.specs.Shape.{form, shape_at}
use Rattle.phrase_tree.specs.Term.{term}
use Rattle.place_check.specs.Session.{session_of}
use Rattle.job_reader.specs.Accepted.{job_view}
use Rattle.load_runner.specs.Figures.{value_with}
use Rattle.load_runner.proofs.FoundLemmas.{bundle_at, can_at, good_at, shape_is, value_at}
use Rattle.load_runner.proofs.appraisal.is_good.Goals as goal

pub verdicts_on-requires-clause-appraised : goal.verdicts_on-requires-clause-appraised
verdicts_on-requires-clause-appraised c =
    let checked = c.args.checked.now in
    can_at c.args.job.now.places c.args.job.now.references checked.nonce c.nonce.result.now (shape_at (term checked.phrase) checked.root) (form c.in_ok-shape.shape) c.can_be_appraised.ensures c.nonce.ensures (shape_is (form c.in_ok-shape.shape) c.phrase.result.now checked.phrase c.root.result checked.root c.in_ok-shape.ensures c.phrase.ensures.phrase c.root.ensures)

pub verdicts_on-requires-clause-value : goal.verdicts_on-requires-clause-value
verdicts_on-requires-clause-value c =
    let checked = c.args.checked.now in
    value_at c.args.done.now.bundle c.items.result.now (shape_at (term checked.phrase) checked.root) (form c.in_ok-shape.shape) (value_with (job_view c.args.job.now) (session_of checked) c.args.done.now.answers) c.has_a_bundle.ensures.bundle c.has_a_bundle.ensures.fits c.items.ensures (shape_is (form c.in_ok-shape.shape) c.phrase.result.now checked.phrase c.root.result checked.root c.in_ok-shape.ensures c.phrase.ensures.phrase c.root.ensures)

pub returns : goal.returns
returns c =
    let checked = c.args.checked.now in
    let value = value_with (job_view c.args.job.now) (session_of checked) c.args.done.now.answers in
    good_at c.args.job.now.places c.args.job.now.references checked.nonce c.nonce.result.now (shape_at (term checked.phrase) checked.root) (form c.in_ok-shape.shape) value c.in_ok-found.found c.accepted.result c.accepted.ensures (c.in_ok-found.ensures value (bundle_at c.args.done.now.bundle c.items.result.now value c.has_a_bundle.ensures.bundle c.items.ensures)) c.nonce.ensures (shape_is (form c.in_ok-shape.shape) c.phrase.result.now checked.phrase c.root.result checked.root c.in_ok-shape.ensures c.phrase.ensures.phrase c.root.ensures)

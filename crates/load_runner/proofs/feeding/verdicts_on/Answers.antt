-- The bytes are the bundle of the value, so appraisal finds it.
use Rattle.std.proofs.Common.{◌∙◌, [], ap}
use Rattle.std.specs.Prelude.{Err}
use Rattle.evidence_types.specs.Shape.{form}
use Rattle.appraiser.specs.Appraised.{basis_of}
use Rattle.stream_appraiser.specs.declared.error.StreamError.{StreamError}
use Rattle.load_runner.proofs.FoundLemmas.{its_verdicts, never_bad, never_wrong}
use Rattle.load_runner.proofs.feeding.verdicts_on.Goals as goal

pub unreachable-requires : goal.unreachable-requires
unreachable-requires c =
    let places = c.args.job.now.places in
    let basis = basis_of places c.args.job.now.references c.args.nonce.now in
    let shape = form c.args.shape.now in
    let bytes = c.args.bytes.now in
    let found = c.finish.ensures.appraised places basis shape bytes (c.in_ok-feed_all.ensures.fed places basis shape [] c.in_ok-appraiser.ensures.fed) in
    never_bad places basis bytes shape c.finish.result c.in-Err-Bad.field-0-0 c.in-Err-Bad.field-0-1 c.requires.value found (c.in-Err-Bad.is ∙ ap (λ (e : StreamError). Err e) c.in-Err-Bad.field-0-is)

pub unreachable-requires-in-Err-WrongShape : goal.unreachable-requires-in-Err-WrongShape
unreachable-requires-in-Err-WrongShape c =
    let places = c.args.job.now.places in
    let basis = basis_of places c.args.job.now.references c.args.nonce.now in
    let shape = form c.args.shape.now in
    let bytes = c.args.bytes.now in
    let found = c.finish.ensures.appraised places basis shape bytes (c.in_ok-feed_all.ensures.fed places basis shape [] c.in_ok-appraiser.ensures.fed) in
    never_wrong places basis bytes shape c.finish.result c.in-Err-WrongShape.field-0-0 c.requires.value found (c.in-Err-WrongShape.is ∙ ap (λ (e : StreamError). Err e) c.in-Err-WrongShape.field-0-is)

pub returns-in-Ok : goal.returns-in-Ok
returns-in-Ok c = λ value is.
    let places = c.args.job.now.places in
    let basis = basis_of places c.args.job.now.references c.args.nonce.now in
    let shape = form c.args.shape.now in
    let bytes = c.args.bytes.now in
    its_verdicts places basis bytes shape c.in-Ok.found (c.in-Ok.ensures.appraised places basis shape bytes (c.in_ok-feed_all.ensures.fed places basis shape [] c.in_ok-appraiser.ensures.fed)) value is

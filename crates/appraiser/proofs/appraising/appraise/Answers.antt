-- No node is a misfit, so the value fits.
use Rattle.std.proofs.Common.{sym}
use Rattle.evidence_types.specs.Evidence.{evidence}
use Rattle.evidence_types.specs.Shape.{form}
use Rattle.std.specs.Option.{option_copied}
use Rattle.appraiser.proofs.FitLemmas.{fits_of}
use Rattle.appraiser.proofs.appraising.appraise.Goals as goal

pub judge-requires-clause-fits : goal.judge-requires-clause-fits
judge-requires-clause-fits c =
    fits_of c.args.places.now (evidence c.args.value.now) (option_copied c.args.marks) (form c.args.shape.now) (sym c.in_default.ensures)

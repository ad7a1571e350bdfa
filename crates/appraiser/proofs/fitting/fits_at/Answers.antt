-- The walk over the whole value.
use Rattle.std.proofs.Common.{sym}
use Rattle.evidence_types.specs.Evidence.{evidence}
use Rattle.evidence_types.specs.Shape.{form}
use Rattle.std.specs.Option.{option_copied}
use Rattle.appraiser.specs.Fit.{marks_in}
use Rattle.appraiser.proofs.FitLemmas.{whole_passes, whole_stops}
use Rattle.appraiser.proofs.fitting.fits_at.Goals as goal

pub returns-in-Ok : goal.returns-in-Ok
returns-in-Ok c =
    sym (whole_passes c.args.places.now (evidence c.args.value.now) (marks_in (option_copied c.args.marks)) (form c.args.shape.now) (rw c.bytes_in.ensures at c.in-Ok.ensures.0))

pub returns-in-Err : goal.returns-in-Err
returns-in-Err c =
    sym (whole_stops c.args.places.now (evidence c.args.value.now) (marks_in (option_copied c.args.marks)) (form c.args.shape.now) c.in-Err.at (rw c.bytes_in.ensures at c.in-Err.ensures))

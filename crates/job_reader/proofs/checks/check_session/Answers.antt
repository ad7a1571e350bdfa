-- What the check refused is what keeps the session from being run.
use Rattle.std.proofs.Common.{refl}
use Rattle.phrase_tree.specs.Term.{term}
use Rattle.evidence_types.specs.Measure.{oversize_at}
use Rattle.place_check.specs.Rules.{faults}
use Rattle.job_reader.specs.Whole.{misplaced, oversize}
use Rattle.job_reader.proofs.CheckLemmas.{misplaced_hinders, oversize_hinders}
use Rattle.job_reader.proofs.checks.check_session.Goals as goal

pub returns-in-Err-Misplaced : goal.returns-in-Err-Misplaced
returns-in-Err-Misplaced c =
    let event = c.in-Err-Misplaced.event in
    let kind = c.in-Err-Misplaced.kind in
    let phrase = term c.args.session.phrase in
    let known = rw c.in-Err-Misplaced.field-0-is at c.in-Err-Misplaced.ensures in
    λ other. (misplaced event kind, refl, misplaced_hinders (faults c.args.places.now c.args.session.root phrase) (oversize_at phrase) event kind known)

pub returns-in-Err-Oversize : goal.returns-in-Err-Oversize
returns-in-Err-Oversize c =
    let event = c.in-Err-Oversize.event in
    let phrase = term c.args.session.phrase in
    let known = rw c.in-Err-Oversize.field-0-is at c.in-Err-Oversize.ensures in
    λ other. (oversize event, refl, oversize_hinders (faults c.args.places.now c.args.session.root phrase) (oversize_at phrase) event known.0 known.1)

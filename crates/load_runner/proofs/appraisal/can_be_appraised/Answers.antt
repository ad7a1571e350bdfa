-- The session is light, its events have keys, and its measurements references.
use Rattle.phrase_tree.specs.Term.{term}
use Rattle.place_check.specs.Session.{session_of}
use Rattle.job_reader.specs.Accepted.{job_view}
use Rattle.load_runner.proofs.LeafLemmas.{has_references}
use Rattle.load_runner.proofs.appraisal.can_be_appraised.Goals as goal

pub returns : goal.returns
returns c =
    let checked = c.args.checked.now in
    c.shape_law.ensures.appraised (term checked.phrase) checked.root c.args.job.now.places c.args.job.now.references checked.nonce c.phrase.ensures.bounded.light c.checked_session_has_keys.ensures (has_references (job_view c.args.job.now) (session_of checked) c.requires.answered)

-- The parts are those of the job.
use Rattle.std.proofs.Common.{◌∙◌, ap, sym, subst, map}
use Rattle.phrase_tree.specs.Term.{term}
use Rattle.place_check.specs.Session.{IsBounded, IsCheckedAgainst, session_of}
use Rattle.load_maker.specs.Artefacts.{made_artefacts}
use Rattle.load_maker.proofs.JobLemmas.{job_made}
use Rattle.load_maker.proofs.SessionLemmas.{each_runs}
use Rattle.load_maker.proofs.job.load_job.Goals as goal

pub returns : goal.returns
returns c =
    let first = c.first-draws.ensures in
    let made = c.in_ok-artefacts.ensures.made in
    let later = c.made_artefacts.new.draws in
    record {
      made =
          job_made c.args.number later c.in_ok-places.places c.in_ok-artefacts.artefacts (map session_of c.in_ok-sessions.sessions.items) c.in_ok-references.references c.in_ok-places.ensures (made.0 ∙ ap (λ from. (made_artefacts 64 from).thing) first) (made.1 ∙ ap (λ from. (made_artefacts 64 from).from) first) c.in_ok-sessions.ensures.0 c.in_ok-references.ensures;
      checked = λ index checked is.
          subst (λ list. IsCheckedAgainst (session_of checked) list × IsBounded (term checked.phrase)) (sym c.in_ok-places.ensures) (each_runs c.args.number later c.in_ok-sessions.sessions.items c.in_ok-sessions.ensures.0 index checked is);
    }

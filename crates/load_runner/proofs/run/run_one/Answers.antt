-- The record is that of the session, and what is counted is its.
use Rattle.std.proofs.Common.{◌∙◌, ◌+◌, ap, arith}
use Rattle.phrase_tree.specs.declared.phrase.Phrase.{Phrase}
use Rattle.phrase_tree.specs.Numbering.{event_count}
use Rattle.phrase_tree.specs.Term.{term}
use Rattle.place_check.specs.Session.{session_of}
use Rattle.session_model.specs.Recorded.{recorded}
use Rattle.job_reader.specs.Accepted.{job_view}
use Rattle.load_runner.specs.Figures.{one_if}
use Rattle.load_runner.proofs.FoundLemmas.{bundled_so}
use Rattle.load_runner.proofs.run.run_one.Goals as goal

pub is_accepted-requires-clause-bundled : goal.is_accepted-requires-clause-bundled
is_accepted-requires-clause-bundled g c =
    bundled_so (job_view c.args.job.now) (g.B.Bench.gives c.args.bench.now c.args.job.now.artefacts) (g.B.Bench.fails c.args.bench.now c.args.job.now.artefacts) (session_of c.args.checked.now) (recorded c.in_ok-found.found) c.in_ok-found.ensures

pub returns : goal.returns
returns g c =
    let counted = ap (λ (p : Phrase). event_count (term p)) c.phrase.ensures.phrase in
    record {
      found = recorded c.in_ok-found.found;
      is = c.in_ok-found.ensures;
      events = omega (arith, c.count.ensures.events, c.events.ensures, counted);
      few = c.phrase.ensures.bounded.sized.events;
      done = c.count.ensures.done;
      accepted = c.count.ensures.accepted ∙ ap (λ b. c.args.tally.now.accepted + one_if b) c.in_ok-good.ensures;
      fed = c.count.ensures.fed;
    }

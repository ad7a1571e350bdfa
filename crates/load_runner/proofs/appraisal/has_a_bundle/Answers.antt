-- The session is sized and light, its nonce has 16 bytes and its answers are short.
use Rattle.std.proofs.Common.{◌∙◌, ℕ, List, length, ap, subst, sym}
use Rattle.evidence_types.specs.Bytes.{bundle}
use Rattle.phrase_tree.specs.Term.{term}
use Rattle.place_check.specs.Places.{keys_of}
use Rattle.place_check.specs.Session.{session_of}
use Rattle.plain_eval.specs.AllShort.{AllShort}
use Rattle.plain_eval.proofs.EndLemmas.{bundles}
use Rattle.session_model.specs.Value.{Makings}
use Rattle.session_model.proofs.FitLemmas.{session_value_fits}
use Rattle.job_reader.specs.Accepted.{job_view}
use Rattle.load_runner.specs.Figures.{value_with}
use Rattle.load_runner.proofs.FoundLemmas.{bundle_at}
use Rattle.load_runner.proofs.appraisal.has_a_bundle.Goals as goal

pub returns-clause-bundle : goal.returns-clause-bundle
returns-clause-bundle c =
    let checked = c.args.checked.now in
    let value = value_with (job_view c.args.job.now) (session_of checked) c.args.done.now.answers in
    let from : Makings = record { nonce = checked.nonce; answers = c.args.done.now.answers; keys = keys_of c.args.job.now.places } in
    let short = subst (λ (a : List (ℕ × List ℕ)). AllShort a) c.items.ensures.items c.are_short.ensures in
    bundle_at (bundle value) c.args.done.now.bundle value (bundles (term checked.phrase) checked.root from c.phrase.ensures.bounded.sized c.phrase.ensures.bounded.light (ap (λ (n : List ℕ). length n) (sym c.nonce.ensures) ∙ c.are_sixteen.ensures) short) c.requires

pub returns-clause-fits : goal.returns-clause-fits
returns-clause-fits c =
    let checked = c.args.checked.now in
    session_value_fits (term checked.phrase) checked.root (record { nonce = checked.nonce; answers = c.args.done.now.answers; keys = keys_of c.args.job.now.places })

-- The value that was made is the session's, which fits a bundle.
use Rattle.phrase_tree.specs.Term.{term}
use Rattle.session_model.specs.Value.{Makings}
use Rattle.plain_eval.proofs.BundleLemmas.{value_fits}
use Rattle.plain_eval.proofs.evaluating.eval.Goals as goal

pub returns-clause-fits : goal.returns-clause-fits
returns-clause-fits c = λ light.
    let from : Makings = record { nonce = c.args.nonce.now; answers = c.args.answers.now; keys = c.args.keys.now } in
    rw (c.into_inner.ensures, c.in_ok-made.ensures.value, c.in_ok-before.ensures)
    (value_fits (term c.args.phrase.now) c.args.place from light c.told-nonce c.in_ok-made.ensures.short)

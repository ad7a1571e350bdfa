-- The nonce stands at the beginning, and the bytes of the value at the end, which are few.
use Rattle.std.proofs.Common.{◌≡◌, ◌∙◌, subst, arith}
use Rattle.phrase_tree.specs.Term.{term}
use Rattle.evidence_types.specs.Bytes.{encoding}
use Rattle.session_model.specs.Value.{Makings, session_value}
use Rattle.plain_eval.specs.AllShort.{AllShort}
use Rattle.plain_eval.specs.declared.given.Given.{Given}
use Rattle.plain_eval.proofs.EndLemmas.{begins, bundles, spelled_so}
use Rattle.plain_eval.proofs.bundling.eval_bundle.Goals as goal

pub finish-requires : goal.finish-requires
finish-requires c =
    let given : Given = record { phrase = c.args.phrase; root = c.args.place; nonce = c.args.nonce; answers = c.args.answers; keys = c.args.keys } in
    let e = c.in_ok-work.ensures in
    begins given c.in_ok-work.work (omega (arith, c.requires.sized.events)) c.requires.keys e.steps e.made e.rest.0 e.rest.1 e.rest.2

pub bundled-requires : goal.bundled-requires
bundled-requires c =
    let from : Makings = record { nonce = c.args.nonce.now; answers = c.args.answers.now; keys = c.args.keys.now } in
    let value = session_value (term c.args.phrase.now) c.args.place from in
    let whole = bundles (term c.args.phrase.now) c.args.place from c.requires.sized c.requires.light c.told-nonce (subst AllShort c.items.ensures.items c.answers_are_short.ensures) in
    let same : c.bytes.result.now ≡ encoding value = c.bytes.ensures ∙ c.in_ok-finish.ensures in
    rw same (omega (arith, whole.fits.small))

pub returns-clause-readable : goal.returns-clause-readable
returns-clause-readable c =
    let from : Makings = record { nonce = c.args.nonce.now; answers = c.args.answers.now; keys = c.args.keys.now } in
    let value = session_value (term c.args.phrase.now) c.args.place from in
    let whole = bundles (term c.args.phrase.now) c.args.place from c.requires.sized c.requires.light c.told-nonce (subst AllShort c.items.ensures.items c.answers_are_short.ensures) in
    let same : c.bytes.result.now ≡ encoding value = c.bytes.ensures ∙ c.in_ok-finish.ensures in
    spelled_so c.bundled.result c.bytes.result.now value same c.bundled.ensures whole
